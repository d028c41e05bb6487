-- A loop that changes a copy of a list from the front, with T's value at each index: what is done, what is still as it was, and the steps.
-- Assumes nothing.
use mathlib.Core.Path.{◌≡◌, refl, sym, ap, subst, ◌∙◌}
use mathlib.Core.List.{List, [], ◌∷◌}
use Prim.Native.Nat.{ℕ, zero, suc, ◌+◌, ◌<◌, ◌≤◌}
use native.Mathlib.Nat.{not-suc-le-zero}
use native.Mathlib.Decide.{ℕ_discrete}
use native.Mathlib.Omega.{arith}
use lib.ListN.{length, get_or, set, length-set}
use lib.Seq.{get_or-set_same, get_or-set_other, ext_get_or}

module _ {A : Type 0} (d : A) (a : List A) (T : ℕ → A) where
  pub record Changing (i : ℕ) (out : List A) : Type 0 where
    pub len : length out ≡ length a
    pub done : (j : ℕ) → j < i → get_or out j d ≡ T j
    pub todo : (j : ℕ) → i ≤ j → get_or out j d ≡ get_or a j d

  pub none : Changing 0 a
  none = record { len = refl; done = λ j l. absurd (not-suc-le-zero l); todo = λ j l. refl }

  -- the front agrees already
  pub front : (i : ℕ) → ((j : ℕ) → j < i → get_or a j d ≡ T j) → Changing i a
  front i h = record { len = refl; done = h; todo = λ j l. refl }

  pub same : (i : ℕ) (out : List A) → Changing i out → get_or a i d ≡ T i → Changing (i + 1) out
  same i out f e = record { len = f.len; done = λ j l. at j l (ℕ_discrete j i); todo = λ j l. f.todo j (omega arith) }
    where
      at : (j : ℕ) → j < i + 1 → Dec (j ≡ i) → get_or out j d ≡ T j
      at j l (yes q) = subst (λ (k : ℕ). get_or out k d ≡ T k) (sym q) (f.todo i (omega arith) ∙ e)
      at j l (no q) = f.done j (omega (arith, q))

  pub store : (i : ℕ) (out : List A) (v : A) → Changing i out → i < length a → v ≡ T i → Changing (i + 1) (set out i v)
  store i out v f h e =
      record {
        len = length-set out i v ∙ f.len;
        done = λ j l. at j l (ℕ_discrete j i);
        todo = λ j l. get_or-set_other out i j v d (λ q. absurd (omega (arith, q))) ∙ f.todo j (omega arith);
      }
    where
      at : (j : ℕ) → j < i + 1 → Dec (j ≡ i) → get_or (set out i v) j d ≡ T j
      at j l (yes q) = subst (λ (k : ℕ). get_or (set out i v) k d ≡ T k) (sym q) (get_or-set_same out i v d (omega (arith, f.len)) ∙ e)
      at j l (no q) = get_or-set_other out i j v d q ∙ f.done j (omega (arith, q))

  pub whole : (L : List A) (i : ℕ) (out : List A) → Changing i out → length a ≤ i → length L ≡ length a → ((j : ℕ) → T j ≡ get_or L j d) → out ≡ L
  whole L i out f h e t = ext_get_or d out L (f.len ∙ sym e) (λ j l. f.done j (omega (arith, f.len)) ∙ t j)
