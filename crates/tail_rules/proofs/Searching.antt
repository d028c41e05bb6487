-- The search over all words of fourteen bytes finds what the repair means; and there is one answer.
-- Assumes nothing.
use mathlib.Core.Bool.{Bool, true, false, cond, ◌&&◌, false≢true}
use mathlib.Core.List.{List, [], ◌∷◌}
use mathlib.Core.Path.{◌≡◌, refl, sym, ap, ap₂, subst, ◌∙◌}
use Prim.Native.Nat.{ℕ, zero, suc, ◌+◌, ◌*◌, ◌<◌}
use native.Mathlib.Decide.{ℕ_discrete}
use native.Mathlib.Nat.{not-suc-le-zero}
use native.Mathlib.Omega.{arith}
use lib.Dec.{leb, eqb}
use lib.ListN.{length}
use borrow.Author.Tests.{le-leb, leb-true, eqb-true, eq-eqb}
use Rattle.bits.specs.Bit.{Bytes}
use Rattle.bits.proofs.Belows.{below_none, below_cons, below_rest}
use Rattle.tail_rules.specs.Code.{syndrome, wrong, Near}
use Rattle.tail_rules.proofs.AtMostOne.{near_one}
use Rattle.tail_rules.specs.Repair.{Answer, refused, repaired, Repairs, vanishes, if_near, or_else, try_bytes, try_words, repair_of}

pub refused_repaired : {c : List ℕ} {n : ℕ} → repaired c n ≡ refused → ⊥
refused_repaired e = let z : ◌≡◌ {A = ℕ} 0 1 = cc in omega arith

-- ---- the bytes, and the words, that are tried

none_of : (a b : Answer) → or_else a b ≡ refused → (a ≡ refused) × (b ≡ refused)
none_of refused b e = (refl, e)
none_of (repaired c n) b e = absurd (refused_repaired e)

bytes_none : (k : ℕ) (f : ℕ → Answer) → try_bytes k f ≡ refused → (b : ℕ) → b < k → f b ≡ refused
unfolding try_bytes
bytes_none zero f e b l = absurd (not-suc-le-zero l)
bytes_none (suc k) f e b l = go (ℕ_discrete b k) (bytes_none k f (none_of (try_bytes k f) (f k) e).0 b)
  where
    go : Dec (b ≡ k) → (b < k → f b ≡ refused) → f b ≡ refused
    go (yes q) ih = ap f q ∙ (none_of (try_bytes k f) (f k) e).1
    go (no q) ih = ih (omega (arith, q))

pub record FoundByte (k : ℕ) (f : ℕ → Answer) (a : Answer) : Type 0 where
  pub at : ℕ
  pub low : at < k
  pub is : f at ≡ a

bytes_found : (k : ℕ) (f : ℕ → Answer) (c : List ℕ) (n : ℕ) → try_bytes k f ≡ repaired c n → FoundByte k f (repaired c n)
unfolding try_bytes
bytes_found zero f c n e = absurd (refused_repaired (sym e))
bytes_found (suc k) f c n e = go (try_bytes k f) refl e (bytes_found k f c n)
  where
    go : (a : Answer) → try_bytes k f ≡ a → or_else a (f k) ≡ repaired c n → (try_bytes k f ≡ repaired c n → FoundByte k f (repaired c n))
        → FoundByte (suc k) f (repaired c n)
    go refused p q ih = record { at = k; low = omega arith; is = q }
    go (repaired d m) p q ih = let v = ih (p ∙ q) in record { at = v.at; low = omega (arith, v.low); is = v.is }

words_none : (n : ℕ) (f : List ℕ → Answer) → try_words n f ≡ refused → (c : List ℕ) → length c ≡ n → Bytes c → f c ≡ refused
unfolding try_words
words_none zero f e [] l h = e
words_none zero f e (b ∷ c) l h = absurd (omega (arith, l))
words_none (suc n) f e [] l h = absurd (omega (arith, l))
words_none (suc n) f e (b ∷ c) l h =
    words_none n (λ c. f (b ∷ c)) (bytes_none 256 (λ b. try_words n (λ c. f (b ∷ c))) e b (h.at 0)) c (omega (arith, l)) (below_rest h)

pub record FoundWord (n : ℕ) (f : List ℕ → Answer) (a : Answer) : Type 0 where
  pub word : List ℕ
  pub long : length word ≡ n
  pub bytes : Bytes word
  pub is : f word ≡ a

words_found : (n : ℕ) (f : List ℕ → Answer) (c : List ℕ) (m : ℕ) → try_words n f ≡ repaired c m → FoundWord n f (repaired c m)
unfolding try_words
words_found zero f c m e = record { word = []; long = refl; bytes = below_none 256 (omega arith); is = e }
words_found (suc n) f c m e =
    let b = bytes_found 256 (λ b. try_words n (λ c. f (b ∷ c))) c m e in
    let v = words_found n (λ c. f (b.at ∷ c)) c m b.is in
    record { word = b.at ∷ v.word; long = ap suc v.long; bytes = below_cons b.low v.bytes; is = v.is }

-- ---- the test of a word

zeros_to : (n : ℕ) (c : List ℕ) → vanishes n c ≡ true → (i : ℕ) → i < n → syndrome c i ≡ 0
zeros_to zero c e i l = absurd (not-suc-le-zero l)
zeros_to (suc n) c e i l = go (eqb (syndrome c n) 0) refl e (ℕ_discrete i n) (λ q. zeros_to n c q i)
  where
    go : (b : Bool) → eqb (syndrome c n) 0 ≡ b → (b && vanishes n c) ≡ true → Dec (i ≡ n) → (vanishes n c ≡ true → i < n → syndrome c i ≡ 0)
        → syndrome c i ≡ 0
    go true p q (yes r) ih = ap (syndrome c) r ∙ eqb-true (syndrome c n) 0 p
    go true p q (no r) ih = ih q (omega (arith, r))
    go false p q r ih = absurd (false≢true q)

zeros_from : (n : ℕ) (c : List ℕ) → ((i : ℕ) → i < n → syndrome c i ≡ 0) → vanishes n c ≡ true
zeros_from zero c h = refl
zeros_from (suc n) c h =
    ap₂ (λ (x y : Bool). x && y) (eq-eqb (syndrome c n) 0 (h n (omega arith))) (zeros_from n c (λ i l. h i (omega arith)))

near_yes : (es t c : List ℕ) → Near es t c → if_near es t c ≡ repaired c (wrong [] t c)
unfolding if_near
near_yes es t c v =
    ap (λ (b : Bool). cond b (repaired c (wrong [] t c)) refused)
    (ap₂ (λ (x y : Bool). x && y) (zeros_from 6 c v.code.zero_at) (le-leb (2 * wrong es t c + length es) 6 v.close))

yes_near : (es t w c : List ℕ) (n : ℕ) → length w ≡ 14 → Bytes w → if_near es t w ≡ repaired c n → Near es t c × (n ≡ wrong [] t c)
unfolding if_near
yes_near es t w c n lw hw e = go (vanishes 6 w) (leb (2 * wrong es t w + length es) 6) refl refl e
  where
    go : (a b : Bool) → vanishes 6 w ≡ a → leb (2 * wrong es t w + length es) 6 ≡ b
        → cond (a && b) (repaired w (wrong [] t w)) refused ≡ repaired c n → Near es t c × (n ≡ wrong [] t c)
    go false b p q r = absurd (refused_repaired (sym r))
    go true false p q r = absurd (refused_repaired (sym r))
    go true true p q r =
        let same : w ≡ c = cc in
        let count : wrong [] t w ≡ n = cc in (
          subst (λ (x : List ℕ). Near es t x) same
              (record { code = record { long = lw; bytes = hw; zero_at = zeros_to 6 w p }; close = leb-true (2 * wrong es t w + length es) 6 q }),
          sym count ∙ ap (λ (x : List ℕ). wrong [] t x) same,
        )

-- ---- the meaning

pub means : (es t : List ℕ) → Repairs es t (repair_of es t)
unfolding repair_of Repairs
means es t = go (try_words 14 (if_near es t)) refl
  where
    go : (a : Answer) → try_words 14 (if_near es t) ≡ a → Repairs es t a
    go refused e = λ c v. refused_repaired (sym (near_yes es t c v) ∙ words_none 14 (if_near es t) e c v.code.long v.code.bytes)
    go (repaired c n) e =
        let v = words_found 14 (if_near es t) c n e in yes_near es t v.word c n v.long v.bytes v.is

one_answer : (es t : List ℕ) → Bytes t → length t ≡ 14 → (a b : Answer) → Repairs es t a → Repairs es t b → a ≡ b
unfolding Repairs
one_answer es t ht lt refused refused h g = refl
one_answer es t ht lt refused (repaired d m) h g = absurd (h d g.0)
one_answer es t ht lt (repaired c n) refused h g = absurd (g c h.0)
one_answer es t ht lt (repaired c n) (repaired d m) h g =
    let e : c ≡ d = near_one es t c d ht lt h.0 g.0 in
    ap₂ repaired e (h.1 ∙ ap (λ (x : List ℕ). wrong [] t x) e ∙ sym g.1)

-- what repairs is what the function answers
pub is_repair : (es t : List ℕ) → Bytes t → length t ≡ 14 → (a : Answer) → Repairs es t a → a ≡ repair_of es t
is_repair es t ht lt a h = one_answer es t ht lt a (repair_of es t) h (means es t)

-- what the function answers is near
pub repaired_near : (es t c : List ℕ) (n : ℕ) → repair_of es t ≡ repaired c n → Near es t c × (n ≡ wrong [] t c)
unfolding Repairs
repaired_near es t c n e = subst (Repairs es t) e (means es t)
