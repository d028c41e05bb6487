-- The repair's answer, from its two halves: where the tail may be wrong, and what it is changed into there.
-- Assumes nothing.
use mathlib.Core.List.{List, []}
use mathlib.Core.Path.{◌≡◌, refl, sym, ap, subst, ◌∙◌}
use Prim.Native.Nat.{ℕ, ◌<◌, ◌≤◌}
use native.Mathlib.Omega.{arith}
use lib.ListN.{length, get_or}
use Rattle.std.specs.declared.option.Option.TheVariants.{None, Some}
use Rattle.bits.specs.Bit.{Bytes, tab}
use Rattle.bits.proofs.Tabs.{tab_at}
use Rattle.tail_rules.specs.Code.{syndrome, Codeword, Near, wrong}
use Rattle.tail_rules.specs.Steps.{Located, Corrected, MayDiffer}
use Rattle.tail_rules.proofs.Loops.{wrong_self}
use Rattle.tail_rules.specs.Repair.{refused, repaired, Repairs, repair_of}
use Rattle.tail_rules.proofs.Searching.{is_repair}

-- six zero syndromes
pub codeword : (t s : List ℕ) → length t ≡ 14 → Bytes t → s ≡ tab 6 (syndrome t) → ((i : ℕ) → i < 6 → get_or s i 0 ≡ 0) → Codeword t
codeword t s lt ht e h =
    record { long = lt; bytes = ht; zero_at = λ i l. sym (tab_at 6 (syndrome t) i l) ∙ ap (λ (x : List ℕ). get_or x i 0) (sym e) ∙ h i l }

zeros : (t s : List ℕ) → s ≡ tab 6 (syndrome t) → Codeword t → (i : ℕ) → i < 6 → get_or s i 0 ≡ 0
zeros t s e c i l = ap (λ (x : List ℕ). get_or x i 0) e ∙ tab_at 6 (syndrome t) i l ∙ c.zero_at i l

module _ (es t s : List ℕ) (lt : length t ≡ 14) (ht : Bytes t) (fits : length es ≤ 6) (syn : s ≡ tab 6 (syndrome t)) where
  -- nothing to repair
  pub untouched : ((i : ℕ) → i < 6 → get_or s i 0 ≡ 0) → repaired t 0 ≡ repair_of es t
  unfolding Repairs
  untouched h = is_repair es t ht lt (repaired t 0) (
    record { code = codeword t s lt ht syn h; close = omega (arith, wrong_self 0 es t) },
    sym (wrong_self 0 [] t),
  )

  -- no places
  pub lost : Located es s None → refused ≡ repair_of es t
  unfolding Repairs
  lost v = is_repair es t ht lt refused (λ c near. none (v.all t c lt ht syn near).1)
    where
      none : {w : List ℕ} → ¬ (None ≡ Some w)
      none e = cc

  module _ (w c after : List ℕ) (v : Located es s (Some w)) (k : Corrected t w c) (syn-after : after ≡ tab 6 (syndrome c)) where
    within : (d : List ℕ) → Near es t d → MayDiffer w t d
    within d near =
        let m = v.all t d lt ht syn near in
        let e : w ≡ m.0 = inside m.1 in
        subst (λ (u : List ℕ). MayDiffer u t d) (sym e) m.2
      where
        inside : {u x : List ℕ} → Some u ≡ Some x → u ≡ x
        inside e = cc

    -- the change does not lead to a codeword
    pub failed : ¬ ((i : ℕ) → i < 6 → get_or after i 0 ≡ 0) → refused ≡ repair_of es t
    unfolding Repairs
    failed h =
        is_repair es t ht lt refused (λ d near. h (zeros c after syn-after (subst Codeword (sym (k.only d near.code (within d near))) near.code)))

    pub repaired_to : (n : ℕ) → ((i : ℕ) → i < 6 → get_or after i 0 ≡ 0) → n ≡ wrong [] t c → repaired c n ≡ repair_of es t
    unfolding Repairs
    repaired_to n h e = is_repair es t ht lt (repaired c n) (
      record { code = codeword c after k.long k.bytes syn-after h; close = v.close w refl t c lt k.long k.within },
      e,
    )
