-- What the repair means, field by field of the statement.
-- Assumes nothing.
use Rattle.std.proofs.Common.{Ok, Err}
use mathlib.Core.Bool.{Bool, true, false}
use mathlib.Core.List.{List, []}
use mathlib.Core.Path.{◌≡◌, refl, sym, ap, ◌∙◌}
use Prim.Native.Nat.{ℕ, ◌≤◌}
use native.Mathlib.Decide.{ℕ_discrete}
use native.Mathlib.Omega.{arith}
use lib.ListN.{length}
use Rattle.bits.specs.Bit.{Bytes}
use Rattle.bits.specs.declared.Refusal.{Refusal}
use Rattle.tail_rules.specs.Code.{Codeword, wrong, Near}
use Rattle.tail_rules.proofs.Loops.{wrong_self}
use Rattle.tail_rules.proofs.AtMostOne.{near_one, far_apart}
use Rattle.tail_rules.specs.Repair.{repaired, Repairs, repair_of}
use Rattle.tail_rules.specs.Calls.{erasable, answer_of, written_over, tail_answer, tail_leaves}
use Rattle.tail_rules.proofs.ErasedPlaces.{once_of, not_erasable, erasable_not}
use Rattle.tail_rules.proofs.Searching.{means, is_repair}
use Rattle.tail_rules.proofs.RepairCalled.{leaves_size, leaves_erasure, answer_repair, leaves_repair, written_refused, word_front}
use Rattle.tail_rules.proofs.SixErasures.{always_near}
use Rattle.tail_rules.proofs.repair_laws.Goals as goal

found : (es t c : List ℕ) → length t ≡ 14 → Bytes t → erasable es ≡ true → Near es t c
    → (tail_answer es t ≡ Ok (wrong [] t c)) × (tail_leaves es t ≡ c)
unfolding Repairs
found es t c lt ht er near =
    let e = is_repair es t ht lt (repaired c (wrong [] t c)) (near, refl) in
    (answer_repair es t lt er ∙ sym (ap answer_of e), leaves_repair es t lt er ∙ sym (ap (written_over t) e))

clean : (es c : List ℕ) → length es ≤ 6 → Codeword c → repair_of es c ≡ repaired c 0
unfolding Repairs
clean es c l v =
    sym (is_repair es c v.bytes v.long (repaired c 0)
    (record { code = v; close = omega (arith, wrong_self 0 es c, l) }, sym (wrong_self 0 [] c)))

unwritten : (es t : List ℕ) (r : Refusal) → tail_answer es t ≡ Err r → tail_leaves es t ≡ t
unwritten es t r e = go (ℕ_discrete (length t) 14) (erasable es) refl
  where
    go : Dec (length t ≡ 14) → (b : Bool) → erasable es ≡ b → tail_leaves es t ≡ t
    go (no h) b p = leaves_size es t h
    go (yes h) false p = leaves_erasure es t h p
    go (yes h) true p = leaves_repair es t h p ∙ written_refused t (repair_of es t) r (sym e ∙ answer_repair es t h p)

pub returns : goal.returns
returns c =
    record {
      means = means;
      only = λ es t lt ht a h. is_repair es t ht lt a h;
      one_near = λ es t c d lt ht v w. near_one es t c d ht lt v w;
      distance = far_apart;
      clean = clean;
      found = found;
      three = λ t c v l. record { code = v; close = omega (arith, l) };
      six = λ es t lt ht er l. always_near es t lt ht (once_of es er) l;
      not_erasable = not_erasable;
      erasable_not = erasable_not;
      unwritten = unwritten;
      front = word_front;
      numbers = (refl, refl, refl);
    }
