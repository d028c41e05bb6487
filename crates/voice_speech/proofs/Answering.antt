-- A repair's answer, and the speech that is heard or none, as the decoder's own answer.
-- Assumes nothing.
use Rattle.std.proofs.Common.{Option, None, Some, Err, ok_or}
use Rattle.std.specs.Result.{result_ok}
use mathlib.Core.Bool.{true, false}
use mathlib.Core.List.{List, []}
use mathlib.Core.Path.{◌≡◌, refl, ap}
use Prim.Native.Nat.{ℕ}
use lib.ListN.{length}
use borrow.Author.Tests.{eq-eqb, ne_eqb}
use Rattle.bits.specs.declared.Refusal.TheVariants.{NoSpeech, Size, Table}
use Rattle.coding_rules.specs.Scramble.{descrambled}
use Rattle.protected_rules.specs.Table.{admits}
use Rattle.tail_rules.specs.Calls.{repaired_as, tail_in}
use Rattle.tail_rules.specs.Repair.{Answer, refused, repaired}
use Rattle.tail_rules.specs.declared.RepairedTail.{RepairedTail}
use Rattle.voice_rules.specs.Calls.{answered, decoded_by}
use Rattle.voice_rules.specs.Hard.{succeeds}
use Rattle.voice_rules.specs.Trial.{Outcome, heard, silent}
use Rattle.voice_speech.specs.Heard.{told}

-- what the repair's answer says: it succeeds where it gives a repaired tail, which is the tail in it, and fails where it gives none
pub succeeds_with : (a : Answer) (t : RepairedTail) → Some t ≡ result_ok (repaired_as a) → (succeeds a ≡ true) × (t.tail ≡ tail_in a)
succeeds_with refused t e = cc
succeeds_with (repaired c n) t e = (refl, ap tail_of e)
  where
    tail_of : Option RepairedTail → List ℕ
    tail_of None = []
    tail_of (Some u) = u.tail

pub fails_with : (a : Answer) → None ≡ result_ok (repaired_as a) → succeeds a ≡ false
fails_with refused e = refl
fails_with (repaired c n) e = cc

-- the call's answer
pub answer_told : (o : Outcome) → ok_or (told o) NoSpeech ≡ answered o
answer_told (heard s p n) = refl
answer_told silent = refl

-- ---- the answer, return by return

module _ (table envelope : List ℕ) (f : List ℕ → Outcome) where
  pub other_size : (length envelope ≡ 48 → ⊥) → Err Size ≡ decoded_by table envelope f
  other_size h = simp (ne_eqb (length envelope) 48 h)

  pub other_table : length envelope ≡ 48 → admits table ≡ false → Err Table ≡ decoded_by table envelope f
  other_table h a = simp (eq-eqb (length envelope) 48 h, a)

  pub is_answered : length envelope ≡ 48 → admits table ≡ true → answered (f (descrambled envelope)) ≡ decoded_by table envelope f
  is_answered h a = simp (eq-eqb (length envelope) 48 h, a)
