-- What is asked goes through frames one after the other, and each frame has its share of the memory.
-- Assumes nothing.
use Rattle.std.proofs.Common.{Option}
use mathlib.Core.Path.{◌≡◌, refl, subst}
use mathlib.Core.Bool.{Bool, true, false}
use mathlib.Core.List.{List, [], ◌∷◌}
use Prim.Native.Nat.{ℕ, ◌+◌, ◌*◌, ◌≤◌}
use native.Mathlib.Omega.{arith}
use lib.ListN.{length}
use Rattle.bits.specs.Alls.{All}
use Rattle.frame_outcomes.specs.Outcomes.{tried_of}
use Rattle.frame_outcomes.proofs.Fairness.{tried_fair}
use Rattle.recorder_rules.specs.Makings.{Trying, Sequential, WholeFrame, FairTrying, untried, journal, frames_of}
use Rattle.recorder_rules.specs.Steps.{LaidBy}
use Rattle.recorder_rules.specs.declared.Laid.{Laid}
use Rattle.recorder_rules.proofs.Laying.{journal_sequential, pieces_few, records_long, whole_sized}
use Rattle.recorder_asks.proofs.Speaking.{speaking_sequential, speech_few}
use Rattle.sync_call_rules.specs.Calls.{Got}
use Rattle.recorder_asks.specs.Asks.{speaking, making_of, share_of, is_speech, is_decoded, tried_as}
use Rattle.recorder_asks.specs.declared.Asked.{Asked}
use Rattle.recorder_asks.specs.declared.Asked.TheVariants.{Untried, Decoded, Speech}

pub asked_sequential : (a : Asked) (table : List ℕ) → Sequential (making_of a table)
asked_sequential Untried table = journal_sequential untried
asked_sequential Decoded table = journal_sequential (tried_of table)
asked_sequential Speech table = speaking_sequential table

-- what it may need fits in the memory that programs lend
pub asked_need : (a : Asked) (table : List ℕ) → (making_of a table).need ≤ 768
asked_need Untried table = omega arith
asked_need Decoded table = omega arith
asked_need Speech table = omega arith

-- what a record says of an envelope the journal takes
pub as_fair : (decoded : Bool) (table : List ℕ) → FairTrying (tried_as decoded table)
as_fair true table envelope = tried_fair table envelope
as_fair false table envelope = refl

-- ---- shares

records_few : (try : Trying) (e : Option ℕ) (gs : List Got) → All WholeFrame gs → length ((journal try).bytes e gs) ≤ 128 * length gs
records_few try e gs w = omega (arith, records_long e (frames_of try gs) (whole_sized try gs w), pieces_few try e gs)

pub made_few : (a : Asked) (table : List ℕ) (e : Option ℕ) (gs : List Got) → All WholeFrame gs → length ((making_of a table).bytes e gs) ≤ share_of a * length gs
made_few Untried table e gs w = records_few untried e gs w
made_few Decoded table e gs w = records_few (tried_of table) e gs w
made_few Speech table e gs w = speech_few table e gs

-- three shares are what the frames of a push may need
pub asked_three : (a : Asked) (table : List ℕ) → (making_of a table).need ≡ 3 * share_of a
asked_three Untried table = refl
asked_three Decoded table = refl
asked_three Speech table = refl

-- ---- what is laid of a frame

-- a frame takes no more than its share
pub laid_few : (a : Asked) (table out left : List ℕ) (before after : Laid) (g : Got) → WholeFrame g → LaidBy (making_of a table) out left before (g ∷ []) after → after.size ≤ before.size + share_of a
laid_few a table out left before after g w l = omega (arith, l.size, made_few a table before.earlier (g ∷ []) (w, tt))

pub records_share : (a : Asked) → 128 ≤ share_of a
records_share Untried = omega arith
records_share Decoded = omega arith
records_share Speech = omega arith

pub speech_share : (a : Asked) → is_speech a ≡ true → 256 ≤ share_of a
speech_share Untried s = let z : ◌≡◌ {A = ℕ} 0 1 = cc in absurd (omega arith)
speech_share Decoded s = let z : ◌≡◌ {A = ℕ} 0 1 = cc in absurd (omega arith)
speech_share Speech s = omega arith

pub speech_laid : (a : Asked) (table out left : List ℕ) (before after : Laid) (gs : List Got) → is_speech a ≡ true → LaidBy (speaking table) out left before gs after
    → LaidBy (making_of a table) out left before gs after
speech_laid Untried table out left before after gs s l = let z : ◌≡◌ {A = ℕ} 0 1 = cc in absurd (omega arith)
speech_laid Decoded table out left before after gs s l = let z : ◌≡◌ {A = ℕ} 0 1 = cc in absurd (omega arith)
speech_laid Speech table out left before after gs s l = l

by_asked : (a : Asked) (table out left : List ℕ) (before after : Laid) (gs : List Got) → is_speech a ≡ false → LaidBy (journal (tried_as (is_decoded a) table)) out left before gs after
    → LaidBy (making_of a table) out left before gs after
by_asked Untried table out left before after gs s l = l
by_asked Decoded table out left before after gs s l = l
by_asked Speech table out left before after gs s l = let z : ◌≡◌ {A = ℕ} 0 1 = cc in absurd (omega arith)

pub records_laid : (a : Asked) (table out left : List ℕ) (before after : Laid) (gs : List Got) (decoded : Bool) → is_speech a ≡ false → decoded ≡ is_decoded a
    → LaidBy (journal (tried_as decoded table)) out left before gs after → LaidBy (making_of a table) out left before gs after
records_laid a table out left before after gs decoded s e l = by_asked a table out left before after gs s (subst (λ (b : Bool). LaidBy (journal (tried_as b table)) out left before gs after) e l)
