-- What a step promises.
-- Assumes nothing.
use Rattle.std.specs.Prelude.{◌≡◌, cond, List, ℕ, ◌+◌, ◌≤◌, ◌<◌, ltb, length, get_or, drop, Option, Some, None, Ok, Err}
use Rattle.std.proofs.lemmas.List.Edits.{sets}
use Rattle.bits.specs.Sizes.{frame_bits, most_offset}
use Rattle.bits.specs.declared.Refusal.{Refusal}
use Rattle.bits.specs.declared.Refusal.TheVariants.{StreamEnd}
use Rattle.sync.specs.View.{view, ValidSynchroniser}
use Rattle.sync_call_rules.specs.Calls.{Got, shown_as}
use Rattle.sync_inputs.specs.Inputs.{hardly, unpacked}
use Rattle.sync_rules.specs.Frames.{no_head}
use Rattle.sync_rules.specs.Sizes.{room_size, most_dibits}
use Rattle.sync_rules.specs.State.{Input}
use Rattle.sync_rules.specs.declared.Head.{Head}
use Rattle.sync_steps.specs.Feeds.{FedOut, fed_of}
use Rattle.recorder_rules.specs.declared.Recorder.{Recorder}
use Rattle.recorder_rules.specs.declared.Stepped.{Stepped}
use Rattle.recorder_rules.specs.declared.Laid.{Laid}
use Rattle.recorder_rules.specs.Makings.{Making, Sequential, earlier_after, accepted_in}

-- the frame before ends at or below the clock
abbrev pub EndsBy : ℕ → Option ℕ → Type 0
EndsBy clock None = Unit {0}
EndsBy clock (Some o) = o + frame_bits ≤ clock

-- a recorder that a start and further steps reach
pub record ValidRecorder (r : Recorder) : Type 0 where
  pub sync : ValidSynchroniser r.sync
  pub earlier : EndsBy (view r.sync).figures.clock r.earlier

-- ---- a step

-- the dibits of packed bytes, from dibit `from` on
abbrev pub dibits_of : List ℕ → ℕ → List Input
dibits_of bytes from = hardly (drop from (unpacked bytes))

-- The room that the synchroniser is lent. Where less memory is lent than the frames of a push may need, it is none: a push is then refused by 2.
abbrev pub room_for : ℕ → ℕ → ℕ
room_for need size = cond (ltb size need) 0 room_size

-- what the pushes xs come to, up to the first that sends or is refused, where so many bytes are lent
abbrev pub feed_of : Making → ℕ → List Input → Recorder → FedOut
feed_of p size xs r = fed_of (room_for p.need size) xs (view r.sync)

-- the frames that they send
abbrev pub got_by : Making → ℕ → List Input → Recorder → List Got
got_by p size xs r = shown_as (feed_of p size xs r).sent

-- the answer a to the pushes xs on the recorder r, the lent bytes before and after
pub record SteppedBy (p : Making) (out left : List ℕ) (xs : List Input) (r : Recorder) (a : Stepped) : Type 0 where
  pub valid : ValidRecorder a.next
  pub used : a.used ≡ (feed_of p (length out) xs r).used
  pub answer : a.answer ≡ (feed_of p (length out) xs r).answer
  pub next : view a.next.sync ≡ (feed_of p (length out) xs r).next
  pub earlier : a.next.earlier ≡ earlier_after r.earlier (got_by p (length out) xs r)
  pub accepted : a.accepted ≡ accepted_in p.accepts (got_by p (length out) xs r)
  pub size : a.size ≡ length (p.bytes r.earlier (got_by p (length out) xs r))
  -- what is made of the frames stands at the front, all other bytes stay
  pub stored : left ≡ sets out 0 (p.bytes r.earlier (got_by p (length out) xs r))

-- ---- the parts of a step

-- what is made of the frames gs is laid behind what was there
pub record LaidBy (p : Making) (out left : List ℕ) (before : Laid) (gs : List Got) (after : Laid) : Type 0 where
  pub size : after.size ≡ before.size + length (p.bytes before.earlier gs)
  pub accepted : after.accepted ≡ before.accepted + accepted_in p.accepts gs
  pub earlier : after.earlier ≡ earlier_after before.earlier gs
  pub stored : left ≡ sets out before.size (p.bytes before.earlier gs)

-- nothing is laid yet
abbrev pub laid_none : Option ℕ → Laid
laid_none e = record { size = 0; accepted = 0; earlier = e }

-- a head whose frame's record the journal takes
pub record Writable (h : Head) : Type 0 where
  pub ends : h.offset + frame_bits ≤ most_offset
  pub errors : h.errors ≤ 48

-- the frames of a push, their room, and the memory for what is made of them
pub record Fitting (need : ℕ) (heads : List Head) (count room out : ℕ) : Type 0 where
  pub few : count ≤ 3
  pub good : (k : ℕ) → k < count → Writable (get_or heads k no_head)
  pub slots : 0 < count → room_size ≤ room
  pub memory : 0 < count → need ≤ out

-- ---- what a caller may count on

pub record StepRule (p : Making) (out : List ℕ) (xs : List Input) (a : Stepped) : Type 0 where
  pub few : a.used ≤ length xs
  pub fits : a.size ≤ length out
  -- with memory enough, a step that is lent a dibit uses one, unless 2^40 dibits were taken before: that is the only refusal
  pub goes_on : p.need ≤ length out → 0 < length xs → a.answer ≡ Ok tt → 0 < a.used
  pub refused : p.need ≤ length out → (x : Refusal) → a.answer ≡ Err x → (x ≡ StreamEnd) × (most_dibits ≤ (view a.next.sync).figures.taken)

abbrev pub step_rules : Type 0
step_rules = (p : Making) → Sequential p → (r : Recorder) (bytes : List ℕ) (from : ℕ) (out left : List ℕ) (a : Stepped)
    → SteppedBy p out left (dibits_of bytes from) r a → StepRule p out (dibits_of bytes from) a
