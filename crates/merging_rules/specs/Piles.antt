-- What two recordings are merged with, and what each call does to it: the merger, the shelf where the frames wait that it holds, and the two counts. A call
-- hands on frames, in order, and says what it did: which calls of the merger it made, and which frames gave way.
-- Assumes nothing.
use Rattle.std.specs.Prelude.{Bool, true, false, cond, not, ◌&&◌, List, [], ◌∷◌, ◌++◌, ℕ, zero, suc, ltb, length, set, replicate, Option, Some, None, Result, Ok, Err}
use Rattle.bits.specs.declared.Refusal.TheVariants.{Positions}
use Rattle.journal_rules.specs.Gaps.{Framed}
use Rattle.journal_rules.specs.declared.Tried.{Tried}
use Rattle.merger_rules.specs.Merging.{View, held_of, PushStep, push_of, release_of}
use Rattle.merger_rules.specs.Scripts.{Call, push, release, started}
use Rattle.merger_rules.specs.declared.Freed.{Freed}
use Rattle.merger_rules.specs.declared.Held.{Held}
use Rattle.merger_rules.specs.declared.Keeping.{Keeping}
use Rattle.merger_rules.specs.declared.Keeping.TheVariants.{Kept, Double, Late}
use Rattle.merger_rules.specs.declared.Release.{Release}
use Rattle.merger_rules.specs.declared.Released.{Released}
use Rattle.merger_rules.specs.declared.Released.TheVariants.{Frame, PassedOver, NothingReady}
use Rattle.merging_shelf.specs.Slots.{shelf_slots, free_slot, empty_slot, taken_in, slot_at, cleared_slots, count_freed}
use Rattle.merging_shelf.specs.declared.Shelf.{Shelf}
use Rattle.merging_shelf.specs.declared.Slot.{Slot}
use Rattle.recorder_rules.specs.Makings.{Trying, is_accepted}
use Rattle.sync_call_rules.specs.Calls.{Got}
use Rattle.merging_rules.specs.declared.Answered.{Answered}
use Rattle.merging_rules.specs.declared.Gone.{Gone}
use Rattle.merging_rules.specs.Accounts.{counted, gone_by}
use Rattle.bits.specs.declared.Refusal.{Refusal}

pub record Pile : Type 0 where
  pub merger : View
  pub shelf : Shelf
  pub answered : Answered
  pub gone : Gone

-- what is done with a frame or a position: a call of the merger, or a frame of a stream, as it would be pushed, gives way and is not handed in
pub data Deed : Type 0 where
  called : Call → Deed
  gave_way : ℕ → Held → Deed

-- the merger's script
abbrev pub calls_in : List Deed → List Call
calls_in [] = []
calls_in (called c ∷ ds) = c ∷ calls_in ds
calls_in (gave_way s h ∷ ds) = calls_in ds

-- what a call leaves, the frames that it hands on, and what it did
pub record Handed : Type 0 where
  pub pile : Pile
  pub out : List Framed
  pub deeds : List Deed

abbrev pub handed : Pile → List Framed → List Deed → Handed
handed p fs ds = record { pile = p; out = fs; deeds = ds }

-- a call, and then another on what it leaves
abbrev pub then : Handed → (Pile → Handed) → Handed
then h f = handed (f h.pile).pile (h.out ++ (f h.pile).out) (h.deeds ++ (f h.pile).deeds)

-- ---- the start

abbrev pub empty_shelf : Shelf
empty_shelf = record { slots = replicate shelf_slots empty_slot }

abbrev pub no_pile : Pile
no_pile = record { merger = started; shelf = empty_shelf; answered = record { kept = 0; late = 0; double = 0; refused = 0 }; gone = record { released = 0; others = 0; passed = 0 } }

-- ---- a frame is handed in

abbrev pub slot_for : Pile → ℕ
slot_for p = free_slot (taken_in p.shelf)

-- whether the decoder accepts a frame: the yes or no that goes into the merger with it
abbrev pub decodes : Trying → Got → Bool
decodes try g = is_accepted (try g.envelope).outcome

-- what the merger gets of it
abbrev pub held_for : Trying → Got → Pile → Held
held_for try g p = held_of g.head (slot_for p) (decodes try g)

abbrev pub push_for : Trying → ℕ → Got → Pile → PushStep
push_for try stream g p = push_of stream (held_for try g p) p.merger

-- a frame that is kept is laid into its slot, its envelope and what is said of it
abbrev pub laid_on : Result Keeping Refusal → ℕ → Tried → List ℕ → Shelf → Shelf
laid_on (Ok Kept) slot t envelope s = record { slots = set s.slots slot (record { taken = true; tried = t; envelope = envelope }) }
laid_on (Ok Double) slot t envelope s = s
laid_on (Ok Late) slot t envelope s = s
laid_on (Err x) slot t envelope s = s

-- a frame is handed in once, and the answer counted
abbrev pub offered_once : Trying → ℕ → Got → Pile → Handed
offered_once try stream g p =
    handed
    (record {
      merger = (push_for try stream g p).next;
      shelf = laid_on (push_for try stream g p).answer (slot_for p) (try g.envelope) g.envelope p.shelf;
      answered = counted (push_for try stream g p).answer p.answered;
      gone = p.gone;
    })
    []
    (called (push stream (held_for try g p)) ∷ [])

-- ---- what is ready is handed on

abbrev pub freed_slot : Option ℕ → ℕ
freed_slot None = 0
freed_slot (Some n) = n

-- the envelope of the stream that the merger names, from the slots of the position that it gave back
abbrev pub envelope_for : Freed → Bool → List Slot → List ℕ
envelope_for f alternate slots = cond alternate (slot_at slots (freed_slot f.alternate)).envelope (slot_at slots (freed_slot f.primary)).envelope

-- a frame as it is written: the merger's offset, its own figures and envelope, and what was said of it
abbrev pub framed_from : Shelf → Freed → Release → Framed
framed_from s f r =
    record {
      place = r.figures.offset;
      figures = record { matched = r.figures.matched; errors = r.figures.errors; outcome = (slot_at s.slots r.number).tried.outcome; corrected = (slot_at s.slots r.number).tried.corrected };
      bytes = envelope_for f r.alternate s.slots;
    }

abbrev pub frames_out : Shelf → Freed → Released → List Framed
frames_out s f (Frame r) = framed_from s f r ∷ []
frames_out s f PassedOver = []
frames_out s f NothingReady = []

abbrev pub shelf_without : Freed → Shelf → Shelf
shelf_without f s = record { slots = cleared_slots f.alternate (cleared_slots f.primary s.slots) }

-- the first position is taken out and handed on, if it is ready
abbrev pub released : Option ℕ → Option ℕ → Bool → Pile → Handed
released a b flush p =
    handed
    (record {
      merger = (release_of a b flush p.merger).next;
      shelf = shelf_without (release_of a b flush p.merger).freed p.shelf;
      answered = p.answered;
      gone = gone_by (release_of a b flush p.merger).answer (count_freed (release_of a b flush p.merger).freed) p.gone;
    })
    (frames_out p.shelf (release_of a b flush p.merger).freed (release_of a b flush p.merger).answer)
    (called (release a b flush) ∷ [])

-- n times
unfoldable pub released_times : ℕ → Option ℕ → Option ℕ → Bool → Pile → Handed
released_times zero a b flush p = handed p [] []
released_times (suc n) a b flush p = then (released a b flush p) (released_times n a b flush)

-- all that is ready: at most 16 positions wait
abbrev pub all_released : Option ℕ → Option ℕ → Bool → Pile → Handed
all_released a b flush p = released_times 16 a b flush p

-- ---- a frame for which the positions are too few

-- a frame that decodes and is refused: 16 positions wait, and none is its own
abbrev pub insists : Bool → Result Keeping Refusal → Bool
insists decoded (Ok Kept) = false
insists decoded (Ok Double) = false
insists decoded (Ok Late) = false
insists decoded (Err x) = decoded

-- a frame that does not decode and is refused, or would be given the last of the 16 positions: so many waited before its push, so many after it
abbrev pub yields : Bool → Result Keeping Refusal → ℕ → ℕ → Bool
yields decoded (Ok Kept) before after = not decoded && (ltb 15 after && ltb before after)
yields decoded (Ok Double) before after = false
yields decoded (Ok Late) before after = false
yields decoded (Err x) before after = not decoded

abbrev pub gives_way : Trying → ℕ → Got → Pile → Bool
gives_way try stream g p = yields (decodes try g) (push_for try stream g p).answer (length p.merger.pending) (length (push_for try stream g p).next.pending)

-- it is not handed in, and counted as refused
abbrev pub let_go : Trying → ℕ → Got → Pile → Handed
let_go try stream g p =
    handed (record { merger = p.merger; shelf = p.shelf; answered = counted (Err Positions) p.answered; gone = p.gone }) [] (gave_way stream (held_for try g p) ∷ [])

-- It is handed in. Where one that decodes is refused, the first position is released before its time, as at a flush, and the frame handed in once more. One that
-- does not decode gives way: the last position is kept for frames that decode. Otherwise those of a stream that runs ahead would fill all 16 without one that
-- decodes among them; for a frame that decodes the first of them, which lies ahead of it, would be released, and the frame itself come late.
abbrev pub offered : Trying → ℕ → Got → Pile → Handed
offered try stream g p =
    cond (insists (decodes try g) (push_for try stream g p).answer)
    (then (then (handed p [] (called (push stream (held_for try g p)) ∷ [])) (released None None true)) (offered_once try stream g))
    (cond (gives_way try stream g p) (let_go try stream g p) (offered_once try stream g p))

-- frames one after the other
unfoldable pub offered_all : Trying → ℕ → List Got → Pile → Handed
offered_all try stream [] p = handed p [] []
offered_all try stream (g ∷ gs) p = then (offered try stream g p) (offered_all try stream gs)
