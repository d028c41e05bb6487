-- What a feed of packed bytes sends: frames that fit the room, whose records the journal takes, and what a step makes of them.
-- Assumes nothing.
use Rattle.std.proofs.Common.{Option, Some, None}
use mathlib.Core.Path.{◌≡◌, refl, sym, ap, ◌∙◌, subst}
use mathlib.Core.Bool.{Bool, true, false, cond}
use mathlib.Core.List.{List, [], ◌∷◌, ◌++◌, append-nil}
use Prim.Native.Nat.{ℕ, zero, suc, ◌+◌, ◌*◌, ◌≤◌, ◌<◌}
use native.Mathlib.Omega.{arith}
use borrow.Author.Tests.{ltb-false}
use lib.Dec.{ltb}
use lib.ListN.{length, get_or, take, drop}
use lib.Seq.{sets, length-sets}
use Rattle.bits.specs.Alls.{All}
use Rattle.bits.specs.Bit.{Bits}
use Rattle.bits.specs.Sizes.{most_offset}
use Rattle.sync.specs.View.{ValidSynchroniser, view}
use Rattle.sync.specs.declared.Synchroniser.{Synchroniser}
use Rattle.sync.specs.declared.Fed.{Fed}
use Rattle.sync.specs.Feeds.{FedBy}
use Rattle.sync_call_rules.specs.Calls.{feeding, Got, History, Meets, accepted, made_by, answer_of, left_by, handed, slots, shown_as}
use Rattle.sync_call_rules.specs.Statements.{Follows}
use Rattle.sync_call_rules.proofs.Ends.{end_low}
use Rattle.sync_call_rules.proofs.Feeding.{feed_rules_lem}
use Rattle.sync_call_rules.proofs.Histories.{calls_follow_lem, fed_fits}
use Rattle.sync_frames.specs.Frames.{heads_of}
use Rattle.sync_inputs.specs.Inputs.{hardly, unpacked}
use Rattle.sync_rings.proofs.Marks.{ring_binary}
use Rattle.sync_rooms.proofs.Rooms.{length_bytes_of}
use Rattle.sync_rules.specs.Frames.{Frame, no_head}
use Rattle.sync_rules.specs.Pushes.{run}
use Rattle.sync_rules.specs.Room.{envelope_of, laid}
use Rattle.sync_rules.specs.Sizes.{slot_size, room_size}
use Rattle.sync_rules.specs.State.{State, Input}
use Rattle.sync_rules.specs.declared.Head.{Head}
use Rattle.sync_steps.specs.Feeds.{FedOut, fed_of}
use Rattle.recorder_rules.specs.Makings.{Making, WholeFrame, earlier_after}
use Rattle.recorder_rules.specs.Steps.{EndsBy, ValidRecorder, dibits_of, room_for, feed_of, got_by, SteppedBy, LaidBy, laid_none, Writable, Fitting}
use Rattle.recorder_rules.specs.declared.Laid.{Laid}
use Rattle.recorder_rules.specs.declared.Recorder.{Recorder}
use Rattle.recorder_rules.proofs.Rising.{Onward, onward_le, Dibits, run_goes}

-- ---- the dibits of packed bytes

dibits_from : (n : ℕ) (bs : List ℕ) → Dibits (hardly (drop n (unpacked bs)))
unfolding unpacked
dibits_from n [] = none n
  where
    none : (n : ℕ) → Dibits (hardly (drop n []))
    none zero = tt
    none (suc n) = tt
dibits_from zero (b ∷ bs) = (omega arith, (omega arith, (omega arith, (omega arith, dibits_from 0 bs))))
dibits_from (suc zero) (b ∷ bs) = (omega arith, (omega arith, (omega arith, dibits_from 0 bs)))
dibits_from (suc (suc zero)) (b ∷ bs) = (omega arith, (omega arith, dibits_from 0 bs))
dibits_from (suc (suc (suc zero))) (b ∷ bs) = (omega arith, dibits_from 0 bs)
dibits_from (suc (suc (suc (suc n)))) (b ∷ bs) = dibits_from n bs

pub packed_dibits : (bytes : List ℕ) (from : ℕ) → Dibits (dibits_of bytes from)
packed_dibits bytes from = dibits_from from bytes

pub dibits_taken : (k : ℕ) (xs : List Input) → Dibits xs → Dibits (take k xs)
dibits_taken zero xs d = tt
dibits_taken (suc k) [] d = tt
dibits_taken (suc k) (x ∷ xs) d = (d.0, dibits_taken k xs d.1)

-- ---- where the frames stand, and what they show

held_binary : (s : Synchroniser) → ValidSynchroniser s → Bits (view s).held
held_binary s v = ring_binary s.bits s.numbers.first (s.numbers.restorable + s.numbers.pending) v.binary

fed_goes : (room : ℕ) (xs : List Input) (s : Synchroniser) → ValidSynchroniser s → Dibits xs → Onward (view s).figures.clock (fed_of room xs (view s)).sent (fed_of room xs (view s)).next.figures.clock
fed_goes room xs s v d =
    let r = feed_rules_lem room xs (view s) in
    let used = (fed_of room xs (view s)).used in
    let g = run_goes (take used xs) (view s) (dibits_taken used xs d) (held_binary s v) in
    subst (λ (fs : List Frame). Onward (view s).figures.clock fs (fed_of room xs (view s)).next.figures.clock) (sym r.sent)
    (subst (λ (m : State). Onward (view s).figures.clock (run (take used xs) (view s)).sent m.figures.clock) (sym r.next) g.onward)

-- of frames that end by 2^42 the journal takes the records
heads_good : (n : ℕ) (fs : List Frame) (e c : ℕ) → length fs ≤ n → c ≤ most_offset → Onward e fs c → (k : ℕ) → k < length fs → Writable (get_or (heads_of n fs) k no_head)
unfolding heads_of
heads_good n [] e c h l w k i = absurd (omega arith)
heads_good zero (f ∷ fs) e c h l w k i = absurd (omega arith)
heads_good (suc n) (f ∷ fs) e c h l w zero i = record { ends = omega (arith, onward_le (f.offset + 384) fs c w.1.1); errors = w.1.0 }
heads_good (suc n) (f ∷ fs) e c h l w (suc k) i = heads_good n fs (f.offset + 384) c (omega arith) l w.1.1 k (omega arith)

-- the last of them ends before the clock
ends_before : (e : ℕ) (a : Option ℕ) (fs : List Frame) (c : ℕ) → EndsBy e a → Onward e fs c → EndsBy c (earlier_after a (shown_as fs))
unfolding earlier_after shown_as
ends_before e None [] c b w = tt
ends_before e (Some o) [] c b w = omega arith
ends_before e a (f ∷ fs) c b w = ends_before (f.offset + 384) (Some f.offset) fs c (omega arith) w.1.1

-- every envelope has its 48 bytes
pub shown_whole : (fs : List Frame) → All WholeFrame (shown_as fs)
unfolding shown_as
shown_whole [] = tt
shown_whole (f ∷ fs) = (length_bytes_of 48 f.bits, shown_whole fs)

-- ---- the room and the memory

length_laid : (fs : List Frame) (room : List ℕ) (k : ℕ) → length (laid room k fs) ≡ length room
unfolding laid
length_laid [] room k = refl
length_laid (f ∷ fs) room k = length_laid fs (sets room (slot_size * k) (envelope_of f.bits ++ f.reliabilities)) (suc k) ∙ length-sets room (slot_size * k) (envelope_of f.bits ++ f.reliabilities)

-- the synchroniser is lent room only where there is memory for what its frames may need
pub room_large : (need size : ℕ) → room_size ≤ room_for need size → need ≤ size
room_large need size h = go (ltb size need) refl h
  where
    go : (b : Bool) → ltb size need ≡ b → room_size ≤ cond b 0 room_size → need ≤ size
    go true e h = absurd (omega arith)
    go false e h = ltb-false size need e

-- ---- a feed

module _ (s : Synchroniser) (v : ValidSynchroniser s) (xs : List Input) (d : Dibits xs) (room left : List ℕ) (f : Fed) (fed : FedBy room left (fed_of (length room) xs (view s)) f) where
  abbrev o : FedOut
  o = fed_of (length room) xs (view s)

  followed : Follows s (feeding xs room left f ∷ [])
  unfolding History Meets
  followed = calls_follow_lem s v (feeding xs room left f ∷ []) (fed, refl)

  -- its slots hold the frames that it sent
  fed_shown : slots (take f.pushed.count f.pushed.heads) left 0 ≡ shown_as o.sent
  unfolding handed accepted made_by answer_of left_by
  fed_shown =
      sym (append-nil (slots (take f.pushed.count f.pushed.heads) left 0)) ∙ followed.sent
      ∙ ap (λ (l : List Input). shown_as (run l (view s)).sent) (append-nil (take f.used xs) ∙ ap (λ (n : ℕ). take n xs) fed.used)
      ∙ ap shown_as (sym (feed_rules_lem (length room) xs (view s)).sent)

  onward : Onward (view s).figures.clock o.sent (view f.pushed.next).figures.clock
  onward = subst (λ (m : State). Onward (view s).figures.clock o.sent m.figures.clock) (sym fed.next) (fed_goes (length room) xs s v d)

  clock_few : (view f.pushed.next).figures.clock ≤ most_offset
  clock_few = omega (arith, end_low f.pushed.next fed.valid)

  fitting : (need size : ℕ) → length room ≡ room_for need size → Fitting need f.pushed.heads f.pushed.count (length left) size
  fitting need size e =
      let w = fed_fits (length room) xs (view s) in
      record {
        few = omega (arith, w.most, fed.many);
        good = λ k h. subst (λ (hs : List Head). Writable (get_or hs k no_head)) (sym fed.figures) (heads_good 3 o.sent _ _ w.most clock_few onward k (omega (arith, fed.many)));
        slots = λ h. omega (arith, ap length fed.stored, length_laid o.sent room 0, w.large (omega (arith, fed.many)));
        memory = λ h. room_large need size (omega (arith, w.large (omega (arith, fed.many))));
      }

-- the frames of a feed of packed bytes fit the room and the memory, and their records can be written
pub fed_fitting : (p : Making) (out : List ℕ) (bytes : List ℕ) (from : ℕ) (r : Recorder) → ValidRecorder r → (room left : List ℕ) → length room ≡ room_for p.need (length out)
    → (f : Fed) → FedBy room left (fed_of (length room) (dibits_of bytes from) (view r.sync)) f → Fitting p.need f.pushed.heads f.pushed.count (length left) (length out)
fed_fitting p out bytes from r v room left e f fed = fitting r.sync v.sync (dibits_of bytes from) (packed_dibits bytes from) room left f fed p.need (length out) e

-- ---- a step

-- a feed of packed bytes, and what is laid of the frames in its slots, are a step
pub fed_stepped : (p : Making) (out left : List ℕ) (bytes : List ℕ) (from : ℕ) (r : Recorder) → ValidRecorder r → (room room' : List ℕ) → length room ≡ room_for p.need (length out)
    → (f : Fed) → FedBy room room' (fed_of (length room) (dibits_of bytes from) (view r.sync)) f
    → (l : Laid) → LaidBy p out left (laid_none r.earlier) (slots (take f.pushed.count f.pushed.heads) room' 0) l
    → SteppedBy p out left (dibits_of bytes from) r (record { used = f.used; size = l.size; accepted = l.accepted; answer = f.pushed.answer; next = record { sync = f.pushed.next; earlier = l.earlier } })
fed_stepped p out left bytes from r v room room' e f fed l lay =
    let xs = dibits_of bytes from in
    let d = packed_dibits bytes from in
    let o = fed_of (length room) xs (view r.sync) in
    let same : o ≡ feed_of p (length out) xs r = ap (λ (n : ℕ). fed_of n xs (view r.sync)) e in
    let shown : slots (take f.pushed.count f.pushed.heads) room' 0 ≡ shown_as o.sent = fed_shown r.sync v.sync xs d room room' f fed in
    let got : slots (take f.pushed.count f.pushed.heads) room' 0 ≡ got_by p (length out) xs r = shown ∙ ap (λ (z : FedOut). shown_as z.sent) same in
    let q : LaidBy p out left (laid_none r.earlier) (got_by p (length out) xs r) l = subst (λ (gs : List Got). LaidBy p out left (laid_none r.earlier) gs l) got lay in
    record {
      valid = record {
        sync = fed.valid;
        earlier = subst (EndsBy (view f.pushed.next).figures.clock) (sym (lay.earlier ∙ ap (earlier_after r.earlier) shown)) (ends_before (view r.sync).figures.clock r.earlier o.sent _ v.earlier (onward r.sync v.sync xs d room room' f fed));
      };
      used = fed.used ∙ ap (λ (z : FedOut). z.used) same;
      answer = fed.answer ∙ ap (λ (z : FedOut). z.answer) same;
      next = fed.next ∙ ap (λ (z : FedOut). z.next) same;
      earlier = q.earlier;
      accepted = q.accepted ∙ omega arith;
      size = q.size ∙ omega arith;
      stored = q.stored;
    }
