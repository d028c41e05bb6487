-- What a case of the kinds 13, 14 and 18 to 20 answers, and what it leaves of the room and of the synchroniser: the table of docs/REPLAY.md, by
-- the definitions that the contracts of `sync` cite.
-- Assumes nothing.
use Rattle.std.specs.Prelude.{◌≡◌, true, cond, List, ◌++◌, ℕ, ◌+◌, ◌*◌, eqb, leb, length, get_or, take, drop, Result}
use Rattle.replay_bytes.specs.Answers.{Answer, bytes, unfit, Told}
use Rattle.replay_bytes.specs.Bytes.{last_bytes}
use Rattle.sync_inputs.specs.Answers.{answer_to, push_of}
use Rattle.sync_steps.specs.Feeds.{fed_of}
use Rattle.sync_inputs.specs.Inputs.{hardly, softly, unpacked}
use Rattle.sync_frames.specs.Frames.{heads_of}
use Rattle.sync.specs.View.{ValidSynchroniser, view}
use Rattle.sync.specs.declared.Synchroniser.{Synchroniser}
use Rattle.sync_rules.specs.Frames.{Frame}
use Rattle.sync_rules.specs.Pushes.{Out}
use Rattle.sync_rules.specs.Room.{laid}
use Rattle.sync_rules.specs.State.{State, Input, hard}
use Rattle.replay_pushes.specs.Pushes.{pushed_bytes}
use Rattle.replay_pushes.specs.declared.Synchronised.{Synchronised}
use Rattle.bits.specs.declared.Refusal.{Refusal}

-- what a case answers, and the room and the synchroniser after it
pub record Case : Type 0 where
  pub answer : Answer
  pub room : List ℕ
  pub next : State

-- how a case on the synchroniser s is told: the answer's bytes in the lent memory, their number, the room's content and the synchroniser. Where
-- the input does not fit, the synchroniser itself comes back
pub record ToldBy (s : Synchroniser) (o : Case) (room before after : List ℕ) (r : Synchronised) : Type 0 where
  pub valid : ValidSynchroniser r.sync
  pub next : view r.sync ≡ o.next
  pub stored : room ≡ o.room
  pub tells : Told o.answer before after r.size
  pub kept : o.answer ≡ unfit → r.sync ≡ s

-- the input does not fit: all is as it was
abbrev pub unfit_case : List ℕ → State → Case
unfit_case room m = record { answer = unfit; room = room; next = m }

-- what an answer tells that sent these frames: the room is the one after the call
abbrev pub sent_bytes : Result Unit Refusal → List Frame → List ℕ → State → List ℕ
sent_bytes a sent room m = pushed_bytes a (length sent) (heads_of 3 sent) room m

-- the number of two bytes
abbrev pub named : List ℕ → ℕ → ℕ
named input i = 256 * get_or input i 0 + get_or input (i + 1) 0

-- ---- pushes

-- what the push x does, with a room of so many bytes
abbrev pub push_in : ℕ → Input → State → Out
push_in size x m = push_of (answer_to size x m) x m

-- the frames of a push lie in the lent room, whose other bytes stay
abbrev pub push_case : List ℕ → Input → State → Case
push_case room x m =
    let o = push_in (length room) x m in
    let left = laid room 0 o.sent in
    record { answer = bytes (sent_bytes (answer_to (length room) x m) o.sent left o.next); room = left; next = o.next }

-- the same, lent only the room's first n bytes
abbrev pub part_case : ℕ → List ℕ → Input → State → Case
part_case n room x m =
    let o = push_in n x m in
    let left = laid (take n room) 0 o.sent ++ drop n room in
    record { answer = bytes (sent_bytes (answer_to n x m) o.sent left o.next); room = left; next = o.next }

-- 13: a dibit, and perhaps the room's size in two bytes
abbrev pub pushed_case : List ℕ → List ℕ → State → Case
pushed_case room input m =
    cond (eqb (length input) 3)
    (cond (leb (named input 1) (length room)) (part_case (named input 1) room (hard (get_or input 0 0)) m) (unfit_case room m))
    (push_case room (hard (get_or input 0 0)) m)

-- 14: a dibit and two reliabilities
abbrev pub soft_push : List ℕ → Input
soft_push input = record { dibit = get_or input 0 0; of_first = get_or input 1 0; of_second = get_or input 2 0; soft = true }

-- ---- feeds: "how many were taken (2), then as a push"

abbrev pub feed_case : List ℕ → List Input → State → Case
feed_case room xs m =
    let o = fed_of (length room) xs m in
    let left = laid room 0 o.sent in
    record { answer = bytes (last_bytes 2 o.used ++ sent_bytes o.answer o.sent left o.next); room = left; next = o.next }

-- 18: dibits
abbrev pub fed_case : List ℕ → List ℕ → State → Case
fed_case room input m = feed_case room (hardly input) m

-- 19: how many dibits, the dibits, and their reliabilities
abbrev pub fed_soft_case : List ℕ → List ℕ → State → Case
fed_soft_case room input m =
    cond (leb (2 + named input 0) (length input))
    (feed_case room (softly (take (named input 0) (drop 2 input)) (drop (2 + named input 0) input)) m)
    (unfit_case room m)

-- 20: the first dibit's number, and packed dibits
abbrev pub fed_packed_case : List ℕ → List ℕ → State → Case
fed_packed_case room input m =
    cond (leb 2 (length input)) (feed_case room (hardly (drop (named input 0) (unpacked (drop 2 input)))) m) (unfit_case room m)
