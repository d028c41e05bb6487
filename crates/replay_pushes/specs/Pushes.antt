-- What a push tells (docs/REPLAY.md, "A push answers its status ..").
-- Assumes nothing.
use Rattle.std.specs.Prelude.{◌≡◌, List, [], ◌∷◌, ◌++◌, ℕ, length, Result, Ok, Err}
use Rattle.bits.specs.Refusals.{number_of}
use Rattle.replay_bytes.specs.Bytes.{PutSome, flag_byte, last_bytes, signed_bytes}
use Rattle.replay_frames.specs.Frames.{frames_bytes}
use Rattle.sync.specs.View.{view}
use Rattle.sync.specs.declared.Fed.{Fed}
use Rattle.sync.specs.declared.Pushed.{Pushed}
use Rattle.sync_rules.specs.State.{State, pending, slips, net_slip}
use Rattle.sync_rules.specs.declared.Head.{Head}
use Rattle.replay_pushes.specs.declared.Synchronised.{Synchronised}
use Rattle.bits.specs.declared.Refusal.{Refusal}

-- "locked (1), slips (4), net slip (1 where it is below zero, and its amount in 4), frames (4)"
abbrev pub count_bytes : State → List ℕ
count_bytes m = flag_byte m.figures.locked ∷ (last_bytes 4 (slips m) ++ (signed_bytes 4 (net_slip m) ++ last_bytes 4 m.figures.frames))

-- "synchronised frames (4), pending bits (2), dibits taken (4), settled offset (8)"
abbrev pub figure_bytes : State → List ℕ
figure_bytes m = count_bytes m ++ (last_bytes 4 m.figures.synchronised ++ (last_bytes 2 (length (pending m)) ++ (last_bytes 4 m.figures.taken ++ last_bytes 8 m.figures.clock)))

-- the status; where it is 0, the frames, of the room after the call, and the figures of the state after it
abbrev pub pushed_bytes : Result Unit Refusal → ℕ → List Head → List ℕ → State → List ℕ
pushed_bytes (Ok u) count heads room m = 0 ∷ (frames_bytes count heads m.figures.soft room ++ figure_bytes m)
pushed_bytes (Err r) count heads room m = number_of r ∷ []

-- an answer of the synchroniser put from a place on, and its next state handed on
pub record Shown (p : Pushed) (place : ℕ) (room before after : List ℕ) (r : Synchronised) : Type 0 where
  pub next : r.sync ≡ p.next
  pub puts : PutSome before place (pushed_bytes p.answer p.count p.heads room (view p.next)) after r.size

-- the same of a feed, at the front, behind the number of dibits that were taken
pub record ShownFed (f : Fed) (room before after : List ℕ) (r : Synchronised) : Type 0 where
  pub next : r.sync ≡ f.pushed.next
  pub puts : PutSome before 0 (last_bytes 2 f.used ++ pushed_bytes f.pushed.answer f.pushed.count f.pushed.heads room (view f.pushed.next)) after r.size
