-- No call both takes and loses a lock: one that hands out a frame and hands back no lock found a lock.
-- Assumes nothing.
use Rattle.std.proofs.Common.{Result, Ok, Err}
use mathlib.Core.Bool.{true, false}
use mathlib.Core.List.{List, [], ◌∷◌}
use mathlib.Core.Path.{◌≡◌, refl, sym, ap, ◌∙◌}
use Prim.Native.Nat.{ℕ, ◌<◌}
use native.Mathlib.Omega.{arith}
use lib.ListN.{length}
use Rattle.sync.specs.declared.Synchroniser.{Synchroniser}
use Rattle.sync.specs.View.{view}
use Rattle.sync_inputs.specs.Answers.{answer_to, push_of}
use Rattle.sync_steps.specs.Feeds.{FedOut, one_more, unless_sent, unless_refused, fed_of}
use Rattle.sync_call_rules.specs.Calls.{Call, pushing, feeding, answer_of, Meets}
use Rattle.sync_rules.specs.State.{State, Input}
use Rattle.sync_rules.specs.Frames.{Frame}
use Rattle.sync_rules.specs.Pushes.{step}
use Rattle.sync_rules.proofs.Keeping.{sends_found, quiet_found}
use Rattle.bits.specs.declared.Refusal.{Refusal}

-- frames of a call on the state m that handed back the state n with no lock: m has a lock
abbrev pub Held : State → List Frame → State → Type 0
Held m fs n = 0 < length fs → n.figures.locked ≡ false → m.figures.locked ≡ true

by_push : (a : Result Unit Refusal) (x : Input) (m : State) → Held m (push_of a x m).sent (push_of a x m).next
unfolding push_of
by_push (Ok u) x m = sends_found x m
by_push (Err f) x m = λ some w. absurd (omega arith)

-- a feed: the last push that it made, and before it such as send nothing
module _ (x : Input) (m : State) (rest : FedOut) (on : Held (step x m).next rest.sent rest.next) where
  by_sent : (fs : List Frame) → (step x m).sent ≡ fs → Held m (unless_sent fs (step x m).next rest).sent (unless_sent fs (step x m).next rest).next
  unfolding unless_sent one_more
  by_sent [] e = λ some w. quiet_found x m e (on some w)
  by_sent (f ∷ fs) e = λ some w. sends_found x m (omega (arith, ap length e)) w

  by_answer : (a : Result Unit Refusal) → Held m (unless_refused a m (step x m) rest).sent (unless_refused a m (step x m) rest).next
  unfolding unless_refused
  by_answer (Ok u) = by_sent (step x m).sent refl
  by_answer (Err f) = λ some w. absurd (omega arith)

by_feed : (room : ℕ) (xs : List Input) (m : State) → Held m (fed_of room xs m).sent (fed_of room xs m).next
unfolding fed_of
by_feed room [] m = λ some w. absurd (omega arith)
by_feed room (x ∷ xs) m = by_answer x m (fed_of room xs (step x m).next) (by_feed room xs (step x m).next) (answer_to room x m)

pub found_held : (s : Synchroniser) (c : Call) → Meets s c → 0 < (answer_of c).count → (answer_of c).next.numbers.figures.locked ≡ false → s.numbers.figures.locked ≡ true
unfolding Meets answer_of
found_held s (pushing x room left r) p some w = by_push (answer_to (length room) x (view s)) x (view s) (omega (arith, p.many)) (sym (ap (λ (m : State). m.figures.locked) p.next) ∙ w)
found_held s (feeding xs room left r) f some w = by_feed (length room) xs (view s) (omega (arith, f.many)) (sym (ap (λ (m : State). m.figures.locked) f.next) ∙ w)
