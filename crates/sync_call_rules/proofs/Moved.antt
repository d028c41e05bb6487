-- The moves of the frames that a history of calls hands out.
-- Assumes nothing.
use mathlib.Core.Path.{◌≡◌, refl, sym, ap, ◌∙◌, subst}
use mathlib.Core.List.{List, [], ◌∷◌}
use Rattle.sync.specs.View.{view}
use Rattle.sync_call_rules.specs.Calls.{accepted, handed, shown_as}
use Rattle.sync_call_rules.specs.Statements.{moves_got, move_calls}
use Rattle.sync_rules.specs.declared.Moves.{Moves}
use Rattle.sync_rules.specs.State.{State}
use Rattle.sync_rules.specs.Frames.{Frame}
use Rattle.sync_rules.specs.Pushes.{run}
use Rattle.sync_rules.specs.Slips.{SlippedBy, moves_of}
use Rattle.sync_rules.proofs.Slipped.{move_rule_lem}
use Rattle.sync_call_rules.proofs.Histories.{follows}

moves_shown : (fs : List Frame) → moves_of fs ≡ moves_got (shown_as fs)
unfolding moves_of moves_got shown_as
moves_shown [] = refl
moves_shown (f ∷ fs) = ap (λ (vs : List Moves). f.moves ∷ vs) (moves_shown fs)

pub move_calls_lem : move_calls
move_calls_lem s v cs h =
    let f = follows cs s v h in
    let o = run (accepted cs) (view s) in
    subst (λ (n : State). SlippedBy (view s) n (moves_got (handed cs))) (sym f.next)
    (subst (SlippedBy (view s) o.next) (moves_shown o.sent ∙ ap moves_got (sym f.sent)) (move_rule_lem (view s) (accepted cs)))
