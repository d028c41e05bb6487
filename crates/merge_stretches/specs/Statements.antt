-- What holds of a stretch.
-- Assumes nothing.
use Rattle.std.specs.Prelude.{◌≡◌, ◌⊎◌, [], ℕ, suc, ◌≤◌, ◌<◌, Ok}
use Rattle.sync_inputs.specs.Answers.{answer_to}
use Rattle.sync_rules.specs.State.{State, Input}
use Rattle.sync_rules.specs.Pushes.{step}
use Rattle.merge_stretches.specs.Stretches.{calm, stretch_of}

-- One dibit of a calm stretch: it is taken and sends nothing, the settled offset stays, and the rest of the stretch is as calm.
pub record Calm (x : Input) (m : State) : Type 0 where
  pub taken : answer_to 1296 x m ≡ Ok tt
  pub sent : (step x m).sent ≡ []
  pub clock : (step x m).next.figures.clock ≡ m.figures.clock
  pub rest : calm m ≤ suc (calm (step x m).next)

-- from any state on
abbrev pub calm_rule : Type 0
calm_rule = (m : State) (x : Input) → x.dibit < 4 → 1 ≤ calm m → Calm x m

-- What is fed at once is one dibit, or no more than is calm for both streams and there in both.
pub record Stretch (m n : State) (a b r : ℕ) : Type 0 where
  pub some : 1 ≤ r
  pub calm : (r ≡ 1) ⊎ ((r ≤ calm m) × (r ≤ calm n) × (r ≤ a) × (r ≤ b))

abbrev pub stretch_rule : Type 0
stretch_rule = (m n : State) (a b : ℕ) → Stretch m n a b (stretch_of m n a b)
