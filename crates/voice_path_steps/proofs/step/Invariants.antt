use mathlib.Core.Path.{◌≡◌}
use Prim.Native.Nat.{ℕ, ◌*◌, ◌≤◌, ◌<◌}
use lib.ListN.{get_or, length}
use Rattle.voice_path_rules.specs.Path.{arrive, survivor, weigh}
use Rattle.voice_path_steps.proofs.step.Given as goal

abbrev pub invariant-loop-prior : goal.invariant-loop-prior
invariant-loop-prior l =
    (l.prior ≤ 128)
    × (length l.next ≡ 256)
    × (length l.chosen ≡ 256)
    × ((s : ℕ) → s < 2 * l.prior → get_or l.next s 0 ≡ arrive (λ (i : ℕ). get_or l.costs i 0) (weigh l.seen) s)
    × ((s : ℕ) → s < 2 * l.prior → get_or l.chosen s 0 ≡ survivor (λ (i : ℕ). get_or l.costs i 0) (weigh l.seen) s)
