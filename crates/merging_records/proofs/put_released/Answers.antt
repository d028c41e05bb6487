-- `put_released`: by what the merger answers.
-- Assumes nothing.
use mathlib.Core.Logic.{inl, inr}
use native.Mathlib.Omega.{arith}
use Rattle.merging_rules.proofs.Handing.{laid_nothing}
use Rattle.merging_records.proofs.Putting.{laid_as}
use Rattle.merging_records.proofs.put_released.Goals as goal

pub returns-in-PassedOver : goal.returns-in-PassedOver
returns-in-PassedOver c =
    let a = c.args in
    record {
      frames_laid = elim c.in-PassedOver.is [
        | inl e ↦ laid_as a.shelf a.freed a.answer _ _ _ _ _ e (laid_nothing _ _)
        | inr e ↦ laid_as a.shelf a.freed a.answer _ _ _ _ _ e (laid_nothing _ _)
      ];
      few = omega arith;
    }
