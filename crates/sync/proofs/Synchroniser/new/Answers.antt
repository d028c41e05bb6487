-- `sync::Synchroniser::new` meets its contract.
-- Assumes nothing.
use mathlib.Core.Path.{refl}
use native.Mathlib.Omega.{arith}
use Rattle.sync_rules.specs.Ring.{ring}
use Rattle.bits.proofs.BelowSets.{below_replicate}
use Rattle.sync.proofs.Synchroniser.new.Goals as goal

pub returns : goal.returns
unfolding ring
returns c = record {
  valid_synchroniser = record {
    steady = record {
      sound = record { first_in_lem = omega arith; restorable_few = omega arith; held_few = omega arith; taken_few = omega arith; tide = omega arith; grid = omega arith; synchronised_few = omega arith; slips_few = omega arith; failures_few = omega arith };
      low = omega arith;
      slips = omega arith;
      fails = λ w. omega arith;
    };
    binary = below_replicate 1155 0 (omega arith) (omega arith);
    few = ((λ w. omega arith), omega arith);
  };
  view = refl;
}
