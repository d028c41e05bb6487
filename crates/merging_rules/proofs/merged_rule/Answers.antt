-- `merging_rules::merged_rule` meets its contract.
-- Assumes nothing.
use native.Mathlib.Omega.{arith}
use Rattle.merging_rules.specs.Turns.{whole, merged_frames}
use Rattle.merging_rules.specs.Orders.{sent_for}
use Rattle.merging_rules.proofs.Journals.{journal_of}
use Rattle.merging_rules.proofs.Numbering.{released_as_lem}
use Rattle.merging_rules.proofs.Ordering.{in_order}
use Rattle.merging_rules.proofs.Promising.{promised}
use Rattle.merging_rules.proofs.Resting.{prompt}
use Rattle.merging_rules.proofs.Sending.{sent_fine, sent_rise}
use Rattle.merging_rules.proofs.Turning.{primary_first}
use Rattle.merging_rules.proofs.Walking.{whole_fares, none_waits}
use Rattle.merging_rules.proofs.merged_rule.Goals as goal

pub returns : goal.returns
returns c try t xs ys dx dy =
    let w = whole_fares try xs ys dx dy in
    record {
      in_order = in_order try xs ys dx dy;
      primary_first = primary_first try xs ys;
      promised = promised try xs ys dx dy;
      prompt = prompt try xs ys dx dy;
      released = released_as_lem try (sent_for xs) (sent_for ys) (sent_rise xs dx) (sent_rise ys dy) (whole try xs ys).deeds (merged_frames try xs ys) (in_order try xs ys dx dy) w.out;
      journal = journal_of try t (sent_for xs) (sent_for ys) (sent_fine xs dx) (sent_fine ys dy) (whole try xs ys).deeds (merged_frames try xs ys) w.out;
      told = omega (arith, w.told);
      kept = omega (arith, w.good.balance, none_waits try xs ys dx dy);
      counted = w.counts;
      written = omega (arith, w.written);
    }
