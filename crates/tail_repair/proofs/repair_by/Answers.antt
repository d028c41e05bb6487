-- `tail_repair::repair_by` meets its contract, by the two halves of the repair and the check at the end.
-- Assumes nothing.
use mathlib.Core.Path.{◌≡◌, ap}
use native.Mathlib.Omega.{arith}
use lib.ListN.{length}
use Rattle.tail_rules.specs.Calls.{repaired_as}
use Rattle.tail_rules.proofs.Outcome.{untouched, lost, failed, repaired_to}
use Rattle.tail_repair.proofs.repair_by.Goals as goal

pub returns-then-all_zero : goal.returns-then-all_zero
returns-then-all_zero c =
    let lt : length c.args.tail ≡ 14 = omega (arith, c.well_formed.1.0) in
    let e = untouched c.args.places.now c.args.tail c.syndromes_of-s.result lt c.requires.fact_1 c.requires.fact_2 c.syndromes_of-s.ensures (c.all_zero.ensures.0 c.if-all_zero.true) in
    ap repaired_as e

pub returns-in_default : goal.returns-in_default
returns-in_default c =
    let lt : length c.args.tail ≡ 14 = omega (arith, c.well_formed.1.0) in
    let e = lost c.args.places.now c.args.tail c.syndromes_of-s.result lt c.requires.fact_1 c.requires.fact_2 c.syndromes_of-s.ensures c.in_default.ensures in
    ap repaired_as e

pub returns-then-not-all_zero : goal.returns-then-not-all_zero
returns-then-not-all_zero c =
    let lt : length c.args.tail ≡ 14 = omega (arith, c.well_formed.1.0) in
    let e = failed c.args.places.now c.args.tail c.syndromes_of-s.result lt c.requires.fact_1 c.requires.fact_2 c.syndromes_of-s.ensures
    c.in-Some.marks c.correct-c.result c.syndromes_of.result c.in-Some.ensures c.correct-c.ensures c.syndromes_of.ensures (c.all_zero-2.ensures.1 c.if-not-all_zero.true) in
    ap repaired_as e

pub returns : goal.returns
returns c =
    let lt : length c.args.tail ≡ 14 = omega (arith, c.well_formed.1.0) in
    let e = repaired_to c.args.places.now c.args.tail c.syndromes_of-s.result lt c.requires.fact_1 c.requires.fact_2 c.syndromes_of-s.ensures
    c.in-Some.marks c.correct-c.result c.syndromes_of.result c.in-Some.ensures c.correct-c.ensures c.syndromes_of.ensures
    c.changed.result (c.all_zero-2.ensures.0 c.if-not-all_zero.false) c.changed.ensures in
    ap repaired_as e
