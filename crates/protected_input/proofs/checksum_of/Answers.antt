use mathlib.Core.Path.{◌≡◌, refl, ap, ◌∙◌}
use Prim.Native.Nat.{ℕ, ◌+◌}
use native.Mathlib.Omega.{arith}
use lib.ListN.{get_or}
use Rattle.protected_rules.specs.Checksum.{crc8_step, crc8_run, then_zeros, crc8_of}
use Rattle.protected_rules.proofs.Turns.{crc8_turn, then_zeros_lt}
use borrow.Author.Rules.{rules}
use Rattle.protected_input.proofs.checksum_of.Goals as goal

pub loop-i-init : goal.loop-i-init
unfolding crc8_run
loop-i-init c = (search rules, refl)

pub crc8_bit-sum-requires : goal.crc8_bit-sum-requires
crc8_bit-sum-requires c =
    (search rules, omega (arith, c.shifted_bit.ensures, then_zeros_lt (λ (k : ℕ). get_or c.args.input.now.bits (4 + k) 0) c.loop-i.i (λ k. c.args.input.now.each.at (4 + k))))

pub loop-i-preserved : goal.loop-i-preserved
loop-i-preserved c =
    let l = c.loop-i in
    (c.crc8_bit-sum.ensures.1, crc8_turn (then_zeros (λ (k : ℕ). get_or c.args.input.now.bits (4 + k) 0)) l.i l.invariant.1 (c.crc8_bit-sum.ensures.0 ∙ ap (crc8_step l.sum) c.shifted_bit.ensures))

pub returns : goal.returns
unfolding crc8_of
returns c =
    let e : c.loop-i.i ≡ 86 = omega arith in
    c.loop-i.invariant.1 ∙ ap (crc8_run (then_zeros (λ (k : ℕ). get_or c.args.input.now.bits (4 + k) 0))) e
