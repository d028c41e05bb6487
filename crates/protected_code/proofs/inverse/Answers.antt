use mathlib.Core.Path.{◌≡◌, refl, ap, ap₂, ◌∙◌}
use Prim.Native.Nat.{ℕ, ◌+◌, ◌*◌}
use native.Mathlib.Omega.{arith}
use lib.ListN.{get_or}
use Rattle.bits.proofs.Filling.{filled_none, filled_more, filled_all}
use Rattle.protected_rules.specs.Convolution.{parity_of, inverse_bit, inverted}
use Rattle.protected_rules.proofs.Turns.{inverse_none, inverse_turn}
use lib.Bits.{bit_xor}
use borrow.Author.Rules.{rules}
use Rattle.protected_code.proofs.inverse.Goals as goal

pub loop-t-init : goal.loop-t-init
loop-t-init c = (filled_none _ _ _ refl, (search rules, inverse_none _ _))

pub bounds-received-odd : goal.bounds-received-odd
bounds-received-odd c =
    let l = c.loop-t in
    omega (arith, c.from-odd.ensures, c.args.table.now.admitted.odd l.t (omega arith))

pub loop-t-preserved : goal.loop-t-preserved
unfolding inverse_bit parity_of
loop-t-preserved c =
    let l = c.loop-t in
    let table = c.args.table.now.entries in
    let received = c.args.received.now in
    let e : bit_xor (get_or received c.from-odd.result 0) c.parity.result ≡ inverse_bit l.state (get_or received (get_or table (2 * l.t + 1) 0) 0) =
    ap₂ bit_xor (ap (λ (k : ℕ). get_or received k 0) c.from-odd.ensures) c.parity.ensures.0 in (
      filled_more (search rules) l.invariant.0 (e ∙ ap (λ (s : ℕ). inverse_bit s (get_or received (get_or table (2 * l.t + 1) 0) 0)) l.invariant.1.1),
      (search rules, inverse_turn table received l.t l.invariant.1.1 (c.from.ensures ∙ e)),
    )

pub returns : goal.returns
unfolding inverted
returns c = filled_all (search rules) c.loop-t.invariant.0
