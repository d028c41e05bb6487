use mathlib.Core.Path.{◌≡◌, refl, sym, ap, ◌∙◌, subst}
use Prim.Native.Nat.{ℕ, ◌+◌, ◌*◌}
use native.Mathlib.Omega.{arith}
use Rattle.bits.specs.Bit.{Bits}
use lib.ListN.{length-take}
use Rattle.protected_rules.specs.Convolution.{parity_of}
use Rattle.protected_rules.proofs.CodedBits.{convolved_bits}
use Rattle.protected_rules.proofs.Turns.{code_turn, slotted_all, slotted_none, state_none, state_turn}
use borrow.Author.Rules.{rules}
use Rattle.protected_code.proofs.Front.{front}
use Rattle.protected_code.proofs.convolution.Goals as goal

pub loop-t-init : goal.loop-t-init
loop-t-init c = (search rules, (search rules, (state_none _, slotted_none _ _ _ refl)))

pub loop-t-preserved : goal.loop-t-preserved
unfolding parity_of
loop-t-preserved c =
    let l = c.loop-t in
    let table = c.args.table.now.entries in
    let x = c.args.input.now.bits in (
      search rules,
      (
        search rules,
        (
          state_turn x l.t l.invariant.1.1.0 (ap (λ (v : ℕ). 2 * l.state + v) c.from.ensures),
          code_turn table c.args.table.now.admitted x l.slots l.t l.state c.from.result c.from-even.result c.from-odd.result
              c.parity.result c.parity-in-loop-t.result (omega arith) l.invariant.1.1.0 c.from.ensures c.from-even.ensures (omega arith)
              c.from-odd.ensures (omega arith) c.parity.ensures.0 c.parity-in-loop-t.ensures.0 l.invariant.1.1.1,
        ),
      ),
    )

pub invariant_of-result : goal.invariant_of-result
invariant_of-result c =
    let l = c.loop-t in
    let e : 2 * l.t ≡ 188 = omega arith in
    let made = front l.slots _ 176 c.copy_from_slice.ensures.len c.copy_from_slice.ensures.after ∙ slotted_all c.args.table.now.entries c.args.table.now.admitted c.args.input.now.bits l.slots (rw e at l.invariant.1.1.1) in
    record { each = subst Bits (sym made) (convolved_bits _ _) }

pub returns : goal.returns
returns c =
    let l = c.loop-t in
    let e : 2 * l.t ≡ 188 = omega arith in
    front l.slots _ 176 c.copy_from_slice.ensures.len c.copy_from_slice.ensures.after ∙ slotted_all c.args.table.now.entries c.args.table.now.admitted c.args.input.now.bits l.slots (rw e at l.invariant.1.1.1)

pub slice_bounds-copy_from_slice-end-2 : goal.slice_bounds-copy_from_slice-end-2
slice_bounds-copy_from_slice-end-2 c = let long = c.loop-t.invariant.1.1.1.long in omega (arith, length-take 176 c.loop-t.slots)

pub copy_from_slice-requires : goal.copy_from_slice-requires
copy_from_slice-requires c = let long = c.loop-t.invariant.1.1.1.long in omega (arith, length-take 176 c.loop-t.slots)
