use mathlib.Core.Path.{◌≡◌, ap, ◌∙◌}
use Prim.Native.Nat.{ℕ}
use native.Mathlib.Omega.{arith}
use lib.Bits.{bit_xor, xor_lt}
use lib.ListN.{get_or}
use Rattle.bits.specs.Bit.{sum}
use Rattle.bits.proofs.Turns.{sum_none, sum_turn}
use Rattle.protected_rules.specs.Convolution.{coded_apart}
use borrow.Author.Rules.{rules}
use Rattle.protected_code.proofs.coded_apart.Goals as goal

pub loop-k-init : goal.loop-k-init
loop-k-init c = (search rules, (search rules, sum_none _))

pub loop-k-preserved : goal.loop-k-preserved
loop-k-preserved c =
    let l = c.loop-k in (
      search rules,
      (
        omega (arith, xor_lt 8 _ _ (c.fits-a l.k) (c.fits-b l.k), c.from-d.ensures),
        sum_turn (λ j. bit_xor (get_or c.args.a.now j 0) (get_or c.args.b.now j 0)) l.k l.invariant.1.1 c.from-d.ensures,
      ),
    )

pub returns : goal.returns
unfolding coded_apart
returns c =
    let l = c.loop-k in
    let e : l.k ≡ 176 = omega arith in
    (l.invariant.1.1 ∙ ap (λ (n : ℕ). sum n (λ j. bit_xor (get_or c.args.a.now j 0) (get_or c.args.b.now j 0))) e, search rules)
