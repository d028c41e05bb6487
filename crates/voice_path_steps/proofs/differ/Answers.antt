use mathlib.Core.Path.{◌≡◌, ap, ap₂, ◌∙◌}
use Prim.Native.Nat.{ℕ, ◌+◌, ◌*◌, ◌/◌, ◌%◌}
use native.Mathlib.Omega.{arith}
use mathlib.Core.List.{List}
use lib.ListN.{get_or}
use Rattle.bits.proofs.Tabs.{tab_at}
use Rattle.protected_rules.specs.Convolution.{parity_of, even_mask, odd_mask}
use Rattle.protected_rules.proofs.CodedBits.{parity_lt}
use Rattle.voice_path_rules.specs.Path.{disagree, weigh}
use Rattle.voice_path_steps.specs.Steps.{pair_of}
use Rattle.voice_path_rules.proofs.Places.{disagree_le}
use Rattle.voice_path_steps.proofs.differ.Goals as goal

pub overflow_add-result : goal.overflow_add-result
overflow_add-result c =
    let o = c.args.seen in
    let e = disagree_le o.wa (c.from-pair.result % 2) o.a in
    let f = disagree_le o.wb (c.from-pair.result / 2) o.b in
    let w = c.requires.weighed in
    omega (arith, c.unless_same.ensures, c.unless_same-2.ensures, w.wa, w.wb)

pub returns : goal.returns
unfolding weigh pair_of
returns c =
    let p = c.args.prior in
    let o = c.args.seen in
    let e : c.from-pair.result ≡ pair_of (2 * p) = c.from-pair.ensures ∙ ap (λ (l : List ℕ). get_or l p 0) c.args.pairs.now.right ∙ tab_at 128 (λ k. pair_of (2 * k)) p c.requires.within in
    let a : c.from-pair.result % 2 ≡ parity_of odd_mask (2 * p) = omega (arith, e, parity_lt odd_mask (2 * p), parity_lt even_mask (2 * p)) in
    let b : c.from-pair.result / 2 ≡ parity_of even_mask (2 * p) = omega (arith, e, parity_lt odd_mask (2 * p), parity_lt even_mask (2 * p)) in
    ap₂ (λ (x y : ℕ). x + y) (c.unless_same.ensures ∙ ap (λ (x : ℕ). disagree o.wa x o.a) a) (c.unless_same-2.ensures ∙ ap (λ (x : ℕ). disagree o.wb x o.b) b)
