use Rattle.std.proofs.Common.{List, ◌≡◌, ℕ, ◌+◌, ◌*◌, get_or, ap, ◌∙◌, arith, rules}
use Rattle.bits.specs.Bit.{bit_lo, number, tab, Bits}
use Rattle.bits.proofs.Belows.{below_all}
use Rattle.bits.proofs.Tabs.{packed_bit}
use Rattle.protected_rules.proofs.Arrays.{made_by}
use Rattle.voice_path.proofs.pack.Goals as goal

pub returns : goal.returns
returns c s h =
    let l = c.args.chosen in
    let small : Bits l = below_all l (omega arith) (λ k g. c.requires k (omega arith)) in
    let row : c.from_fn.result ≡ tab 32 (λ k. number 8 (λ j. get_or l (8 * k + j) 0)) =
    made_by _ _ _ (λ k. number 8 (λ j. get_or l (8 * k + j) 0)) (λ k y q g e. search (rules, e)) _ c.from_fn.ensures.items in
    ap (λ (x : List ℕ). bit_lo x s) row ∙ packed_bit 32 (λ i. get_or l i 0) small.at s (omega arith)
