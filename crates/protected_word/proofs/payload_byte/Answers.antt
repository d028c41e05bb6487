use Rattle.std.proofs.Common.{◌≡◌, ℕ, ◌+◌, ◌*◌, ◌∙◌, ◌<◌, subst, sym, rules}
use Rattle.bits.proofs.Digits.{number_ext}
use Rattle.protected_rules.specs.Word.{payload_bit}
use Rattle.protected_rules.proofs.InputBits.{payload_bit_lt}
use Rattle.protected_word.proofs.payload_byte.Goals as goal

pub pack_low-requires-clause-bits : goal.pack_low-requires-clause-bits
pack_low-requires-clause-bits c =
    λ j b h e.
    let x : b ≡ payload_bit c.args.word.now c.args.input.now.bits (8 * c.args.k + j) = search (rules, e) in
    subst (λ (v : ℕ). v < 2) (sym x) (payload_bit_lt _ _ c.args.input.now.each _)

pub returns : goal.returns
returns c = let p = c.pack_low.ensures in p.2 ∙ number_ext 8 p.0 _ (λ j h. search (rules, p.1 j h))
