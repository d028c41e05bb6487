use mathlib.Core.Path.{sym, ap, ◌∙◌}
use Prim.Native.Nat.{◌+◌, ◌-◌, ◌*◌}
use Rattle.protected_rules.specs.Word.{front_byte}
use Rattle.bits.proofs.Conds.{cond_lt, cond_ge}
use Rattle.bits.proofs.Digits.{number_ext}
use Rattle.bits.specs.Bit.{bit_lo}
use native.Mathlib.Nat.{add_assoc}
use borrow.Author.Rules.{rules}
use Rattle.protected_word.proofs.front_byte.Goals as goal

pub returns-then-k-lt5 : goal.returns-then-k-lt5
unfolding front_byte
returns-then-k-lt5 c =
    c.byte_from.ensures ∙ number_ext 8 (λ j. bit_lo c.args.payload.now (78 + 8 * c.args.k + j)) (λ j. bit_lo c.args.payload.now (78 + (8 * c.args.k + j))) (λ j h. ap (bit_lo c.args.payload.now) (add_assoc 78 (8 * c.args.k) j))
    ∙ sym (cond_lt c.args.k 5 _ _ (search rules))

pub returns-then-k-lt16 : goal.returns-then-k-lt16
unfolding front_byte
returns-then-k-lt16 c =
    sym (cond_ge c.args.k 5 _ _ (search rules) ∙ cond_lt c.args.k 16 _ _ (search rules))

pub returns-then-k-lt21 : goal.returns-then-k-lt21
unfolding front_byte
returns-then-k-lt21 c =
    c.byte_from-then-k-lt21.ensures ∙ number_ext 8 (λ j. bit_lo c.args.payload.now (118 + 8 * (c.args.k - 16) + j)) (λ j. bit_lo c.args.payload.now (118 + (8 * (c.args.k - 16) + j))) (λ j h. ap (bit_lo c.args.payload.now) (add_assoc 118 (8 * (c.args.k - 16)) j))
    ∙ sym (cond_ge c.args.k 5 _ _ (search rules) ∙ cond_ge c.args.k 16 _ _ (search rules) ∙ cond_lt c.args.k 21 _ _ (search rules))

pub returns : goal.returns
unfolding front_byte
returns c =
    sym (cond_ge c.args.k 5 _ _ (search rules) ∙ cond_ge c.args.k 16 _ _ (search rules) ∙ cond_ge c.args.k 21 _ _ (search rules))
