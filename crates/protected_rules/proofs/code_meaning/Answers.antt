use Rattle.protected_rules.proofs.CodedBits.{inverted_convolved}
use Rattle.protected_rules.proofs.Taps.{even_sum, odd_sum}
use Rattle.protected_rules.proofs.code_meaning.Goals as goal

pub returns : goal.returns
returns c =
    record {
      even = even_sum;
      odd = odd_sum;
      inverse = λ table x a i. inverted_convolved table a x i;
    }
