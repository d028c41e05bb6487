-- What the tail that is made is, field by field of the statement.
-- Assumes nothing.
use Rattle.tail_rules.proofs.Registers.{generator_product}
use Rattle.tail_rules.proofs.Encoding.{tail_code, tail_six, tail_crc, one_codeword}
use Rattle.tail_rules.proofs.MakingCalled.{encode_front}
use Rattle.tail_rules.proofs.encode_laws.Goals as goal

pub returns : goal.returns
returns c =
    record {
      generator = generator_product;
      code = tail_code;
      begins = λ d e. (tail_six d e, tail_crc d e);
      only = λ d c e h v b. one_codeword c _ v (tail_code d e h) b;
      front = encode_front;
    }
