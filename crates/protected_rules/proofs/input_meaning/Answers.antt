use Rattle.protected_rules.proofs.InputBits.{input_input, input_first_at, input_second_at, input_payload_at, input_ends, input_checksum}
use Rattle.protected_rules.proofs.input_meaning.Goals as goal

pub returns : goal.returns
returns c =
    record {
      input = input_input;
      first = input_first_at;
      second = input_second_at;
      carried = input_payload_at;
      ends = input_ends;
      agrees = input_checksum;
    }
