use Rattle.protected_rules.proofs.InputBits.{payload_payload}
use Rattle.protected_rules.proofs.WordMeaning.{coded_even, coded_odd, put_in, payload_carried, payload_front, payload_middle}
use Rattle.protected_rules.proofs.word_meaning.Goals as goal

pub returns : goal.returns
returns c =
    record {
      even = coded_even;
      odd = coded_odd;
      put = put_in;
      carried = payload_carried;
      first = payload_front;
      second = payload_middle;
      top = payload_payload;
    }
