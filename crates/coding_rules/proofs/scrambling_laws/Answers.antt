use Rattle.coding_rules.proofs.ScrambleLaws.{s_first, s_more, scrambled_place, scrambled_marked, there_and_back, back_and_there}
use Rattle.coding_rules.proofs.scrambling_laws.Goals as goal

pub returns : goal.returns
returns c =
    record {
      ones = s_first;
      goes_on = s_more;
      placed = scrambled_place;
      marked = scrambled_marked;
      there_and_back = there_and_back;
      back_and_there = back_and_there;
    }
