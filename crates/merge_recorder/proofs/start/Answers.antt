-- `start`: nothing is read, nothing waits.
-- Assumes nothing.
use Rattle.merge_recorder.proofs.Ending.{going_start, fresh, fresh_valid}
use borrow.Author.Rules.{rules}
use Rattle.merge_recorder.proofs.start.Goals as goal

pub returns : goal.returns
returns c =
    let x = c.new.result in
    let y = c.new-2.result in record {
      merge_fresh = fresh x y c.new-3.result c.empty.result c.new.ensures.view c.new-2.ensures.view c.new-3.ensures.0 c.empty.ensures;
      valid = fresh_valid x y c.new-3.result c.empty.result c.new.ensures.view c.new-2.ensures.view c.new-3.ensures.0 c.empty.ensures c.new-3.ensures.1
          (going_start x (search (rules, c.new.type_inv.1.1.0.1.0.1)) (search (rules, c.new.type_inv.1.1.1.0.1.0.1)) c.new.ensures.valid_synchroniser)
          (going_start y (search (rules, c.new-2.type_inv.1.1.0.1.0.1)) (search (rules, c.new-2.type_inv.1.1.1.0.1.0.1)) c.new-2.ensures.valid_synchroniser);
    }
