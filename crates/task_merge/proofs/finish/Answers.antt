-- `finish`: the records of the flush lie in the memory that it was lent.
-- Assumes nothing.
use Rattle.task_merge.proofs.Hearing.{flush_fits}
use Rattle.task_merge.proofs.finish.Goals as goal

pub slice_bounds-out-end : goal.slice_bounds-out-end
slice_bounds-out-end g c = flush_fits _ c.flush-a.new.out _ c.flush-a.result c.flush-a.ensures.merge_flushed_by
