use Rattle.demands.proofs.no_better_path.Goals as goal

pub returns : goal.returns
returns c = record { searches = c.nearest_path.ensures; decoding = c.nearest_tried.ensures }
