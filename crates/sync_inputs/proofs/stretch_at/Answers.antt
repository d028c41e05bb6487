-- `sync_inputs::stretch_at` meets its contract.
-- Assumes nothing.
use native.Mathlib.Omega.{arith}
use lib.ListN.{drop}
use Rattle.sync_inputs.specs.Inputs.{unpacked}
use Rattle.sync_inputs.proofs.Inputs.{first_given, none_behind}
use Rattle.sync_inputs.proofs.stretch_at.Goals as goal

pub returns-then-most-used : goal.returns-then-most-used
returns-then-most-used c = none_behind (drop c.args.start (unpacked c.args.bytes.now)) c.args.most c.args.used (omega arith)

pub returns : goal.returns
returns c = first_given _ _ _ _ (omega arith) c.packed_at.ensures
