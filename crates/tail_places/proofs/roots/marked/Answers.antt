-- `tail_places::roots::marked` meets its contract.
-- Assumes nothing.
use mathlib.Core.Path.{◌≡◌, ◌∙◌}
use native.Mathlib.Omega.{arith}
use lib.ListN.{length}
use Rattle.bits.proofs.Tabs.{is_tab}
use Rattle.tail_places.proofs.roots.marked.Goals as goal

pub returns : goal.returns
returns c =
    let f = c.loop-p.invariant in
    let long : length c.args.v ≡ 14 = omega (arith, c.well_formed.0) in
    is_tab c.loop-p.x-items 14 _ (f.len ∙ long) (λ k h. f.done k (omega arith))
