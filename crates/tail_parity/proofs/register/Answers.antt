-- `tail_parity::register` meets its contract.
-- Assumes nothing.
use mathlib.Core.Path.{◌≡◌}
use native.Mathlib.Omega.{arith}
use lib.ListN.{length}
use Rattle.tail_rules.proofs.Written.{registered_is}
use Rattle.tail_parity.proofs.register.Goals as goal

pub returns : goal.returns
returns c =
    let lr : length c.args.r ≡ 6 = omega (arith, c.well_formed.1.1.0) in
    registered_is c.args.r c.args.g.now c.args.f _ _ _ _ _ _ lr c.requires c.product.ensures c.product-2.ensures c.product-3.ensures
    c.product-4.ensures c.product-5.ensures c.product-6.ensures
