use Rattle.protected_word.proofs.Packing.{packed}
use Rattle.protected_word.proofs.pack_low.Given as given
use Rattle.protected_word.proofs.pack_low.Goals as goal

pub returns : goal.returns
returns g c =
    packed (given.F-post g c.args.bit) _ _ _ _ _ _ _ _ c.bit.ensures c.bit-2.ensures c.bit-3.ensures c.bit-4.ensures c.bit-5.ensures c.bit-6.ensures c.bit-7.ensures c.bit-8.ensures
