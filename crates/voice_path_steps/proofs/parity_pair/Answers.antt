use native.Mathlib.Omega.{arith}
use Rattle.protected_rules.specs.Convolution.{parity_of}
use Rattle.voice_path_steps.specs.Steps.{pair_of}
use Rattle.voice_path_steps.proofs.parity_pair.Goals as goal

pub returns : goal.returns
unfolding pair_of parity_of
returns c = omega (arith, c.parity.ensures.0, c.parity-2.ensures.0)
