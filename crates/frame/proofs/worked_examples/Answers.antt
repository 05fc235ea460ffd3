use Rattle.std.proofs.Common.{refl}
use Rattle.frame.specs.Narrowband.{hcs}
use Rattle.frame.specs.Scrambler.{before, keystream}
use Rattle.frame.proofs.worked_examples.Goals as goal

pub returns : goal.returns
unfolding hcs before keystream
returns c = (refl, refl, refl, refl)
