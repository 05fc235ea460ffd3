use Rattle.std.proofs.Common.{refl}
use Rattle.block_code.proofs.Division.{divides_parity}
use Rattle.block_code.proofs.bch63.Bch63.generator.Goals as goal

pub returns : goal.returns
returns c = (refl, divides_parity)
