use Rattle.std.proofs.Common.{refl}
use Rattle.block_code.proofs.Examples.{examples}
use Rattle.block_code.proofs.worked_examples.Goals as goal

pub returns : goal.returns
returns c = (refl, examples)
