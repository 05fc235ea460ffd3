use Rattle.block_code.proofs.Loops.{table_at}
use Rattle.block_code.proofs.bch63.power_of.Goals as goal

pub returns : goal.returns
returns c = table_at c.args.i c.requires
