use Rattle.block_code.proofs.Loops.{divided_set, divided_clear}
use Rattle.block_code.proofs.bch63.divide_in.Goals as goal

pub returns-then-top-ne0 : goal.returns-then-top-ne0
returns-then-top-ne0 c = divided_set c.args.r c.args.bit (rw c.from.ensures at c.if-top-ne0.true)

pub returns-else-top-ne0 : goal.returns-else-top-ne0
returns-else-top-ne0 c = divided_clear c.args.r c.args.bit (rw c.from.ensures at c.if-top-ne0.false)
