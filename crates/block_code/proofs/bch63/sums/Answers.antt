use Rattle.std.proofs.Common.{rules}
use Rattle.block_code.proofs.Loops.{sum_set}
use Rattle.block_code.proofs.bch63.sums.Goals as goal

pub loop-i-preserved-then-b-ne0 : goal.loop-i-preserved-then-b-ne0
loop-i-preserved-then-b-ne0 c =
    sum_set c.loop-i.invariant (search rules) c.if-b-ne0.true (search rules) (search rules) c.power_of-s.ensures c.cube_of-t.ensures
