use Rattle.block_code.proofs.Loops.{Summed}
use Rattle.block_code.proofs.bch63.sums.Given as goal

abbrev pub invariant-loop-i : goal.invariant-loop-i
invariant-loop-i l = Summed l.bits l.i-iterator.iter.iter.rest.now l.i-iterator.count l.s l.t
