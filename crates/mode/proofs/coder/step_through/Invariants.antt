use Rattle.std.proofs.Common.{◌*◌}
use Rattle.mode.proofs.Coding.{Going}
use Rattle.mode.proofs.coder.step_through.Given as goal

abbrev pub invariant-loop-i : goal.invariant-loop-i
invariant-loop-i g l = Going g.M.Mapping.map l.prior l.output l.bits l.i l.last (l.w * l.i)
