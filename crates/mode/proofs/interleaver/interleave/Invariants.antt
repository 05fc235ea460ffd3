use Rattle.std.proofs.Common.{◌≡◌, ℕ, ◌<◌, get_or}
use Rattle.mode.specs.Orders.{forth}
use Rattle.mode.proofs.interleaver.interleave.Given as goal

abbrev pub invariant-loop-i : goal.invariant-loop-i
invariant-loop-i g l = (k : ℕ) (d : g.row.T.Denot) → k < l.i → get_or l.output k d ≡ get_or l.input (forth l.copies l.bits k) d
