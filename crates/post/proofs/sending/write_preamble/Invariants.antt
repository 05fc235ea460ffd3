use Rattle.post.proofs.Stepping.{Stepping}
use Rattle.post.proofs.sending.write_preamble.Given as goal

abbrev pub invariant-loop-i : goal.invariant-loop-i
invariant-loop-i g l = Stepping (g.C.Carrier.mode l.mode).map l.start l.symbols l.bits l.i l.last
