use Rattle.mode.proofs.Coding.{Coding}
use Rattle.mode.proofs.coder.put_words.Given as goal

abbrev pub invariant-loop-i : goal.invariant-loop-i
invariant-loop-i g l = Coding (g.C.BlockCode.code l.code) l.bits l.output l.i l.from l.at
