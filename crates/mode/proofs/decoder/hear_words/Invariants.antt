use Rattle.mode.specs.Chains.{copy_count}
use Rattle.mode.specs.Heard.{bits_of}
use Rattle.mode.proofs.Finding.{Hearing}
use Rattle.mode.proofs.decoder.hear_words.Given as goal

abbrev pub invariant-loop-j : goal.invariant-loop-j
invariant-loop-j g l = Hearing (g.C.BlockCode.code l.code) (copy_count l.copies) (bits_of l.heard) l.bits l.n l.j l.from l.at l.total
