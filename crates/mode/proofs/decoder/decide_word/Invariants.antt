use Rattle.mode.specs.Heard.{bits_of}
use Rattle.mode.proofs.Deciding.{Decided}
use Rattle.mode.proofs.decoder.decide_word.Given as goal

abbrev pub invariant-loop-i : goal.invariant-loop-i
invariant-loop-i l = Decided l.s (bits_of l.heard) l.word l.i
