use Rattle.std.proofs.Common.{◌*◌, drop, ap, ◌∙◌, arith}
use Rattle.std.proofs.ByRecursion.{All-take, All-drop}
use Rattle.bits.specs.Strings.{Bit}
use Rattle.mode.specs.Copying.{majority}
use Rattle.mode.specs.Heard.{bits_of}
use Rattle.mode.proofs.Deciding.{bits_part, decided_more}
use Rattle.mode.proofs.decoder.decide_word.Goals as goal

pub decide-requires-clause-bits : goal.decide-requires-clause-bits
decide-requires-clause-bits c =
    let s = c.count-s.result in
    let at = s * c.loop-i.i in
    rw (bits_part c.args.heard.now at s) (All-take Bit s (drop at (bits_of c.args.heard.now)) (All-drop Bit at (bits_of c.args.heard.now) c.requires.bits))

pub loop-i-preserved : goal.loop-i-preserved
loop-i-preserved c =
    decided_more c.count-s.result (bits_of c.args.heard.now) c.loop-i.word c.loop-i.i c.decide.result c.loop-i.invariant (omega arith)
    (c.decide.ensures ∙ ap majority (bits_part c.args.heard.now (c.count-s.result * c.loop-i.i) c.count-s.result))
