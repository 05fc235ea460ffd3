use Rattle.std.proofs.Common.{arith}
use Rattle.mode.proofs.Blocks.{label_more}
use Rattle.mode.proofs.decoder.label.Goals as goal

pub loop-i-preserved : goal.loop-i-preserved
loop-i-preserved c = label_more c.args.w c.args.from c.args.bits.now c.loop-i.output c.loop-i.i (omega arith) (omega arith) c.loop-i.invariant
