use Rattle.block_code.specs.Unprotected.{corrected}
use Rattle.block_code.proofs.plain.PlainBlockCode.correct.Goals as goal

pub returns : goal.returns
returns c = let b = c.in_ok-expect_string.ensures in (b, corrected c.args.bits.now b)
