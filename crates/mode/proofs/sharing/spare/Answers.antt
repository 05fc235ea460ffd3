use Rattle.mode.proofs.Splits.{spare_low, spare_high}
use Rattle.mode.proofs.sharing.spare.Goals as goal

pub returns-then-word-missing : goal.returns-then-word-missing
returns-then-word-missing c = spare_low c.args.words c.args.missing c.args.word c.if-word-missing.true

pub returns-else-word-missing : goal.returns-else-word-missing
returns-else-word-missing c = spare_high c.args.words c.args.missing c.args.word c.if-word-missing.false
