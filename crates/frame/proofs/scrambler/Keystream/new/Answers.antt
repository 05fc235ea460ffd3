use Rattle.frame.proofs.Sequence.{given_start}
use Rattle.frame.proofs.scrambler.Keystream.new.Goals as goal

pub returns : goal.returns
returns c = rw c.from.ensures (given_start c.args.seed c.requires)
