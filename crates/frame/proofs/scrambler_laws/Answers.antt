use Rattle.frame.proofs.Sequence.{keystream_recurs}
use Rattle.frame.proofs.Scrambling.{scrambling_is_invertible}
use Rattle.frame.proofs.scrambler_laws.Goals as goal

pub returns : goal.returns
returns c = record { recurs = keystream_recurs; invertible = scrambling_is_invertible }
