use Rattle.mode.proofs.Reading.{Sofar}
use Rattle.mode.proofs.decoder.read_part.Given as goal

abbrev pub invariant-loop-k : goal.invariant-loop-k
invariant-loop-k g l = Sofar g.M.Mapping.map l.list l.at l.count l.bits l.k l.prior
