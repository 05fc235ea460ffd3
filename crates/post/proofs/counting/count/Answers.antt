use Rattle.std.proofs.Common.{arith}
use Rattle.mode.proofs.Room.{count_few}
use Rattle.post.proofs.counting.count.Goals as goal

pub returns-clause-few : goal.returns-clause-few
returns-clause-few g c = omega (arith, c.in-Ok.ensures.1, count_few (g.C.Carrier.mode c.args.mode.now) (g.met.C.Carrier.lawful c.args.mode.now) c.args.n c.requires.high)
