use Rattle.std.proofs.Common.{◌≡◌, ◌+◌, ◌*◌, subst, arith}
use Rattle.block_code.specs.Codes.{MinimumDistance}
use Rattle.block_code.specs.Bch.{bch63}
use Rattle.block_code.specs.Distance.{minimum}
use Rattle.block_code.proofs.bch63.Bch63.minimum_distance.Goals as goal

pub returns : goal.returns
returns c = let e : 5 ≡ 2 * c.reach.result + 1 = omega arith in subst (MinimumDistance bch63) e minimum
