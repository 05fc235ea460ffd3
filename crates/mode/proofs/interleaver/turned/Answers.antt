use Rattle.std.proofs.Common.{refl}
use Rattle.mode.specs.Orders.{turned}
use Rattle.mode.proofs.interleaver.turned.Goals as goal

pub returns : goal.returns
unfolding turned
returns c = refl
