use Rattle.std.proofs.Common.{refl}
use Rattle.mode.specs.Shares.{words}
use Rattle.mode.proofs.sharing.word_count.Goals as goal

pub returns : goal.returns
unfolding words
returns c = refl
