use Rattle.mode.proofs.Deciding.{against_le}
use Rattle.mode.proofs.decoder.decide.Goals as goal

pub overflow_sub-copies : goal.overflow_sub-copies
overflow_sub-copies c = against_le c.args.copies.now c.differing-against.result c.differing-against.ensures
