use Rattle.std.proofs.Common.{ap, ◌∙◌}
use Rattle.frame.specs.Registers.{given}
use Rattle.frame.proofs.Sequence.{tap_is, moved_is, given_next}
use Rattle.frame.proofs.scrambler.Keystream.next_bit.Goals as goal

pub returns : goal.returns
unfolding given
returns c =
    let v = c.args.self.now.register in
    record { bit = tap_is v; rest = λ k. ap (λ r. given r k) (moved_is v) ∙ given_next v k }
