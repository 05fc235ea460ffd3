use Rattle.std.proofs.Common.{◌+◌, ap, ◌∙◌, arith}
use Rattle.frame.specs.Registers.{given}
use Rattle.frame.proofs.Sequence.{mask_none, mask_step}
use Rattle.frame.proofs.scrambler.Keystream.next_byte.Goals as goal

pub loop-k-init : goal.loop-k-init
loop-k-init c =
    let v = c.args.self.now.register in (mask_none (given v) 0, λ k. ap (given v) (omega arith))

pub loop-k-preserved : goal.loop-k-preserved
loop-k-preserved c =
    let v = c.args.self.now.register in
    let i = c.loop-k.invariant in (
      mask_step v c.loop-k.k c.loop-k.byte c.next_bit.result c.loop-k-test.true i.0 (c.next_bit.ensures.bit ∙ i.1 0 ∙ ap (given v) (omega arith)),
      λ k. c.next_bit.ensures.rest k ∙ i.1 (k + 1) ∙ ap (given v) (omega arith),
    )
