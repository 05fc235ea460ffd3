use Rattle.frame.specs.Headers.{InRange}
use Rattle.frame.specs.Narrowband.{narrowband}
use Rattle.frame.specs.Answers.{fields_of}
use Rattle.frame.specs.Written.{header-written}
use Rattle.frame.proofs.narrowband.NarrowbandHeaderHeaderForm.write.Goals as goal

pub returns : goal.returns
returns c =
    let r : InRange narrowband (fields_of c.args.header.now) = c.in_range.ensures.0 c.if-not-in_range.false in (
      r,
      c.if-out-ne-BITS.false,
      header-written c.args.out.now c.put_low_bits.new.places c.put_low_bits-2.new.places (fields_of c.args.header.now)
          c.if-out-ne-BITS.false c.put_low_bits.ensures c.put_low_bits-2.ensures c.check_sequence-check.result c.copy_from_slice.new.self r
          c.check_sequence-check.ensures c.copy_from_slice.ensures.after,
    )
