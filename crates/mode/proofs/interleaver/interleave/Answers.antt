use Rattle.std.proofs.Common.{◌/◌, ◌<◌, length, refl, arith}
use Rattle.mode.specs.Orders.{forth, back, interleaved}
use Rattle.mode.proofs.Moves.{gather_more, gather_all, copied_places}
use Rattle.mode.proofs.interleaver.interleave.Given.{Over}
use Rattle.mode.proofs.interleaver.interleave.Goals as goal

-- the place that the loop reads is in the input
inside : (g : Over) (c : goal.After-source g) → c.source.result < length c.args.input.now
inside g c =
    let k = c.copied.ensures.0 c.if-not-copied.false in
    omega (arith, (copied_places c.args.copies (length c.args.input.now) k).below c.loop-i.i (omega arith), c.source.ensures)

pub offset_bounds-input-source : goal.offset_bounds-input-source
offset_bounds-input-source g c = omega (arith, inside g c)

pub bounds-input-source : goal.bounds-input-source
bounds-input-source g c = inside g c

pub loop-i-preserved : goal.loop-i-preserved
loop-i-preserved g c =
    let n = length c.args.input.now in
    let k = c.copied.ensures.0 c.if-not-copied.false in
    gather_more c.args.input.now c.loop-i.output (forth c.args.copies (n / c.args.copies)) c.loop-i.i c.index-input-source.result
    (omega arith)
    ((copied_places c.args.copies n k).below c.loop-i.i (omega arith))
    (rw c.source.ensures at c.index-input-source.is)
    c.loop-i.invariant

pub returns : goal.returns
unfolding interleaved
returns g c =
    let n = length c.args.input.now in
    let k = c.copied.ensures.0 c.if-not-copied.false in (
      (k, omega arith),
      gather_all c.args.input.now c.loop-i.output (forth c.args.copies (n / c.args.copies)) n
          (back c.args.copies (n / c.args.copies))
          (copied_places c.args.copies n k) refl (omega arith)
          (λ j d h. c.loop-i.invariant j d (omega arith)),
    )
