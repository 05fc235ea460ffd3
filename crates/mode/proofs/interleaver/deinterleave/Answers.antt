use Rattle.std.proofs.Common.{◌/◌, ◌<◌, length, refl, arith, rules}
use Rattle.mode.specs.Orders.{forth, back, deinterleaved}
use Rattle.mode.proofs.Turns.{undoing}
use Rattle.mode.proofs.Moves.{scatter_more, scatter_all, copied_places, copied_back}
use Rattle.mode.proofs.interleaver.deinterleave.Given.{Over}
use Rattle.mode.proofs.interleaver.deinterleave.Goals as goal

-- the place that the loop writes is in the output
inside : (g : Over) (c : goal.After-source g) → c.source.result < length c.loop-i.output
inside g c =
    let k = c.copied.ensures.0 c.if-not-copied.false in
    omega (arith, (copied_places c.args.copies (length c.args.input.now) k).below c.loop-i.i c.loop-i-test.true, c.source.ensures)

pub returns-then-output-input-clause-undoing : goal.returns-then-output-input-clause-undoing
returns-then-output-input-clause-undoing g c = undoing

pub offset_bounds-output-source : goal.offset_bounds-output-source
offset_bounds-output-source g c = let h = inside g c in search rules

pub bounds-output-source : goal.bounds-output-source
bounds-output-source g c = inside g c

pub loop-i-preserved : goal.loop-i-preserved
loop-i-preserved g c =
    let n = length c.args.input.now in
    let k = c.copied.ensures.0 c.if-not-copied.false in
    simp c.source.ensures (scatter_more c.args.input.now c.loop-i.output (forth c.args.copies (n / c.args.copies)) n
    (back c.args.copies (n / c.args.copies))
    (copied_places c.args.copies n k) refl (omega arith) c.loop-i.i c.index-input-i.result c.loop-i-test.true
    c.index-input-i.is c.loop-i.invariant)

pub returns : goal.returns
unfolding deinterleaved
returns g c =
    let n = length c.args.input.now in
    let k = c.copied.ensures.0 c.if-not-copied.false in
    record {
      undoing = undoing;
      moves = (
        (k, omega arith),
        scatter_all c.args.input.now c.loop-i.output (forth c.args.copies (n / c.args.copies)) n
            (back c.args.copies (n / c.args.copies))
            (copied_back c.args.copies n k) refl (omega arith)
            (λ j d h. c.loop-i.invariant j d (omega arith)),
      );
    }
