use Rattle.std.proofs.Common.{◌≡◌, ◌+◌, ◌*◌, ◌/◌, ◌%◌, ◌≤◌, length, sym, ap, ap₂, ◌∙◌, arith}
use Rattle.std.specs.Iterator.Adapters.{enumerate_source, enumerate_count}
use Rattle.std.specs.Slice.Iter.{chunks_exact_rest, chunks_exact_size}
use Rattle.mode.specs.Chains.{copy_count}
use Rattle.mode.specs.Orders.{Copied, deinterleaved}
use Rattle.mode.specs.Heard.{labelled}
use Rattle.mode.proofs.Moves.{copied_size}
use Rattle.mode.proofs.Blocks.{one_copy, taken_begin, block_there, taken_next, taken_end}
use Rattle.mode.proofs.decoder.take_copies.Goals as goal
use Rattle.mode.proofs.decoder.take_copies.Goals.{After-count-s, In-Some}

copied : (c : After-count-s) → Copied c.count-s.result (length c.args.bits.now)
copied c = rw c.count-s.ensures c.requires.copied

long : (c : After-count-s) → length c.args.bits.now ≡ c.count-s.result * (length c.args.bits.now / c.count-s.result)
long c = sym (copied_size c.count-s.result (length c.args.bits.now) (copied c))

-- the next block is there
fits : (c : In-Some) → c.count-s.result * (3 * (length c.args.bits.now / c.count-s.result % 2)) + 2 * c.count-s.result * c.in-Some.i + 2 * c.count-s.result ≤ length c.args.bits.now
fits c =
    let a = (goal.at.In-Some c).After-count-s in
    let k = copied a in
    let next = c.in-Some.ensures.steps in
    let it = enumerate_source c.loop-i.i-iterator in
    rw next.1 (block_there c.count-s.result (length c.args.bits.now / c.count-s.result) c.args.w c.args.bits.now k.several k.enough (long a) c.loop-i.output (enumerate_count c.loop-i.i-iterator) (chunks_exact_rest it) (chunks_exact_size it) c.loop-i.invariant c.in-Some.block.now _ next.0.1.0 next.0.1.1).1

pub returns-then-s-eq1 : goal.returns-then-s-eq1
returns-then-s-eq1 c =
    let e : copy_count c.args.copies ≡ 1 = sym c.count-s.ensures ∙ c.if-s-eq1.true in
    c.label.ensures ∙ ap₂ (λ v i. labelled v i c.args.bits.now) (omega arith) (omega arith)
    ∙ sym (one_copy (length c.args.bits.now / 1) (labelled c.args.w 0 c.args.bits.now))
    ∙ ap (λ s. deinterleaved s (length c.args.bits.now / s) (labelled c.args.w 0 c.args.bits.now)) (sym e)

pub loop-i-init : goal.loop-i-init
loop-i-init c =
    let a = (goal.at.loop-i-init c).After-count-s in
    let k = copied a in
    rw (c.into_iter-i-iterator.ensures.into_iter_gives, c.enumerate-i-items.ensures.count, c.enumerate-i-items.ensures.source, c.chunks_exact.ensures.size)
    (taken_begin c.count-s.result (length c.args.bits.now / c.count-s.result) c.args.w c.args.bits.now k.several k.enough (long a) _ c.take_block.new.output _ c.take_block.ensures c.chunks_exact.ensures.rest)

pub loop-i-preserved : goal.loop-i-preserved
loop-i-preserved c =
    let a = (goal.at.loop-i-preserved c).After-count-s in
    let k = copied a in
    let next = c.in-Some.ensures.steps in
    let it = enumerate_source c.loop-i.i-iterator in
    rw (next.2, next.0.0) (taken_next c.count-s.result (length c.args.bits.now / c.count-s.result) c.args.w c.args.bits.now k.several k.enough (long a) c.loop-i.output (enumerate_count c.loop-i.i-iterator) (chunks_exact_rest it) (chunks_exact_size it) c.loop-i.invariant
    c.take_block-in-loop-i.new.output c.in-Some.block.now _ c.in-Some.i next.0.1.0 next.0.1.1 (omega (arith, c.loop-i.auto.output, c.requires.room)) next.1 c.take_block-in-loop-i.ensures)

pub returns : goal.returns
returns c =
    let a = (goal.at.returns c).After-count-s in
    let k = copied a in
    let it = enumerate_source c.loop-i.i-iterator in
    taken_end c.count-s.result (length c.args.bits.now / c.count-s.result) c.args.w c.args.bits.now k.several k.enough (long a) c.loop-i.output (enumerate_count c.loop-i.i-iterator) (chunks_exact_rest it) (chunks_exact_size it) c.loop-i.invariant
    c.in-None.ensures.steps.0.1.0 (omega (arith, c.loop-i.auto.output, c.requires.room))
    ∙ ap (λ s. deinterleaved s (length c.args.bits.now / s) (labelled c.args.w 0 c.args.bits.now)) c.count-s.ensures
