use Rattle.std.proofs.Common.{◌+◌, ◌≤◌, length, ◌∙◌, arith}
use Rattle.mode.proofs.Strings.{length_part}
use Rattle.mode.proofs.Coding.{Turn, turn, coding_none, coding_more, coding_all}
use Rattle.mode.proofs.coder.put_words.Given.{Over}
use Rattle.mode.proofs.coder.put_words.Goals as goal
use Rattle.mode.proofs.coder.put_words.Goals.{In-Ok}

-- what is there for the word that the loop writes
here : (g : Over) (c : In-Ok g) → Turn (g.C.BlockCode.code c.args.code.now) c.args.message.now.bits.now c.loop-i.output c.loop-i.i c.loop-i.from c.loop-i.at c.in-Ok.m c.in-Ok.unsent
here g c =
    let L = g.met.C.BlockCode.lawful c.args.code.now in
    let s = c.in-Ok.ensures.answer in
    turn (g.C.BlockCode.code c.args.code.now) c.args.message.now.bits.now c.loop-i.output c.loop-i.i c.loop-i.from c.loop-i.at c.word_count-i-end.result c.message_bits-k.result c.in-Ok.m c.in-Ok.unsent
    L.some c.loop-i.invariant c.message_bits-k.ensures c.word_count-i-end.ensures c.loop-i-test.true s.1 s.2

pub loop-i-init : goal.loop-i-init
loop-i-init g c = coding_none (g.C.BlockCode.code c.args.code.now) c.args.message.now.bits.now c.args.output.now (g.met.C.BlockCode.lawful c.args.code.now).some c.requires

pub slice_bounds-put_word-end : goal.slice_bounds-put_word-end
slice_bounds-put_word-end g c = omega (arith, (here g c).reads)

pub slice_bounds-put_word-end-in-loop-i : goal.slice_bounds-put_word-end-in-loop-i
slice_bounds-put_word-end-in-loop-i g c = omega (arith, (here g (goal.at.slice_bounds-put_word-end-in-loop-i g c).In-Ok).fits, c.parity_bits-p.ensures)

pub put_word-requires-clause-short : goal.put_word-requires-clause-short
put_word-requires-clause-short g c = (here g (goal.at.put_word-requires-clause-short g c).In-Ok).below

pub loop-i-preserved : goal.loop-i-preserved
loop-i-preserved g c =
    let t = here g (goal.at.loop-i-preserved g c).In-Ok in
    let p = c.parity_bits-p.ensures in
    let w : c.loop-i.at + (c.in-Ok.m + c.parity_bits-p.result) ≤ length c.loop-i.output = omega (arith, t.fits) in
    coding_more (g.C.BlockCode.code c.args.code.now) c.args.message.now.bits.now c.loop-i.output c.put_word.new.output c.loop-i.i c.loop-i.from c.loop-i.at c.in-Ok.m c.in-Ok.unsent (c.in-Ok.m + c.parity_bits-p.result)
    c.loop-i.invariant t (omega arith) (c.put_word.auto.output ∙ length_part c.loop-i.at (c.in-Ok.m + c.parity_bits-p.result) c.loop-i.output w) c.put_word.ensures

pub returns : goal.returns
returns g c =
    coding_all (g.C.BlockCode.code c.args.code.now) c.args.message.now.bits.now c.loop-i.output c.loop-i.i c.loop-i.from c.loop-i.at c.word_count-i-end.result c.message_bits-k.result
    c.loop-i.invariant c.message_bits-k.ensures c.word_count-i-end.ensures c.loop-i-test.false
