use Rattle.std.proofs.Common.{rules, ◌≡◌, ◌+◌, ◌-◌, ◌*◌, ◌<◌, ◌≤◌, length, take, drop, Some, None, sym, refl, ap, ◌∙◌, subst, arith}
use Rattle.std.proofs.iter.Serving.{serving}
use Rattle.std.proofs.lemmas.Result.{err_from_is_err_and}
use Rattle.std.proofs.ByRecursion.{All-take, All-drop}
use Rattle.std.proofs.lemmas.Slice.{take-put_mid}
use Rattle.bits.specs.Strings.{Bit}
use Rattle.block_code.specs.Codes.{shortened}
use Rattle.mode.specs.Chains.{copy_count}
use Rattle.mode.specs.Heard.{bits_of, Lowest}
use Rattle.mode.specs.Hearing.{NearWord, FarWord}
use Rattle.mode.proofs.Strings.{length_part}
use Rattle.mode.proofs.Room.{copies_some}
use Rattle.mode.proofs.Deciding.{bits_part, length_bits}
use Rattle.mode.proofs.Finding.{Next, next, hearing_none, hearing_more, hearing_lost, hearing_all, total_few, lowest_at, word_some}
use Rattle.mode.proofs.decoder.hear_words.Given.{Over}
use Rattle.mode.proofs.decoder.hear_words.Goals as goal
use Rattle.mode.proofs.decoder.hear_words.Goals.{In-Ok, In_ok-count}

-- what is there for the next word
here : (g : Over) (c : In-Ok g) → Next (g.C.BlockCode.code c.args.code.now) (copy_count c.args.copies) (bits_of c.args.heard.now) (length c.args.bits.now) c.loop-j.j c.loop-j.from c.loop-j.at c.in-Ok.m c.in-Ok.unsent
here g c =
    let a = c.in-Ok.ensures.answer in
    next (g.C.BlockCode.code c.args.code.now) (copy_count c.args.copies) (bits_of c.args.heard.now) c.loop-j.bits (length c.args.bits.now) c.loop-j.j c.loop-j.from c.loop-j.at c.loop-j.total c.word_count-j-end.result c.message_bits-k.result c.in-Ok.m c.in-Ok.unsent
    (g.met.C.BlockCode.lawful c.args.code.now).some c.loop-j.invariant c.message_bits-k.ensures c.word_count-j-end.ensures c.loop-j-test.true a.1 a.2

-- the count of its copies
size : (g : Over) (c : In-Ok g) → c.count-s.result * (c.in-Ok.m + c.parity_bits-p.result) ≡ copy_count c.args.copies * (c.in-Ok.m + (g.C.BlockCode.code c.args.code.now).p)
size g c = rw (c.count-s.ensures, c.parity_bits-p.ensures) refl

-- they are there
there : (g : Over) (c : In-Ok g) → c.loop-j.at + c.count-s.result * (c.in-Ok.m + c.parity_bits-p.result) ≤ length c.args.heard.now
there g c = omega (arith, (here g c).fits, size g c, length_bits c.args.heard.now)

-- the bits that they were heard as
cut : (g : Over) (c : In-Ok g) → bits_of (take (c.loop-j.at + c.count-s.result * (c.in-Ok.m + c.parity_bits-p.result) - c.loop-j.at) (drop c.loop-j.at c.args.heard.now)) ≡ take (copy_count c.args.copies * (c.in-Ok.m + (g.C.BlockCode.code c.args.code.now).p)) (drop c.loop-j.at (bits_of c.args.heard.now))
cut g c =
    bits_part c.args.heard.now c.loop-j.at (c.count-s.result * (c.in-Ok.m + c.parity_bits-p.result)) ∙ ap (λ q. take q (drop c.loop-j.at (bits_of c.args.heard.now))) (size g c)

pub loop-j-init : goal.loop-j-init
loop-j-init g c = hearing_none (g.C.BlockCode.code c.args.code.now) (copy_count c.args.copies) (bits_of c.args.heard.now) c.args.bits.now (length c.args.bits.now) (g.met.C.BlockCode.lawful c.args.code.now).some (omega (arith, c.requires.room, length_bits c.args.heard.now))

pub slice_bounds-own-end : goal.slice_bounds-own-end
slice_bounds-own-end g c = omega (arith, there g (goal.at.slice_bounds-own-end g c).In-Ok)

pub slice_bounds-message-end : goal.slice_bounds-message-end
slice_bounds-message-end g c = omega (arith, (here g (goal.at.slice_bounds-message-end g c).In-Ok).room, c.loop-j.auto.bits)

pub hear_message-requires : goal.hear_message-requires
hear_message-requires g c =
    let b = (goal.at.hear_message-requires g c).In-Ok in
    let h = here g b in
    let m = length_part c.loop-j.from c.in-Ok.m c.loop-j.bits (omega (arith, h.room, c.loop-j.auto.bits)) in
    record {
      short = h.below;
      bits = rw (cut g b) (All-take Bit (copy_count c.args.copies * (c.in-Ok.m + (g.C.BlockCode.code c.args.code.now).p)) (drop c.loop-j.at (bits_of c.args.heard.now)) (All-drop Bit c.loop-j.at (bits_of c.args.heard.now) c.requires.heard_bits));
      size = m ∙ h.bits;
      room = length_part c.loop-j.at (c.count-s.result * (c.in-Ok.m + c.parity_bits-p.result)) c.args.heard.now (there g b) ∙ size g b ∙ ap (λ q. copy_count c.args.copies * (q + (g.C.BlockCode.code c.args.code.now).p)) (sym m);
    }

-- the word has copies
some : (g : Over) (c : In-Ok g) → 0 < length (take (c.loop-j.at + c.count-s.result * (c.in-Ok.m + c.parity_bits-p.result) - c.loop-j.at) (drop c.loop-j.at c.args.heard.now))
some g c =
    omega (
      arith,
      length_part c.loop-j.at (c.count-s.result * (c.in-Ok.m + c.parity_bits-p.result)) c.args.heard.now (there g c),
      size g c,
      word_some (g.C.BlockCode.code c.args.code.now) (copy_count c.args.copies) (bits_of c.args.heard.now) (length c.args.bits.now) c.loop-j.j c.loop-j.from c.loop-j.at c.in-Ok.m c.in-Ok.unsent (copies_some c.args.copies) (here g c),
    )

pub ok_or_else-requires : goal.ok_or_else-requires
ok_or_else-requires g c = let p = some g (goal.at.ok_or_else-requires g c).In-Ok in grind serving

pub returns-in_err-count : goal.returns-in_err-count
returns-in_err-count g c =
    let b = (goal.at.returns-in_err-count g c).In-Ok in
    let h = here g b in
    let p = err_from_is_err_and c.from_residual.result c.from_residual.ensures.1 in
    let none : c.hear_message.result ≡ None = grind arith in
    let low : Lowest (take (c.loop-j.at + c.count-s.result * (c.in-Ok.m + c.parity_bits-p.result) - c.loop-j.at) (drop c.loop-j.at c.args.heard.now)) c.in_err-count.field-0.0.symbol = search rules in
    let f = subst (λ e. FarWord (shortened (g.C.BlockCode.code c.args.code.now) c.in-Ok.unsent) (copy_count c.args.copies) e) (cut g b) (rw none at c.hear_message.ensures) in
    rw (p.1, p.2) (
      c.loop-j.j,
      hearing_lost (g.C.BlockCode.code c.args.code.now) (g.met.C.BlockCode.lawful c.args.code.now) (copy_count c.args.copies) (bits_of c.args.heard.now) c.loop-j.bits (length c.args.bits.now) c.loop-j.j c.loop-j.from c.loop-j.at c.loop-j.total c.in-Ok.m c.in-Ok.unsent c.loop-j.invariant h f (omega (arith, h.room, c.loop-j.auto.bits)),
      lowest_at (g.C.BlockCode.code c.args.code.now) (copy_count c.args.copies) (bits_of c.args.heard.now) c.loop-j.bits c.args.heard.now (length c.args.bits.now) c.loop-j.j c.loop-j.from c.loop-j.at c.loop-j.total c.in-Ok.m c.in-Ok.unsent (c.count-s.result * (c.in-Ok.m + c.parity_bits-p.result)) c.in_err-count.field-0.0.symbol c.loop-j.invariant h (size g b) low,
    )

-- the word that is near
near : (g : Over) (c : In_ok-count g) → NearWord (shortened (g.C.BlockCode.code c.args.code.now) c.in-Ok.unsent) (copy_count c.args.copies) (take (copy_count c.args.copies * (c.in-Ok.m + (g.C.BlockCode.code c.args.code.now).p)) (drop c.loop-j.at (bits_of c.args.heard.now))) c.hear_message.new.message c.in_ok-count.count
near g c =
    let some : c.hear_message.result ≡ Some c.in_ok-count.count = grind arith in
    subst (λ e. NearWord (shortened (g.C.BlockCode.code c.args.code.now) c.in-Ok.unsent) (copy_count c.args.copies) e c.hear_message.new.message c.in_ok-count.count) (cut g (goal.at.In_ok-count g c).In-Ok) (rw some at c.hear_message.ensures)

pub overflow_add-total : goal.overflow_add-total
overflow_add-total g c =
    omega (arith, total_few (g.C.BlockCode.code c.args.code.now) (g.met.C.BlockCode.lawful c.args.code.now) (copy_count c.args.copies) (bits_of c.args.heard.now) c.loop-j.bits (length c.args.bits.now) c.loop-j.j c.loop-j.from c.loop-j.at c.loop-j.total c.in-Ok.m c.in-Ok.unsent c.loop-j.invariant (here g (goal.at.overflow_add-total g c).In-Ok) c.hear_message.new.message c.in_ok-count.count (near g (goal.at.overflow_add-total g c).In_ok-count) c.requires.carried.high)

pub loop-j-preserved : goal.loop-j-preserved
loop-j-preserved g c =
    let b = (goal.at.loop-j-preserved g c).In-Ok in
    let h = here g b in
    let k = near g (goal.at.loop-j-preserved g c).In_ok-count in
    let r = h.room in
    rw (size g b) (hearing_more (g.C.BlockCode.code c.args.code.now) (g.met.C.BlockCode.lawful c.args.code.now) (copy_count c.args.copies) (bits_of c.args.heard.now) c.loop-j.bits (length c.args.bits.now) c.loop-j.j c.loop-j.from c.loop-j.at c.loop-j.total c.in-Ok.m c.in-Ok.unsent c.loop-j.invariant h c.hear_message.new.message _ c.in_ok-count.count k
    (take-put_mid c.loop-j.from (c.loop-j.from + c.in-Ok.m - c.loop-j.from) c.loop-j.bits c.hear_message.new.message (c.loop-j.from + c.in-Ok.m)
    (omega (arith, k.valid.size, h.bits)) (omega (arith, c.loop-j.auto.bits))) (omega (arith, c.loop-j.auto.bits)))

pub returns : goal.returns
returns g c =
    hearing_all (g.C.BlockCode.code c.args.code.now) (copy_count c.args.copies) (bits_of c.args.heard.now) c.loop-j.bits (length c.args.bits.now) c.loop-j.j c.loop-j.from c.loop-j.at c.loop-j.total c.word_count-j-end.result c.message_bits-k.result
    c.loop-j.invariant c.message_bits-k.ensures c.word_count-j-end.ensures c.loop-j-test.false c.loop-j.auto.bits
