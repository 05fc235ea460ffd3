use Rattle.std.proofs.Common.{Err, subst, arith}
use Rattle.std.proofs.lemmas.Bool.Decides.{not_from_Decides}
use Rattle.std.proofs.lemmas.Result.{err_from_is_err_and}
use Rattle.block_code.specs.Codes.{shortened}
use Rattle.block_code.specs.Answers.{Corrects}
use Rattle.block_code.specs.ShorteningLemmas.{refusing, striking, correcting}
use Rattle.block_code.proofs.shortened.ShortenedBlockCode.correct.Goals as goal

pub returns-in_err-count : goal.returns-in_err-count
returns-in_err-count g c =
    let L = g.met.C.BlockCode.lawful c.args.self.now.code in
    let p = err_from_is_err_and c.from_residual-in_err-count.result c.from_residual-in_err-count.ensures.1 in
    let bits = c.args.bits.now in
    rw p.1 (rw p.2
    (subst (λ s. Corrects (shortened (g.C.BlockCode.code c.args.self.now.code) s) bits bits (Err c.in_err-count.field-0.0)) c.unsent-s.ensures
    (refusing L (omega arith) c.message_bits.ensures c.parity_bits.ensures
    c.in_ok-expect_string.ensures c.after_zeros-full.ensures c.correct.new.bits c.in_err-count.field-0.0
    c.in_err-count.ensures)))

pub returns-then-not-are_zeros : goal.returns-then-not-are_zeros
returns-then-not-are_zeros g c =
    let L = g.met.C.BlockCode.lawful c.args.self.now.code in
    rw (← c.unsent-s.ensures)
    (striking L (omega arith) c.message_bits.ensures c.parity_bits.ensures
    c.in_ok-expect_string.ensures c.after_zeros-full.ensures c.correct.new.bits c.in_ok-count.count
    c.in_ok-count.ensures (not_from_Decides c.are_zeros.result c.are_zeros.ensures c.if-not-are_zeros.true))

pub returns : goal.returns
returns g c =
    let L = g.met.C.BlockCode.lawful c.args.self.now.code in
    rw (← c.unsent-s.ensures)
    (correcting L (omega arith) c.message_bits.ensures c.parity_bits.ensures
    c.in_ok-expect_string.ensures c.after_zeros-full.ensures c.correct.new.bits c.in_ok-count.count
    c.in_ok-count.ensures (c.are_zeros.ensures.0 c.if-not-are_zeros.false) c.copy_from_slice.new.self c.copy_from_slice.ensures.after)
