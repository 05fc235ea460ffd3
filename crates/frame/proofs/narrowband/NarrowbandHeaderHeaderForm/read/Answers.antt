use Rattle.std.proofs.Common.{Err, refl, ap, ◌∙◌}
use Rattle.std.proofs.lemmas.Result.{err_from_is_err_and}
use Rattle.bits.specs.Strings.{Bits}
use Rattle.frame.specs.Written.{fields_read, rate_refused}
use Rattle.frame.proofs.narrowband.NarrowbandHeaderHeaderForm.read.Goals as goal

pub returns-in_err-verify_rate : goal.returns-in_err-verify_rate
returns-in_err-verify_rate c =
    let valid : Bits 19 c.args.bits.now = record { size = c.if-bits-ne-BITS.false; bits = c.are_bits.ensures.0 c.if-not-are_bits.false } in
    let p = err_from_is_err_and c.from_residual-in_err-verify_rate.result c.from_residual-in_err-verify_rate.ensures.1 in
    let e = c.in_err-verify_rate.ensures in
    rate_refused c.args.legal.now c.args.bits.now valid c.in_ok-verify_hcs.ensures c.in_ok-verify_reserved.ensures
    c.from_residual-in_err-verify_rate.result c.in_err-verify_rate.field-0.0 e.1 e.0 (p.1 ∙ ap Err p.2)

pub returns : goal.returns
returns c =
    let valid : Bits 19 c.args.bits.now = record { size = c.if-bits-ne-BITS.false; bits = c.are_bits.ensures.0 c.if-not-are_bits.false } in
    fields_read c.args.legal.now c.args.bits.now valid c.in_ok-verify_hcs.ensures c.in_ok-verify_reserved.ensures
    _ c.in_ok-verify_rate.ensures c.from.result (c.from.ensures ∙ c.number_of-length.ensures) refl
