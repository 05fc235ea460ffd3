use Rattle.std.proofs.Common.{rules, ◌≡◌, ◌+◌, ◌*◌, ◌^◌, ◌≤◌, length, fold, ◌∙◌, arith, pow_mono}
use Rattle.bits.proofs.Folds.{next, read}
use Rattle.bits.proofs.number_of.Goals as goal

pub returns : goal.returns
returns c =
    let e : c.fold.result ≡ fold next 0 c.args.bits.now = search rules in
    let s : length c.args.bits.now ≤ 64 = omega arith in
    let room : (0 + 1) * 2 ^ length c.args.bits.now ≤ 2 ^ 64 = omega (arith, pow_mono s) in
    let b = c.are_bits.ensures.0 c.if-not-are_bits.false in ((s, b), e ∙ read 0 c.args.bits.now b room)
