use Rattle.std.proofs.Common.{◌≡◌, length, ap₂, ◌∙◌, arith}
use Rattle.block_code.specs.Bch.{parity}
use Rattle.bits.specs.Strings.{bits_of}
use Rattle.block_code.proofs.bch63.Bch63BlockCode.encode.Goals as goal

pub returns : goal.returns
unfolding parity
returns c =
    let twelve : length c.args.parity.now ≡ 12 = omega arith in (
      c.in_ok-expect_string.ensures,
      twelve,
      c.put_bits.ensures ∙ ap₂ bits_of twelve (omega (arith, c.from.ensures, c.remainder.ensures)),
    )
