use Rattle.std.proofs.Common.{◌≡◌, length, sym, ◌∙◌, arith}
use Rattle.std.proofs.lemmas.List.{ext_get_or}
use Rattle.frame.specs.Numbers.{low_bits}
use Rattle.frame.specs.Numbering.{get_or-low_bits, low_bits_bits}
use Rattle.frame.proofs.numbers.put_low_bits.Goals as goal

pub returns : goal.returns
returns c =
    let w = length c.args.places.now in
    let l : length c.loop-i.places ≡ w = omega arith in
    ext_get_or 0 c.loop-i.places (low_bits w c.args.number) (l ∙ sym (low_bits_bits w c.args.number).size)
    (λ k h. c.loop-i.invariant k (omega arith) ∙ sym (get_or-low_bits w c.args.number k (omega arith)))
