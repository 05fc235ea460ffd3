use Rattle.std.proofs.Common.{◌≡◌, ℕ, zero, ◌-◌, ◌/◌, ◌%◌, ◌^◌, ◌<◌, ◌≢◌, length, sym, ◌∙◌, arith, below_more, pow_mono, get_or-set_same, get_or-set_other}
use Rattle.std.proofs.Math.Nat.{div-eq_of_lt}
use Rattle.std.proofs.lemmas.Nat.{and_mask}
use Rattle.std.proofs.lemmas.List.{ext_get_or}
use Rattle.bits.specs.Strings.{bits_of}
use Rattle.bits.specs.Numbers.{length_bits, get_or-bits_of}
use Rattle.bits.proofs.put_bits.Goals.{then-shift-lt64, else-shift-lt64}
use Rattle.bits.proofs.put_bits.Goals as goal

pub loop-i-preserved : goal.loop-i-preserved
loop-i-preserved c =
    let n : ℕ = c.args.number in let shift : ℕ = length c.args.places.now - 1 - c.loop-i.i in
    let lt : c.loop-i.i < length c.loop-i.places = omega arith in
    let placed : c.if-shift-lt64.bit ≡ n / 2 ^ shift % 2 =
    elim c.if-shift-lt64.branch [
      | then-shift-lt64 w ↦ w.bit-is ∙ and_mask (n / 2 ^ shift) 1
      | else-shift-lt64 w ↦
          let none : n / 2 ^ shift ≡ zero = div-eq_of_lt (omega (arith, pow_mono w.if-shift-lt64.false, c.ranges.number.fits)) in omega arith
    ] in
    below_more _ _
    (λ k h. let ne : k ≢ c.loop-i.i = omega arith in rw get_or-set_other (c.loop-i.invariant k h))
    (rw get_or-set_same placed)

pub returns : goal.returns
returns c =
    let w = length c.args.places.now in
    let l : length c.loop-i.places ≡ w = omega arith in
    ext_get_or 0 c.loop-i.places (bits_of w c.args.number) (l ∙ sym (length_bits w c.args.number))
    (λ k h. c.loop-i.invariant k (omega arith) ∙ sym (get_or-bits_of w c.args.number k (omega arith)))
