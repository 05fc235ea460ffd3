use Rattle.std.proofs.Common.{rules, ◌≡◌, ◌-◌, fold, ap, ◌∙◌, lit≤}
use Rattle.bits.specs.Strings.{bits_of}
use Rattle.frame.specs.Narrowband.{shifted, hcs}
use Rattle.frame.proofs.Checking.{register_below, four_bits}
use Rattle.frame.proofs.narrowband.check_sequence.Goals as goal

pub overflow_sub-register : goal.overflow_sub-register
overflow_sub-register c =
    let e : c.fold-register.result ≡ fold shifted 15 c.args.bits.now = search rules in
    rw e (register_below 15 c.args.bits.now (lit≤ tt))

pub returns : goal.returns
unfolding hcs
returns c =
    let e : c.fold-register.result ≡ fold shifted 15 c.args.bits.now = search rules in
    let f : c.put_bits.new.places ≡ bits_of 4 (15 - c.fold-register.result) = search rules in
    f ∙ ap (λ n. bits_of 4 (15 - n)) e ∙ four_bits _
