use Rattle.std.proofs.Common.{◌≡◌, ◌+◌, ◌<◌, ◌++◌, length, take, ap, ◌∙◌, arith, length-append, length-set}
use Rattle.std.specs.List.{AllByRecursion}
use Rattle.std.specs.Int.Bits.{bit_xor}
use Rattle.std.proofs.ByRecursion.{All-push}
use Rattle.std.proofs.lemmas.List.{take_more_set}
use Rattle.std.proofs.lemmas.Nat.{xor_lt}
use Rattle.bits.specs.Strings.{Bit}
use Rattle.frame.specs.Numbers.{Byte}
use Rattle.frame.specs.Scrambler.{scrambled}
use Rattle.frame.proofs.Scrambling.{gives_next, unscramble_more, both_bits}
use Rattle.frame.proofs.scrambler.unscramble.Goals as goal

pub loop-i-preserved : goal.loop-i-preserved
loop-i-preserved c =
    let s = c.in-Some.ensures.steps in
    let inv = c.loop-i.invariant in
    let e = c.next_byte.ensures in
    let seed = c.args.seed in
    let i = c.loop-i.i-iterator.count in
    let xs = c.loop-i.psdu in
    let eight = c.in-Some.eight.now in
    let rest = c.next.new.self.iter.rest.now in
    let y = bit_xor c.number_of.result c.next_byte.result in
    let valid : AllByRecursion Bit eight × AllByRecursion Bit rest = both_bits eight rest (rw s.0.1.0 at inv.valid) in
    let long : length c.loop-i.i-iterator.iter.rest.now ≡ 8 + length rest =
    ap length s.0.1.0 ∙ length-append eight rest ∙ ap (λ n. n + length rest) (s.0.1.1 ∙ inv.size) in
    let inside : i < length xs = omega (arith, inv.left) in
    rw (s.2, s.1) (record {
      size = s.0.0 ∙ inv.size;
      gives = gives_next seed i c.loop-i.keystream.register c.next_byte.result inv.gives e.byte _ e.rest;
      left = simp length-set (omega (arith, inv.left));
      valid = valid.1;
      parts = unscramble_more seed i c.loop-i.keystream.register c.next_byte.result inv.gives e.byte xs c.args.bits.now eight rest c.number_of.result inside
          (inv.parts ∙ ap (λ us. scrambled seed (take i xs) ++ us) s.0.1.0) (record { size = s.0.1.1 ∙ inv.size; bits = valid.0 }) c.number_of.ensures;
      bytes = rw (take_more_set xs i y inside)
          (All-push Byte (take i xs) y inv.bytes (xor_lt 8 c.number_of.result c.next_byte.result c.number_of.type_inv c.next_byte.type_inv));
    })
