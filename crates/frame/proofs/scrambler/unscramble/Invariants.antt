use Rattle.std.proofs.Common.{◌≡◌, ℕ, ◌+◌, ◌*◌, ◌++◌, length, take}
use Rattle.std.specs.List.{AllByRecursion}
use Rattle.bits.specs.Strings.{Bit}
use Rattle.frame.specs.Numbers.{Byte}
use Rattle.frame.specs.Registers.{given}
use Rattle.frame.specs.Scrambler.{keystream, scrambled}
use Rattle.frame.proofs.scrambler.unscramble.Given as goal

abbrev pub invariant-loop-i : goal.invariant-loop-i
invariant-loop-i l =
    let i : ℕ = l.i-iterator.count in
    let rest = l.i-iterator.iter.rest.now in
    record {
      size : l.i-iterator.iter.size ≡ 8;
      gives : (k : ℕ) → given l.keystream.register k ≡ keystream l.seed (k + 8 * i);
      left : 8 * i + length rest ≡ 8 * length l.psdu;
      valid : AllByRecursion Bit rest;
      parts : l.bits ≡ scrambled l.seed (take i l.psdu) ++ rest;
      bytes : AllByRecursion Byte (take i l.psdu);
    }
