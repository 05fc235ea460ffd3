use Rattle.std.proofs.Common.{◌≡◌, ℕ, ◌+◌, ◌*◌, take}
use Rattle.frame.specs.Registers.{given}
use Rattle.frame.specs.Scrambler.{keystream, scrambled}
use Rattle.frame.proofs.scrambler.scramble.Given as goal

abbrev pub invariant-loop-i : goal.invariant-loop-i
invariant-loop-i l =
    ((k : ℕ) → given l.keystream.register k ≡ keystream l.seed (k + 8 * l.i))
    × (take (8 * l.i) l.bits ≡ scrambled l.seed (take l.i l.psdu))
