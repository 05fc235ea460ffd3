use Rattle.std.proofs.Common.{◌≡◌, ℕ, ◌+◌}
use Rattle.frame.specs.Registers.{given, mask}
use Rattle.frame.proofs.scrambler.Keystream.next_byte.Given as goal

abbrev pub invariant-loop-k : goal.invariant-loop-k
invariant-loop-k l =
    (l.byte ≡ mask (given l.initial.self.register) 0 l.k)
    × ((k : ℕ) → given l.self.register k ≡ given l.initial.self.register (k + l.k))
