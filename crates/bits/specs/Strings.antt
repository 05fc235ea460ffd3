-- Bit strings: lists of the numbers 0 and 1, the first bit first.
use Rattle.std.specs.Prelude.{◌≡◌, ℕ, zero, suc, ◌/◌, ◌%◌, ◌^◌, ◌<◌, List, [], ◌∷◌, length}
use Rattle.std.specs.List.{AllByRecursion}

-- a bit is the number 0 or 1
abbrev pub Bit : ℕ → Type 0
Bit b = b < 2

-- a string of n bits
pub record Bits (n : ℕ) (xs : List ℕ) : Type 0 where
  pub size : length xs ≡ n
  pub bits : AllByRecursion Bit xs

-- the low n bits of a number, the highest first
abbrev pub bits_of : ℕ → ℕ → List ℕ
bits_of zero r = []
bits_of (suc n) r = r / 2 ^ n % 2 ∷ bits_of n r
