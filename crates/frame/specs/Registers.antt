-- What the code keeps of the scrambler's sequence: the words of its inner functions' contracts.
use Rattle.std.specs.Prelude.{ℕ, zero, suc, ◌+◌, ◌*◌, ◌/◌, ◌%◌, ◌^◌, map}
use Rattle.std.specs.List.{range_with_len}
use Rattle.frame.specs.Numbers.{number_of}

-- the next value, out of a register that holds the fourteen values before it, the last in its lowest bit
abbrev pub tapped : ℕ → ℕ
tapped v = (v / 2 ^ 1 + v / 2 ^ 11 + v / 2 ^ 12 + v / 2 ^ 13) % 2

-- the register that holds it too
abbrev pub moved : ℕ → ℕ
moved v = (2 * v + tapped v) % 2 ^ 14

-- the values that a register gives, from the next one on
unfoldable pub given : ℕ → ℕ → ℕ
given v zero = tapped v
given v (suc k) = given (moved v) k

-- x[n] to x[n+w−1] as a number, x[n] its lowest bit
unfoldable pub mask : (ℕ → ℕ) → ℕ → ℕ → ℕ
mask x n w = number_of (map x (range_with_len n w))
