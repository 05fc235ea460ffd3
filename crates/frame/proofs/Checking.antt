-- The check register of the code.
use Rattle.std.proofs.Common.{◌≡◌, ℕ, ◌+◌, ◌*◌, ◌/◌, ◌%◌, ◌≤◌, List, [], ◌∷◌, reverse, fold, arith}
use Rattle.std.proofs.lemmas.Nat.{xor_lt}
use Rattle.bits.specs.Strings.{bits_of}
use Rattle.frame.specs.Numbers.{low_bits}
use Rattle.frame.specs.Narrowband.{shifted}

shifted_below : (r b : ℕ) → shifted r b ≤ 15
shifted_below r b = omega (arith, xor_lt 4 (2 * r % 16) (3 * ((b + r / 8) % 2)) (omega arith) (omega arith))

pub register_below : (r : ℕ) (xs : List ℕ) → r ≤ 15 → fold shifted r xs ≤ 15
register_below r [] l = l
register_below r (x ∷ xs) l = register_below (shifted r x) xs (shifted_below r x)

-- four bits, the highest first
pub four_bits : (n : ℕ) → bits_of 4 n ≡ reverse (low_bits 4 n)
four_bits n =
    let a : n / 8 % 2 ≡ n / 2 / 2 / 2 % 2 = omega arith in
    let b : n / 4 % 2 ≡ n / 2 / 2 % 2 = omega arith in
    let d : n / 1 % 2 ≡ n % 2 = omega arith in
    cc
