-- What holds of the bits of a number.
use Rattle.std.specs.Prelude.{◌≡◌, ℕ, zero, suc, ◌-◌, ◌/◌, ◌%◌, ◌^◌, ◌<◌, length, get_or, refl}
use Rattle.std.proofs.Common.{ap, ◌∙◌, arith}
use Rattle.std.specs.List.{AllByRecursion}
use Rattle.bits.specs.Strings.{Bit, bits_of}

pub length_bits : (n a : ℕ) → length (bits_of n a) ≡ n
length_bits zero a = refl
length_bits (suc n) a = ap suc (length_bits n a)

pub bits_bits : (n a : ℕ) → AllByRecursion Bit (bits_of n a)
bits_bits zero a = tt
bits_bits (suc n) a = (omega arith, bits_bits n a)

pub get_or-bits_of : (n r k : ℕ) → k < n → get_or (bits_of n r) k 0 ≡ r / 2 ^ (n - 1 - k) % 2
get_or-bits_of zero r k h = absurd (omega arith)
get_or-bits_of (suc n) r zero h = ap (λ m. r / 2 ^ m % 2) (omega arith)
get_or-bits_of (suc n) r (suc k) h = get_or-bits_of n r k (omega arith) ∙ ap (λ m. r / 2 ^ m % 2) (omega arith)
