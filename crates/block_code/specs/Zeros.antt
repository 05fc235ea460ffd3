-- Zeros are bits.
use Rattle.std.specs.Prelude.{ℕ, zero, suc, replicate}
use Rattle.std.proofs.Common.{arith}
use Rattle.std.specs.List.{AllByRecursion}
use Rattle.bits.specs.Strings.{Bit}

pub bits_zeros : (n : ℕ) → AllByRecursion Bit (replicate n 0)
bits_zeros zero = tt
bits_zeros (suc n) = (omega arith, bits_zeros n)
