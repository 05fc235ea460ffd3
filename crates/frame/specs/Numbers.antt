-- Numbers as bits, lowest first.
use Rattle.std.specs.Prelude.{ℕ, zero, suc, ◌+◌, ◌*◌, ◌/◌, ◌%◌, ◌<◌, List, [], ◌∷◌, ◌++◌}

-- the w lowest bits of a number, lowest first
abbrev pub low_bits : ℕ → ℕ → List ℕ
low_bits zero n = []
low_bits (suc w) n = n % 2 ∷ low_bits w (n / 2)

-- the number that bits make, lowest first
abbrev pub number_of : List ℕ → ℕ
number_of [] = 0
number_of (b ∷ bs) = b + 2 * number_of bs

-- a byte is a number below 256
abbrev pub Byte : ℕ → Type 0
Byte b = b < 256

-- the bits of bytes, each byte lowest bit first
abbrev pub byte_bits : List ℕ → List ℕ
byte_bits [] = []
byte_bits (x ∷ xs) = low_bits 8 x ++ byte_bits xs
