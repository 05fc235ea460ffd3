-- The BCH code 63/51, which corrects two wrong bits of a word.
use Rattle.std.specs.Prelude.{◌≡◌, ℕ, zero, suc, ◌*◌, ◌/◌, ◌%◌, ◌^◌, ◌<◌, List, [], ◌∷◌, ◌++◌, length, Ok, Err, Result, bit_xor}
use Rattle.bits.specs.declared.bad_call.BadCall.{BadCall}
use Rattle.bits.specs.Strings.{Bits, bits_of}
use Rattle.block_code.specs.Codes.{Code, word}

-- c where the bit is set, else 0
abbrev pub pick : ℕ → ℕ → ℕ
pick zero c = 0
pick (suc b) c = c

-- ---- polynomials modulo 2, as numbers: bit i is the coefficient of D^i

-- the sum of f over the powers that are set in a string: the bit before n others stands for the power n
abbrev pub sum_at : (ℕ → ℕ) → List ℕ → ℕ
sum_at f [] = 0
sum_at f (b ∷ w) = bit_xor (pick b (f (length w))) (sum_at f w)

-- g times the polynomial whose coefficients are the string, that of the highest power first
abbrev pub product : ℕ → List ℕ → ℕ
product g q = sum_at (λ i. g * 2 ^ i) q

-- ---- parity

-- the remainder r by the generator takes the next bit of the message: 1337 is the generator without D^12
unfoldable pub divided : ℕ → ℕ → ℕ
divided r b = bit_xor ((2 * r) % 4096) (pick (bit_xor (r / 2048 % 2) b) 1337)

abbrev pub remainder : ℕ → List ℕ → ℕ
remainder r [] = r
remainder r (b ∷ m) = remainder (divided r b) m

-- the remainder of D^12 times the message, from D^11 down
unfoldable pub parity : List ℕ → List ℕ
parity m = bits_of 12 (remainder 0 m)

abbrev pub bch63 : Code
bch63 = record { k = 51; p = 12; t = 2; parity = parity }

-- p is the remainder of D^12 times m by the polynomial g, from D^11 down
pub record Division (g : ℕ) (m p : List ℕ) : Type 0 where
  pub quotient : List ℕ
  pub bits : Bits (length m) quotient
  pub rest : ℕ
  pub whole : product 4096 m ≡ bit_xor (product g quotient) rest
  pub small : rest < 4096
  pub told : p ≡ bits_of 12 rest

-- ---- the two sums

-- D times x, reduced by 1 + D + D^6
unfoldable pub times : ℕ → ℕ
times x = bit_xor ((2 * x) % 64) (pick (x / 32 % 2) 3)

-- D^i, reduced by 1 + D + D^6
unfoldable pub power : ℕ → ℕ
power zero = 1
power (suc i) = times (power i)

abbrev pub cubed : ℕ → ℕ
cubed i = power ((3 * i) % 63)

-- the sum of the powers at i, and of those at 3i, over the set powers i
abbrev pub first : List ℕ → ℕ
first w = sum_at power w

abbrev pub third : List ℕ → ℕ
third w = sum_at cubed w

-- one place i has the sums s and t
abbrev pub Fits1 : ℕ → ℕ → ℕ → Type 0
Fits1 s t i = (power i ≡ s) × (cubed i ≡ t)

-- two places i and j have the sums s and t
abbrev pub Fits2 : ℕ → ℕ → ℕ → ℕ → Type 0
Fits2 s t i j = (bit_xor (power i) (power j) ≡ s) × (bit_xor (cubed i) (cubed j) ≡ t)

-- ---- what is proved of the code

-- the parity of a message is the remainder by g
abbrev pub Divides : ℕ → Type 0
Divides g = (m : List ℕ) → Bits 51 m → Division g m (parity m)

-- both sums of a word are zero
abbrev pub Vanish : Type 0
Vanish = (m : List ℕ) → Bits 51 m → (first (word bch63 m) ≡ 0) × (third (word bch63 m) ≡ 0)

-- and of no other 63 bits
abbrev pub Only : Type 0
Only = (m q : List ℕ) → Bits 51 m → Bits 12 q → first (m ++ q) ≡ 0 → third (m ++ q) ≡ 0 → m ++ q ≡ word bch63 m

-- what the call that tells the two sums answers
abbrev pub Sums : List ℕ → Result (ℕ × ℕ) BadCall → Type 0
Sums bits (Ok st) = Bits 63 bits × (st.0 ≡ first bits) × (st.1 ≡ third bits)
Sums bits (Err e) = Bits 63 bits → ⊥
