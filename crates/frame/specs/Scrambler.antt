-- The scrambler: a sequence x of bits, which a seed fixes, is added to the bits of the PSDU modulo 2.
use Rattle.std.specs.Prelude.{ℕ, zero, suc, ◌+◌, ◌%◌, cond, List, [], ◌∷◌, ◌==◌, slice_index}
use Rattle.frame.specs.Numbers.{byte_bits}

-- x[−1] to x[−14], in this order
abbrev pub start : ℕ → List ℕ
start seed =
    cond (seed == 0)
    (0 ∷ 0 ∷ 1 ∷ 0 ∷ 1 ∷ 1 ∷ 1 ∷ 1 ∷ 0 ∷ 0 ∷ 1 ∷ 1 ∷ 0 ∷ 1 ∷ [])
    (0 ∷ 0 ∷ 0 ∷ 0 ∷ 0 ∷ 0 ∷ 0 ∷ 1 ∷ 0 ∷ 0 ∷ 1 ∷ 1 ∷ 1 ∷ 1 ∷ [])

-- x[n−2] + x[n−12] + x[n−13] + x[n−14] modulo 2, out of the list of x[n−1], x[n−2] and so on
abbrev pub next : List ℕ → ℕ
next xs = (slice_index xs 1 + slice_index xs 11 + slice_index xs 12 + slice_index xs 13) % 2

-- the list of x[n−1], x[n−2] and so on down to x[−14]
unfoldable pub before : ℕ → ℕ → List ℕ
before seed zero = start seed
before seed (suc n) = next (before seed n) ∷ before seed n

-- x[n]
unfoldable pub keystream : ℕ → ℕ → ℕ
keystream seed n = next (before seed n)

-- each bit, of which the first has the number n, gets the sequence's bit of its number added modulo 2
abbrev pub masked : (ℕ → ℕ) → ℕ → List ℕ → List ℕ
masked x n [] = []
masked x n (b ∷ bs) = (b + x n) % 2 ∷ masked x (n + 1) bs

-- the scrambled bits of bytes
abbrev pub scrambled : ℕ → List ℕ → List ℕ
scrambled seed bytes = masked (keystream seed) 0 (byte_bits bytes)
