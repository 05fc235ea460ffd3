-- Copies of bits: how a bit is decided from what its copies were heard as, and when it is spoilt.
use Rattle.std.specs.Prelude.{ℕ, zero, suc, ◌+◌, ◌-◌, ◌*◌, cond, List, [], ◌∷◌, ◌++◌, length, take, drop, replicate, ◌==◌, nat_le, nat_lt, slice_index}

-- each bit s times in a row
abbrev pub spread : {A : Type 0} → ℕ → List A → List A
spread s [] = []
spread s (x ∷ xs) = replicate s x ++ spread s xs

-- how many of the copies differ from the bit
abbrev pub differing : ℕ → List ℕ → ℕ
differing b [] = 0
differing b (x ∷ xs) = cond (b == x) 0 1 + differing b xs

-- The bit that most of the copies say; a tie goes to the first copy.
abbrev pub majority : List ℕ → ℕ
majority xs = cond (nat_lt (length xs) (2 * differing (slice_index xs 0) xs)) (1 - slice_index xs 0) (slice_index xs 0)

-- the bits of which s copies each were heard, n bits from the front
abbrev pub decided : ℕ → ℕ → List ℕ → List ℕ
decided s zero xs = []
decided s (suc n) xs = majority (take s xs) ∷ decided s n (drop s xs)

-- Against a word, a bit is spoilt when half or more of its s copies differ from it: how many bits of the word are.
abbrev pub spoilt : ℕ → List ℕ → List ℕ → ℕ
spoilt s [] xs = 0
spoilt s (b ∷ bs) xs = cond (nat_le s (2 * differing b (take s xs))) 1 0 + spoilt s bs (drop s xs)
