-- The set places of a list of bits, and where two lists differ.
use Rattle.std.specs.Prelude.{◌≡◌, ℕ, zero, suc, ◌<◌, List, [], ◌∷◌, length, bit_xor, refl}
use Rattle.std.proofs.Common.{ap, ◌∙◌, arith}
use Rattle.std.specs.List.{AllByRecursion}
use Rattle.bits.specs.Strings.{Bit}
use Rattle.block_code.specs.Codes.{distance}
use Rattle.block_code.specs.Bch.{sum_at}
use Rattle.block_code.specs.Linear.{added}

abbrev pub with : ℕ → ℕ → List ℕ → List ℕ
with zero n ps = ps
with (suc b) n ps = n ∷ ps

-- the powers that are set, the highest first
abbrev pub places : List ℕ → List ℕ
places [] = []
places (b ∷ w) = with b (length w) (places w)

abbrev pub total : (ℕ → ℕ) → List ℕ → ℕ
total f [] = 0
total f (p ∷ ps) = bit_xor (f p) (total f ps)

pub sum-places : (f : ℕ → ℕ) (w : List ℕ) → sum_at f w ≡ total f (places w)
sum-places f [] = refl
sum-places f (zero ∷ w) = sum-places f w
sum-places f (suc b ∷ w) = ap (bit_xor (f (length w))) (sum-places f w)

-- each below the one before, and the first below n
abbrev pub Falls : ℕ → List ℕ → Type 0
Falls n [] = Unit {0}
Falls n (p ∷ ps) = (p < n) × Falls p ps

falls_more : (n : ℕ) (ps : List ℕ) → Falls n ps → Falls (suc n) ps
falls_more n [] h = tt
falls_more n (p ∷ ps) h = (omega arith, h.1)

pub places_fall : (w : List ℕ) → Falls (length w) (places w)
places_fall [] = tt
places_fall (zero ∷ w) = falls_more (length w) (places w) (places_fall w)
places_fall (suc b ∷ w) = (omega arith, places_fall w)

pub length-places : (xs ys : List ℕ) → length xs ≡ length ys → AllByRecursion Bit xs → AllByRecursion Bit ys → length (places (added xs ys)) ≡ distance xs ys
length-places [] ys e h k = refl
length-places (x ∷ xs) [] e h k = absurd (omega arith)
length-places (zero ∷ xs) (zero ∷ ys) e h k = length-places xs ys (omega arith) h.1 k.1 ∙ omega arith
length-places (zero ∷ xs) (suc zero ∷ ys) e h k = omega (arith, length-places xs ys (omega arith) h.1 k.1)
length-places (suc zero ∷ xs) (zero ∷ ys) e h k = omega (arith, length-places xs ys (omega arith) h.1 k.1)
length-places (suc zero ∷ xs) (suc zero ∷ ys) e h k = length-places xs ys (omega arith) h.1 k.1 ∙ omega arith
length-places (zero ∷ xs) (suc (suc y) ∷ ys) e h k = absurd (omega arith)
length-places (suc zero ∷ xs) (suc (suc y) ∷ ys) e h k = absurd (omega arith)
length-places (suc (suc x) ∷ xs) (y ∷ ys) e h k = absurd (omega arith)
