-- Bits as they were heard, each with the number of the symbol that carried it.
use Rattle.std.specs.Prelude.{◌≡◌, ℕ, ◌+◌, ◌/◌, ◌<◌, ◌≤◌, List, [], ◌∷◌, map, length, slice_index, slice_index_or}
use Rattle.mode.specs.declared.air_bit.AirBit.{AirBit}

-- the bits from place i of a part on, with w to a symbol
abbrev pub labelled : ℕ → ℕ → List ℕ → List AirBit
labelled w i [] = []
labelled w i (b ∷ bs) = record { bit = b; symbol = i / w } ∷ labelled w (i + 1) bs

abbrev pub bits_of : List AirBit → List ℕ
bits_of hs = map (λ h. h.bit) hs

abbrev pub symbols_of : List AirBit → List ℕ
symbols_of hs = map (λ h. h.symbol) hs

-- the lowest symbol that carried one of the bits
pub record Lowest (hs : List AirBit) (r : ℕ) : Type 0 where
  pub place : ℕ
  pub there : place < length hs
  pub is : slice_index_or (symbols_of hs) place 0 ≡ r
  pub least : (k : ℕ) → k < length hs → r ≤ slice_index (symbols_of hs) k
