-- Worked examples of the code 63/51.
use Rattle.std.specs.Prelude.{◌≡◌, [], ◌∷◌, ◌++◌, replicate}
use Rattle.block_code.specs.Codes.{shortened}
use Rattle.block_code.specs.Bch.{bch63, parity}

pub record Examples : Type 0 where
  -- a message whose only one is its last bit
  pub last_bit : parity (replicate 50 0 ++ 1 ∷ []) ≡ 0 ∷ 1 ∷ 0 ∷ 1 ∷ 0 ∷ 0 ∷ 1 ∷ 1 ∷ 1 ∷ 0 ∷ 0 ∷ 1 ∷ []
  -- shortened by 32: a header with only its last bit set, 000000000000001, and its check bits, 0011
  pub header : (shortened bch63 32).parity (replicate 14 0 ++ 1 ∷ 0 ∷ 0 ∷ 1 ∷ 1 ∷ [])
      ≡ 1 ∷ 0 ∷ 0 ∷ 0 ∷ 0 ∷ 0 ∷ 1 ∷ 1 ∷ 1 ∷ 1 ∷ 1 ∷ 1 ∷ []
