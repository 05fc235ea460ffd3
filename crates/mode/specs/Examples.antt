-- Worked examples.
use Rattle.std.specs.Prelude.{◌≡◌, ℕ, [], ◌∷◌, ◌++◌, replicate}
use Rattle.mode.specs.Shares.{unsents}
use Rattle.mode.specs.Orders.{interleaved}
use Rattle.mode.specs.Modes.{Mode, pad, count}

pub record Examples : Type 0 where
  pub two : unsents 51 72 ≡ 15 ∷ 15 ∷ []
  pub three : unsents 51 104 ≡ 17 ∷ 16 ∷ 16 ∷ []
  pub most : unsents 51 2112 ≡ replicate 30 1 ++ replicate 12 0
  pub even : (a b c d : ℕ) → interleaved 2 2 (a ∷ b ∷ c ∷ d ∷ []) ≡ a ∷ c ∷ b ∷ d ∷ []
  pub odd : (a b c d e f : ℕ) → interleaved 2 3 (a ∷ b ∷ c ∷ d ∷ e ∷ f ∷ []) ≡ a ∷ c ∷ e ∷ b ∷ d ∷ f ∷ []
  pub padded :
      (m : Mode) → m.code.k ≡ 51 → m.code.p ≡ 12 → m.copies ≡ 1 → m.map.w ≡ 3
      → (pad m 80 ≡ 1) × (count m 80 ≡ 35)
