-- The band table, read off the plans.
use Rattle.std.specs.Prelude.{◌≡◌, ℕ, ◌+◌, ◌-◌, ◌%◌, ◌<◌, Bool, true, false, List, [], ◌∷◌, map, None, sum, slice_index, slice_index_or}
use Rattle.delivery.specs.Plans.{Lawful, legal}
use Rattle.plan.specs.declared.band.Band.{Band}
use Rattle.plan.specs.declared.band.Band.TheVariants.{Mhz402, Mhz420, Mhz863, Mhz902, Mhz950, Mhz2360, Mhz2400}
use Rattle.plan.specs.Bands.{number_of, first, second, preamble, plan_of}

-- the bands in the order of their numbers
abbrev pub all_bands : List Band
all_bands = Mhz402 ∷ Mhz420 ∷ Mhz863 ∷ Mhz902 ∷ Mhz950 ∷ Mhz2360 ∷ Mhz2400 ∷ []

-- of the rates 0 to 3: all have a mode, or rate 3 has none
abbrev pub every_rate : List Bool
every_rate = true ∷ true ∷ true ∷ true ∷ []

abbrev pub not_3 : List Bool
not_3 = true ∷ true ∷ true ∷ false ∷ []

-- in the first 63 bits, from the seventh on, each is the sum modulo 2 of the bits that stand so many places before it
abbrev pub Recurs : List ℕ → List ℕ → Type 0
Recurs places bits =
    (n : ℕ) → n < 57 → slice_index bits (n + 6) ≡ sum (map (λ k. slice_index bits (n + 6 - k)) places) % 2

pub record BandTable : Type 0 where
  pub numbers : (b : Band) → slice_index_or all_bands (number_of b) Mhz402 ≡ b
  pub last_channels : map (λ b. (plan_of b).last) all_bands ≡ 9 ∷ 13 ∷ 11 ∷ 47 ∷ 11 ∷ 37 ∷ 78 ∷ []
  pub start_symbols : map (λ b. (plan_of b).start) all_bands ≡ 4 ∷ 0 ∷ 4 ∷ 4 ∷ 4 ∷ 4 ∷ 4 ∷ []
  pub rates : map (λ b. legal (plan_of b)) all_bands ≡ every_rate ∷ not_3 ∷ every_rate ∷ every_rate ∷ every_rate ∷ every_rate ∷ every_rate ∷ []
  pub none_over_3 : (b : Band) (r : ℕ) → 3 < r → (plan_of b).rate r ≡ None
  pub even_recurs : Recurs (1 ∷ 6 ∷ []) (preamble first)
  pub odd_recurs : Recurs (1 ∷ 2 ∷ 5 ∷ 6 ∷ []) (preamble second)
  pub lawful : (b : Band) → Lawful (plan_of b)
