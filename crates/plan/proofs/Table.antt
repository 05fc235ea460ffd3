-- The band table follows from the plans.
use Rattle.std.proofs.Common.{◌≡◌, ℕ, ◌+◌, ◌-◌, ◌%◌, ◌<◌, Bool, true, eqb, List, [], ◌∷◌, map, get_or, None, sum, refl, arith}
use Rattle.std.proofs.lemmas.Bool.{eqb-true, agree_below, agree_below_at}
use Rattle.std.proofs.lemmas.List.{get_or_past}
use Rattle.plan.specs.declared.band.Band.{Band}
use Rattle.plan.specs.declared.band.Band.TheVariants.{Mhz402, Mhz420, Mhz863, Mhz902, Mhz950, Mhz2360, Mhz2400}
use Rattle.plan.specs.Bands.{number_of, first, second, preamble, lower_rates, gmsk_rates, upper_rates, plan_of}
use Rattle.plan.specs.Table.{all_bands, Recurs, BandTable}
use Rattle.plan.specs.Lawful.{band_lawful}

over : (b : Band) (r : ℕ) → 3 < r → (plan_of b).rate r ≡ None
over Mhz402 r h = get_or_past lower_rates r None (omega arith)
over Mhz420 r h = get_or_past gmsk_rates r None (omega arith)
over Mhz863 r h = get_or_past lower_rates r None (omega arith)
over Mhz902 r h = get_or_past lower_rates r None (omega arith)
over Mhz950 r h = get_or_past lower_rates r None (omega arith)
over Mhz2360 r h = get_or_past upper_rates r None (omega arith)
over Mhz2400 r h = get_or_past upper_rates r None (omega arith)

abbrev recurs_at : List ℕ → List ℕ → ℕ → Bool
recurs_at places bits n = eqb (get_or bits (n + 6) 0) (sum (map (λ k. get_or bits (n + 6 - k) 0) places) % 2)

recurs : (places bits : List ℕ) → agree_below (recurs_at places bits) (λ _. true) 57 ≡ true → Recurs places bits
recurs places bits e n h = eqb-true _ _ (agree_below_at (recurs_at places bits) (λ _. true) 57 n e h)

even_recurs : agree_below (recurs_at (1 ∷ 6 ∷ []) (preamble first)) (λ _. true) 57 ≡ true
unfolding preamble
even_recurs = refl

odd_recurs : agree_below (recurs_at (1 ∷ 2 ∷ 5 ∷ 6 ∷ []) (preamble second)) (λ _. true) 57 ≡ true
unfolding preamble
odd_recurs = refl

numbers : (b : Band) → get_or all_bands (number_of b) Mhz402 ≡ b
numbers Mhz402 = refl
numbers Mhz420 = refl
numbers Mhz863 = refl
numbers Mhz902 = refl
numbers Mhz950 = refl
numbers Mhz2360 = refl
numbers Mhz2400 = refl

pub table : BandTable
table =
    record {
      numbers = numbers;
      last_channels = refl;
      start_symbols = refl;
      rates = refl;
      none_over_3 = over;
      even_recurs = recurs (1 ∷ 6 ∷ []) (preamble first) even_recurs;
      odd_recurs = recurs (1 ∷ 2 ∷ 5 ∷ 6 ∷ []) (preamble second) odd_recurs;
      lawful = band_lawful;
    }
