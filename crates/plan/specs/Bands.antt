-- The plans of the seven bands.
use Rattle.std.specs.Prelude.{◌≡◌, ℕ, ◌<◌, List, [], ◌∷◌, ◌++◌, Some, None, Ok, Err, Option, Result, slice_index_or}
use Rattle.block_code.specs.Bch.{bch63}
use Rattle.bits.specs.Strings.{bits_of}
use Rattle.block_code.specs.Plain.{plain}
use Rattle.mapping.specs.Mappings.{dbpsk, dqpsk, d8psk, gmsk}
use Rattle.frame.specs.Narrowband.{narrowband}
use Rattle.mode.specs.declared.copies.Copies.TheVariants.{One, Two, Four}
use Rattle.mode.specs.Modes.{Mode}
use Rattle.mode.specs.Chains.{chained}
use Rattle.delivery.specs.declared.fault.Fault.{Fault}
use Rattle.delivery.specs.declared.fault.Fault.TheVariants.{Band as NoBand}
use Rattle.delivery.specs.Plans.{Plan}
use Rattle.plan.specs.declared.band.Band.{Band}
use Rattle.plan.specs.declared.band.Band.TheVariants.{Mhz402, Mhz420, Mhz863, Mhz902, Mhz950, Mhz2360, Mhz2400}

abbrev pub number_of : Band → ℕ
number_of Mhz402 = 0
number_of Mhz420 = 1
number_of Mhz863 = 2
number_of Mhz902 = 3
number_of Mhz950 = 4
number_of Mhz2360 = 5
number_of Mhz2400 = 6

-- the band of a number; over 6 there is none
abbrev pub Numbered : ℕ → Result Band Fault → Type 0
Numbered n (Ok b) = number_of b ≡ n
Numbered n (Err f) = (6 < n) × (f ≡ NoBand)

-- ---- preambles

-- the first 63 bits on even channels, the first 63 on odd ones, and the 27 that follow both; each is written as a numeral,
-- the first bit leftmost
abbrev pub first : ℕ
first = 0b010101100110111011010010011100010111100101000110000100000111111

abbrev pub second : ℕ
second = 0b011010001000010110010101001001111000001101110011000111010111111

abbrev pub extension : ℕ
extension = 0b010101010101101101101101101

-- the bits of a preamble that begins so
unfoldable pub preamble : ℕ → List ℕ
preamble sequence = bits_of 63 sequence ++ bits_of 27 extension

-- ---- plans

-- A plan with this last channel, header mode and start symbol, and with these modes of the rates 0 to 3. Rates over 3
-- have none.
abbrev pub planned : ℕ → Mode → ℕ → List (Option Mode) → Plan
planned last header start rates =
    record {
      last = last;
      header = header;
      form = narrowband;
      start = start;
      even = preamble first;
      odd = preamble second;
      rate = λ r. slice_index_or rates r None;
    }

-- phases, with two copies of a header's bits
abbrev pub lower_rates : List (Option Mode)
lower_rates =
    Some (chained bch63 Two dbpsk) ∷ Some (chained bch63 One dbpsk) ∷ Some (chained bch63 One dqpsk)
    ∷ Some (chained bch63 One d8psk) ∷ []

abbrev pub lower_plan : ℕ → Plan
lower_plan last = planned last (chained bch63 Two dbpsk) 4 lower_rates

-- GMSK: rate 2 has no parity, and rate 3 is reserved
abbrev pub gmsk_rates : List (Option Mode)
gmsk_rates =
    Some (chained bch63 Two gmsk) ∷ Some (chained bch63 One gmsk) ∷ Some (chained plain One gmsk) ∷ None ∷ []

abbrev pub gmsk_plan : ℕ → Plan
gmsk_plan last = planned last (chained bch63 Two gmsk) 0 gmsk_rates

-- phases, with four copies of a header's bits
abbrev pub upper_rates : List (Option Mode)
upper_rates =
    Some (chained bch63 Four dbpsk) ∷ Some (chained bch63 Two dbpsk) ∷ Some (chained bch63 One dbpsk)
    ∷ Some (chained bch63 One dqpsk) ∷ []

abbrev pub upper_plan : ℕ → Plan
upper_plan last = planned last (chained bch63 Four dbpsk) 4 upper_rates

-- the plan of each band, with its last channel
abbrev pub plan_of : Band → Plan
plan_of Mhz402 = lower_plan 9
plan_of Mhz420 = gmsk_plan 13
plan_of Mhz863 = lower_plan 11
plan_of Mhz902 = lower_plan 47
plan_of Mhz950 = lower_plan 11
plan_of Mhz2360 = upper_plan 37
plan_of Mhz2400 = upper_plan 78
