-- The plan of every band is lawful.
use Rattle.std.specs.Prelude.{◌≡◌, ℕ, zero, suc, ◌<◌, List, [], ◌∷◌, Some, None, Option, slice_index_or, refl}
use Rattle.std.proofs.Common.{subst, ◌∙◌, arith}
use Rattle.std.specs.List.{AllByRecursion}
use Rattle.std.proofs.ByRecursion.{All-append}
use Rattle.std.proofs.lemmas.List.{length-append}
use Rattle.bits.specs.Strings.{Bit, Bits, bits_of}
use Rattle.block_code.specs.Codes.{Code}
use Rattle.block_code.specs.Codes as codes
use Rattle.block_code.specs.Bch.{bch63}
use Rattle.block_code.specs.Plain.{plain}
use Rattle.bits.specs.Numbers.{length_bits, bits_bits}
use Rattle.block_code.specs.Words.{length-parity}
use Rattle.block_code.specs.Distance.{law, bits_parity}
use Rattle.block_code.specs.Unprotected as plains
use Rattle.mapping.specs.Maps.{Map}
use Rattle.mapping.specs.Maps as maps
use Rattle.mapping.specs.Mappings.{dbpsk, dqpsk, d8psk, gmsk}
use Rattle.mapping.specs.Lawful.{dbpsk_lawful, dqpsk_lawful, d8psk_lawful, gmsk_lawful}
use Rattle.frame.specs.Written.{narrowband_lawful}
use Rattle.mode.specs.declared.copies.Copies.{Copies}
use Rattle.mode.specs.declared.copies.Copies.TheVariants.{One, Two, Four}
use Rattle.mode.specs.Modes.{Mode}
use Rattle.mode.specs.Modes as modes
use Rattle.mode.specs.Chains.{chained}
use Rattle.mode.proofs.Room.{chain_lawful}
use Rattle.delivery.specs.Plans.{Lawful}
use Rattle.plan.specs.declared.band.Band.{Band}
use Rattle.plan.specs.declared.band.Band.TheVariants.{Mhz402, Mhz420, Mhz863, Mhz902, Mhz950, Mhz2360, Mhz2400}
use Rattle.plan.specs.Bands.{first, second, extension, preamble, planned, lower_rates, lower_plan, gmsk_rates, gmsk_plan, upper_rates, upper_plan, plan_of}

preamble_bits : (n : ℕ) → Bits 90 (preamble n)
unfolding preamble
preamble_bits n =
    record {
      size = length-append (bits_of 63 n) (bits_of 27 extension) ∙ omega (arith, length_bits 63 n, length_bits 27 extension);
      bits = All-append Bit (bits_of 63 n) (bits_of 27 extension) (bits_bits 63 n) (bits_bits 27 extension);
    }

-- ---- modes

-- a rate's mode is lawful and has q symbols, or the rate is reserved
abbrev Sound : ℕ → Option Mode → Type 0
Sound q None = Unit {0}
Sound q (Some m) = modes.Lawful m × (m.map.q ≡ q)

sound_at : (q : ℕ) (ms : List (Option Mode)) → AllByRecursion (Sound q) ms → (r : ℕ) → Sound q (slice_index_or ms r None)
sound_at q [] h r = tt
sound_at q (m ∷ ms) h zero = h.0
sound_at q (m ∷ ms) h (suc r) = sound_at q ms h.1 r

bch63_lawful : codes.Lawful bch63
bch63_lawful =
    record {
      some = omega arith;
      few = omega arith;
      short = omega arith;
      checks = λ m M. record { size = length-parity m; bits = bits_parity m };
      apart = law;
    }

bch : (s : Copies) (f : Map) → maps.Lawful f → modes.Lawful (chained bch63 s f)
bch s f = chain_lawful bch63 s f bch63_lawful (omega arith)

-- ---- plans

planned_lawful :
    (last : ℕ) (header : Mode) (start : ℕ) (rates : List (Option Mode)) → modes.Lawful header → header.map.w ≡ 1
    → start < header.map.q → AllByRecursion (Sound header.map.q) rates → Lawful (planned last header start rates)
planned_lawful last header start rates h w s all =
    record {
      header = h;
      bit = w;
      form = narrowband_lawful;
      seeds = refl;
      size = record { low = omega arith; high = omega arith };
      start = s;
      even = preamble_bits first;
      odd = preamble_bits second;
      modes = λ r m e. (sound r m e).0;
      shared = λ r m e. (sound r m e).1;
    }
  where
    sound : (r : ℕ) (m : Mode) → slice_index_or rates r None ≡ Some m → Sound header.map.q (Some m)
    sound r m e = subst (Sound header.map.q) e (sound_at header.map.q rates all r)

lower_lawful : (last : ℕ) → Lawful (lower_plan last)
lower_lawful last =
    planned_lawful last (chained bch63 Two dbpsk) 4 lower_rates (bch Two dbpsk dbpsk_lawful) refl (omega arith)
    ((bch Two dbpsk dbpsk_lawful, refl), ((bch One dbpsk dbpsk_lawful, refl), ((bch One dqpsk dqpsk_lawful, refl), ((bch One d8psk d8psk_lawful, refl), tt))))

gmsk_plan_lawful : (last : ℕ) → Lawful (gmsk_plan last)
gmsk_plan_lawful last =
    planned_lawful last (chained bch63 Two gmsk) 0 gmsk_rates (bch Two gmsk gmsk_lawful) refl (omega arith)
    ((bch Two gmsk gmsk_lawful, refl), ((bch One gmsk gmsk_lawful, refl), ((chain_lawful plain One gmsk plains.lawful (omega arith) gmsk_lawful, refl), (tt, tt))))

upper_lawful : (last : ℕ) → Lawful (upper_plan last)
upper_lawful last =
    planned_lawful last (chained bch63 Four dbpsk) 4 upper_rates (bch Four dbpsk dbpsk_lawful) refl (omega arith)
    ((bch Four dbpsk dbpsk_lawful, refl), ((bch Two dbpsk dbpsk_lawful, refl), ((bch One dbpsk dbpsk_lawful, refl), ((bch One dqpsk dqpsk_lawful, refl), tt))))

pub band_lawful : (b : Band) → Lawful (plan_of b)
band_lawful Mhz402 = lower_lawful 9
band_lawful Mhz420 = gmsk_plan_lawful 13
band_lawful Mhz863 = lower_lawful 11
band_lawful Mhz902 = lower_lawful 47
band_lawful Mhz950 = lower_lawful 11
band_lawful Mhz2360 = upper_lawful 37
band_lawful Mhz2400 = upper_lawful 78
