-- The four mappings are lawful.
use Rattle.std.specs.Prelude.{◌≡◌, ℕ, ◌<◌, List, [], ◌∷◌, slice_index, refl}
use Rattle.std.proofs.Common.{◌∙◌, ap, sym, arith, rules}
use Rattle.std.specs.List.{IsDistinct}
use Rattle.bits.specs.Strings.{Bits}
use Rattle.mapping.specs.Maps.{Lawful}
use Rattle.mapping.specs.Mappings.{dbpsk, dqpsk, d8psk, gmsk, dbpsk_steps, dqpsk_steps, d8psk_steps}
use Rattle.mapping.specs.Tables.{Table}
use Rattle.mapping.specs.TablesLemmas.{lawful}

pub dbpsk_table : Table 1 dbpsk_steps
unfolding IsDistinct
dbpsk_table = search rules

pub dqpsk_table : Table 2 dqpsk_steps
unfolding IsDistinct
dqpsk_table = search rules

pub d8psk_table : Table 3 d8psk_steps
unfolding IsDistinct
d8psk_table = search rules

pub dbpsk_lawful : Lawful dbpsk
dbpsk_lawful = lawful 1 dbpsk_steps dbpsk_table

pub dqpsk_lawful : Lawful dqpsk
dqpsk_lawful = lawful 2 dqpsk_steps dqpsk_table

pub d8psk_lawful : Lawful d8psk
d8psk_lawful = lawful 3 d8psk_steps d8psk_table

-- a string of one bit is that bit
pub one_bit : (bs : List ℕ) → Bits 1 bs → bs ≡ slice_index bs 0 ∷ []
one_bit [] b = absurd (omega (arith, b.size))
one_bit (x ∷ []) b = refl
one_bit (x ∷ y ∷ bs) b = absurd (omega (arith, b.size))

first_below : (bs : List ℕ) → Bits 1 bs → slice_index bs 0 < 2
first_below [] b = omega arith
first_below (x ∷ bs) b = b.bits.0

pub gmsk_lawful : Lawful gmsk
gmsk_lawful =
    record {
      some = omega arith;
      narrow = omega arith;
      several = omega arith;
      bytes = omega arith;
      below = λ s bs hs b. first_below bs b;
      apart = λ s bs cs hs b c e. one_bit bs b ∙ (ap (λ x. x ∷ []) e ∙ sym (one_bit cs c));
    }
