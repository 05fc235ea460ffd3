-- The narrowband header: 15 bits and a header check sequence (HCS) of 4 bits.
use Rattle.std.specs.Prelude.{ℕ, ◌+◌, ◌-◌, ◌*◌, ◌/◌, ◌%◌, List, [], ◌∷◌, ◌++◌, reverse, take, drop, fold, bit_xor, slice_index}
use Rattle.frame.specs.Numbers.{low_bits, number_of}
use Rattle.frame.specs.Headers.{Fields, Form}

-- The check register D³ D² D¹ D⁰ as a number, D³ the eights. A bit is added to D³ modulo 2, the register moves up one
-- place and loses D³, and a sum of 1 adds 0011.
abbrev pub shifted : ℕ → ℕ → ℕ
shifted register bit = bit_xor (2 * register % 16) (3 * ((bit + register / 8) % 2))

-- the register starts as 1111 and takes in bit after bit
abbrev pub register : List ℕ → ℕ
register bits = fold shifted 15 bits

-- the HCS is the register's complement, D³ first
unfoldable pub hcs : List ℕ → List ℕ
hcs bits = reverse (low_bits 4 (15 - register bits))

-- RATE in bits 0 to 2, LENGTH (the bytes past nine) in bits 4 to 11, the burst mark in bit 13 and the seed in bit 14
unfoldable pub said : Fields → List ℕ
said x = low_bits 3 x.rate ++ 0 ∷ low_bits 8 (x.bytes - 9) ++ 0 ∷ x.burst ∷ x.seed ∷ []

-- what stands in those places
unfoldable pub fields : List ℕ → Fields
fields bits =
    record {
      rate = number_of (take 3 bits);
      bytes = 9 + number_of (take 8 (drop 4 bits));
      burst = slice_index bits 13;
      seed = slice_index bits 14;
    }

abbrev pub narrowband : Form
narrowband =
    record {
      body = 15;
      checks = 4;
      seeds = 2;
      said = said;
      check = hcs;
      reserved = 3 ∷ 12 ∷ [];
      fields = fields;
    }
