-- The four mappings.
use Rattle.std.specs.Prelude.{ℕ, ◌+◌, ◌%◌, List, [], ◌∷◌, slice_index}
use Rattle.std.specs.Int.Digits.{number_from_digits}
use Rattle.mapping.specs.Maps.{Map}

-- Phases are numbered 0 to 15, in steps of π/8. The bits, read as a number with the first bit the highest, pick a step
-- from the list, and it is added to the prior phase modulo 16.
abbrev pub phases : ℕ → List ℕ → Map
phases w steps = record { w = w; q = 16; next = λ prior bits. (prior + slice_index steps (number_from_digits 2 bits)) % 16 }

-- the steps of 0 and 1
abbrev pub dbpsk_steps : List ℕ
dbpsk_steps = 4 ∷ 12 ∷ []

-- the steps of 00, 01, 10 and 11
abbrev pub dqpsk_steps : List ℕ
dqpsk_steps = 2 ∷ 6 ∷ 14 ∷ 10 ∷ []

-- the steps of 000, 001 and on to 111
abbrev pub d8psk_steps : List ℕ
d8psk_steps = 1 ∷ 3 ∷ 7 ∷ 5 ∷ 15 ∷ 13 ∷ 9 ∷ 11 ∷ []

-- π/2-DBPSK
abbrev pub dbpsk : Map
dbpsk = phases 1 dbpsk_steps

-- π/4-DQPSK
abbrev pub dqpsk : Map
dqpsk = phases 2 dqpsk_steps

-- π/8-D8PSK
abbrev pub d8psk : Map
d8psk = phases 3 d8psk_steps

-- GMSK: the next symbol is the bit, whatever the prior one is
abbrev pub gmsk : Map
gmsk = record { w = 1; q = 2; next = λ prior bits. slice_index bits 0 }
