-- Worked examples of the phase mappings.
use Rattle.std.specs.Prelude.{◌≡◌, [], ◌∷◌}
use Rattle.mapping.specs.Mappings.{dbpsk, dqpsk, d8psk}

-- From phase 4, DBPSK with 0 then 1 gives 8 and 4, and DQPSK with 10 gives 2. From 2, D8PSK with 110 gives 11.
abbrev pub Examples : Type 0
Examples =
    (dbpsk.next 4 (0 ∷ []) ≡ 8) × (dbpsk.next 8 (1 ∷ []) ≡ 4) × (dqpsk.next 4 (1 ∷ 0 ∷ []) ≡ 2)
    × (d8psk.next 2 (1 ∷ 1 ∷ 0 ∷ []) ≡ 11)
