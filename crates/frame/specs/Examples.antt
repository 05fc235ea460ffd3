-- Worked examples.
use Rattle.std.specs.Prelude.{◌≡◌, [], ◌∷◌, ◌++◌, map, replicate}
use Rattle.std.specs.List.{range_with_len}
use Rattle.frame.specs.Narrowband.{hcs}
use Rattle.frame.specs.Scrambler.{keystream}

-- The HCS of fifteen zeros is 0000, and with only bit 14 set it is 0011. x[0] to x[7] are 00011100 for seed 0 and
-- 11100111 for seed 1.
abbrev pub Examples : Type 0
Examples =
    (hcs (replicate 15 0) ≡ 0 ∷ 0 ∷ 0 ∷ 0 ∷ [])
    × (hcs (replicate 14 0 ++ 1 ∷ []) ≡ 0 ∷ 0 ∷ 1 ∷ 1 ∷ [])
    × (map (keystream 0) (range_with_len 0 8) ≡ 0 ∷ 0 ∷ 0 ∷ 1 ∷ 1 ∷ 1 ∷ 0 ∷ 0 ∷ [])
    × (map (keystream 1) (range_with_len 0 8) ≡ 1 ∷ 1 ∷ 1 ∷ 0 ∷ 0 ∷ 1 ∷ 1 ∷ 1 ∷ [])
