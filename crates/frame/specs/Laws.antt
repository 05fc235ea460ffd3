-- What the contracts' words amount to, over all forms, bits and bytes.
use Rattle.std.specs.Prelude.{◌≡◌, ℕ, ◌+◌, ◌-◌, ◌*◌, ◌%◌, ◌<◌, Bool, List, length, Result, slice_index}
use Rattle.std.specs.List.{AllByRecursion}
use Rattle.bits.specs.Strings.{Bits}
use Rattle.frame.specs.declared.fault.FormFault.{FormFault}
use Rattle.frame.specs.Numbers.{Byte}
use Rattle.frame.specs.Headers.{Fields, Form, count, header, InRange, Read}
use Rattle.frame.specs.Scrambler.{start, keystream, scrambled}

-- the bits of a header are read as one thing
pub record ReadOnce (f : Form) (legal : List Bool) (bits : List ℕ) : Type 0 where
  pub answer : Result Fields FormFault
  pub read : Read f legal bits answer
  pub only : (r : Result Fields FormFault) → Read f legal bits r → r ≡ answer

abbrev pub ReadingIsSingle : Form → Type 0
ReadingIsSingle f = (legal : List Bool) (bits : List ℕ) → Bits (count f) bits → ReadOnce f legal bits

-- different fields have different headers
abbrev pub HeadersAreApart : Form → Type 0
HeadersAreApart f = (x y : Fields) → InRange f x → InRange f y → header f x ≡ header f y → x ≡ y

-- x from x[−14] on: s k is x[k − 14]
pub record Recurs (seed : ℕ) (s : ℕ → ℕ) : Type 0 where
  pub begins : (k : ℕ) → k < 14 → s (13 - k) ≡ slice_index (start seed) k
  pub goes_on : (n : ℕ) → s (n + 14) ≡ (s (n + 12) + s (n + 2) + s (n + 1) + s n) % 2

-- the keystream satisfies the recurrence, and is the only sequence that does
abbrev pub KeystreamRecurs : Type 0
KeystreamRecurs =
    ((seed : ℕ) → (s : ℕ → ℕ) × Recurs seed s)
    × ((seed : ℕ) (s : ℕ → ℕ) → Recurs seed s → (n : ℕ) → keystream seed n ≡ s (n + 14))

-- Bytes are scrambled to eight bits each, different bytes to different bits, and all such bits are the scrambled bits of
-- some bytes.
abbrev pub ScramblingIsInvertible : Type 0
ScramblingIsInvertible =
    ((seed : ℕ) (xs : List ℕ) → Bits (8 * length xs) (scrambled seed xs))
    × ((seed : ℕ) (xs ys : List ℕ) → AllByRecursion Byte xs → AllByRecursion Byte ys → length xs ≡ length ys → scrambled seed xs ≡ scrambled seed ys → xs ≡ ys)
    × ((seed n : ℕ) (bits : List ℕ) → Bits (8 * n) bits → (xs : List ℕ) × (length xs ≡ n) × AllByRecursion Byte xs × (scrambled seed xs ≡ bits))
