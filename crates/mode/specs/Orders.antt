-- The order in which the copies of coded bits go out, and back: rules that say from which place each place is filled.
use Rattle.std.specs.Prelude.{◌≡◌, ℕ, ◌+◌, ◌-◌, ◌*◌, ◌/◌, ◌%◌, ◌^◌, ◌<◌, cond, List, [], ◌∷◌, map, length, Ok, Err, Result, ◌≢◌, nat_lt, slice_index_or}
use Rattle.std.specs.List.{range_with_len}
use Rattle.bits.specs.declared.bad_call.BadCall.{BadCall}

-- a block of d bits with s copies of each: place i takes place s · (i mod d) + i div d
unfoldable pub turned : ℕ → ℕ → ℕ → ℕ
turned d s i = s * (i % d) + i / d

-- the rule f in each block of b places
unfoldable pub blocked : ℕ → (ℕ → ℕ) → ℕ → ℕ
blocked b f i = b * (i / b) + f (i % b)

-- the rule f in the first h places, and the rule g after them
unfoldable pub headed : ℕ → (ℕ → ℕ) → (ℕ → ℕ) → ℕ → ℕ
headed h f g i = cond (nat_lt i h) (f i) (h + g (i - h))

-- how many places the first block has if the count t of bits is odd: three bits; none if it is even
unfoldable pub lead : ℕ → ℕ → ℕ
lead s t = 3 * s * (t % 2)

-- interleaving: the place that place i takes, for t bits with s copies of each
unfoldable pub forth : ℕ → ℕ → ℕ → ℕ
forth s t = headed (lead s t) (turned 3 s) (blocked (2 * s) (turned 2 s))

-- de-interleaving: the place that place i takes
unfoldable pub back : ℕ → ℕ → ℕ → ℕ
back s t = headed (lead s t) (turned s 3) (blocked (2 * s) (turned s 2))

-- the list that has at each place i what xs has at place f i
abbrev pub permuted : {A : Type 0} → (ℕ → ℕ) → List A → List A
permuted f [] = []
permuted f (x ∷ xs) = map (λ i. slice_index_or (x ∷ xs) (f i) x) (range_with_len 0 (length (x ∷ xs)))

unfoldable pub interleaved : {A : Type 0} → ℕ → ℕ → List A → List A
interleaved s t xs = permuted (forth s t) xs

unfoldable pub deinterleaved : {A : Type 0} → ℕ → ℕ → List A → List A
deinterleaved s t xs = permuted (back s t) xs

-- n places hold s copies of each of a number of bits, and not of one bit alone
pub record Copied (s n : ℕ) : Type 0 where
  pub several : 0 < s
  pub whole : n % s ≡ 0
  pub enough : n / s ≡ 1 → ⊥

-- what interleaving takes: copies, and as many places to write
abbrev pub Movable : {A : Type 0} → ℕ → List A → List A → Type 0
Movable s input before = Copied s (length input) × (length before ≡ length input)

-- Interleaving writes the input in its new order. Any other call is refused and writes nothing.
abbrev pub Interleaves : {A : Type 0} → ℕ → List A → List A → List A → Result (Unit {0}) BadCall → Type 0
Interleaves s input before after (Ok u) = Movable s input before × (after ≡ interleaved s (length input / s) input)
Interleaves s input before after (Err e) = (Movable s input before → ⊥) × (after ≡ before)

-- De-interleaving does the same with the order before.
abbrev pub Deinterleaves : {A : Type 0} → ℕ → List A → List A → List A → Result (Unit {0}) BadCall → Type 0
Deinterleaves s input before after (Ok u) = Movable s input before × (after ≡ deinterleaved s (length input / s) input)
Deinterleaves s input before after (Err e) = (Movable s input before → ⊥) × (after ≡ before)

-- each undoes the other, for every count of copies and of bits but one bit alone
abbrev pub Undoing : Type 0 → Type 0
Undoing A = (s t : ℕ) (xs : List A) → 0 < s → (t ≢ 1) → length xs ≡ s * t → (deinterleaved s t (interleaved s t xs) ≡ xs) × (interleaved s t (deinterleaved s t xs) ≡ xs)

-- place i of s copies of each of t bits, which can be counted in 64 bits
pub record Inside (s t i : ℕ) : Type 0 where
  pub several : 0 < s
  pub enough : t ≡ 1 → ⊥
  pub fits : s * t < 2 ^ 64
  pub below : i < s * t
