-- Two words differ in five places at least.
use Rattle.std.specs.Prelude.{◌≡◌, ℕ, suc, ◌<◌, ◌≤◌, List, [], ◌∷◌, ◌++◌, length, take, replicate, bit_xor, slice_index, slice_set, refl}
use Rattle.std.proofs.Common.{ap, ap₂, sym, ◌∙◌, arith, length-append, inl, inr}
use Rattle.std.specs.Int.Bits.{xor_zero_r, xor_assoc, xor_self}
use Rattle.std.proofs.ByRecursion.{All-append, All-set}
use Rattle.std.proofs.lemmas.Bool.{cases_lt}
use Rattle.std.proofs.lemmas.List.{take_at}
use Rattle.std.specs.List.{AllByRecursion}
use Rattle.bits.specs.Strings.{Bit, Bits}
use Rattle.block_code.specs.Codes.{distance, word, Apart, MinimumDistance}
use Rattle.block_code.specs.Bch.{sum_at, parity, bch63, remainder, divided}
use Rattle.block_code.specs.Linear.{added, length-added, sum_added}
use Rattle.bits.specs.Numbers.{bits_bits}
use Rattle.block_code.specs.Words.{word-zero, length-parity, xor_same}
use Rattle.block_code.specs.Distances.{same_from_distance}
use Rattle.block_code.specs.Places.{places, total, sum-places, Falls, places_fall, length-places}
use Rattle.block_code.specs.Zeros.{bits_zeros}
use Rattle.block_code.specs.Pairs.{both, place, place-zero, place-suc, apart, apart_zero}

two : (p q : ℕ) → q < p → p < 63 → bit_xor (both p) (both q) ≡ bit_xor (place (suc p)) (place (suc q))
two p q h k = ap₂ bit_xor (sym (place-suc p k)) (sym (place-suc q (omega arith)))

one : (p : ℕ) → p < 63 → bit_xor (both p) 0 ≡ bit_xor (place (suc p)) (place 0)
one p k = ap₂ bit_xor (sym (place-suc p k)) (sym place-zero)

light : (ps : List ℕ) → Falls 63 ps → total both ps ≡ 0 → length ps ≤ 4 → length ps ≡ 0
light [] f e l = refl
light (p ∷ []) f e l = absurd (apart_zero (suc p) 0 (omega arith) (omega arith) (sym (one p f.0) ∙ e))
light (p ∷ q ∷ []) f e l =
    absurd (apart_zero (suc p) (suc q) (omega arith) (omega arith) (sym (two p q f.1.0 f.0) ∙ ap (bit_xor (both p)) (sym (xor_zero_r (both q))) ∙ e))
light (p ∷ q ∷ r ∷ []) f e l =
    let x : bit_xor (both p) (both q) ≡ bit_xor (both r) 0 = xor_same _ _ (xor_assoc (both p) (both q) (bit_xor (both r) 0) ∙ e) in
    let z = apart (suc p) (suc q) (suc r) 0 (omega arith) (omega arith) (omega arith) (omega arith)
    (sym (two p q f.1.0 f.0) ∙ x ∙ one r (omega arith)) in absurd (omega arith)
light (p ∷ q ∷ r ∷ s ∷ []) f e l =
    let x : bit_xor (both p) (both q) ≡ bit_xor (both r) (both s) =
    xor_same _ _ (xor_assoc (both p) (both q) (bit_xor (both r) (both s)) ∙ ap (λ y. bit_xor (both p) (bit_xor (both q) (bit_xor (both r) y))) (sym (xor_zero_r (both s))) ∙ e) in
    let z = apart (suc p) (suc q) (suc r) (suc s) (omega arith) (omega arith) (omega arith) (omega arith)
    (sym (two p q f.1.0 f.0) ∙ x ∙ two r s (omega arith) (omega arith)) in absurd (omega arith)
light (p ∷ q ∷ r ∷ s ∷ t ∷ ps) f e l = absurd (omega arith)

pub bits_parity : (m : List ℕ) → AllByRecursion Bit (parity m)
unfolding parity
bits_parity m = bits_bits 12 (remainder 0 m)

-- lists of bits with equal sums, apart in four places at most, are equal
pub near_same : (v w : List ℕ) → length v ≡ 63 → length w ≡ 63 → AllByRecursion Bit v → AllByRecursion Bit w → sum_at both v ≡ sum_at both w → distance v w ≤ 4 → v ≡ w
near_same v w l k h i e d =
    let s : length v ≡ length w = l ∙ sym k in
    let n : length (added v w) ≡ 63 = length-added v w s ∙ l in
    let c : length (places (added v w)) ≡ distance v w = length-places v w s h i in
    let f : Falls 63 (places (added v w)) = rw n at (places_fall (added v w)) in
    let z : total both (places (added v w)) ≡ 0 =
    sym (sum-places both (added v w)) ∙ sum_added both v w s h i ∙ ap (λ x. bit_xor x (sum_at both w)) e ∙ xor_self (sum_at both w) in
    same_from_distance v w s (sym c ∙ light (places (added v w)) f z (omega arith))

pub law : Apart bch63 5
law m n M N ne =
    elim (cases_lt 4 (distance (word bch63 m) (word bch63 n))) [
      | inl h ↦ omega arith
      | inr h ↦ absurd (ne (sym (take_at m (parity m) 51 M.size) ∙ ap (take 51)
          (near_same (m ++ parity m) (n ++ parity n) (len m M) (len n N)
          (All-append Bit m (parity m) M.bits (bits_parity m)) (All-append Bit n (parity n) N.bits (bits_parity n))
          (word-zero m M.size M.bits ∙ sym (word-zero n N.size N.bits)) h) ∙ take_at n (parity n) 51 N.size))
    ]
  where
    len : (x : List ℕ) → Bits 51 x → length (x ++ parity x) ≡ 63
    len x X = omega (arith, length-append x (parity x), length-parity x, X.size)

-- ---- and no more: two words differ in five

near_zeros : List ℕ
near_zeros = slice_set (slice_set (replicate 51 0) 5 1) 40 1

valid : Bits 51 near_zeros
unfolding near_zeros
valid = record { size = refl; bits = All-set Bit (slice_set (replicate 51 0) 5 1) 40 1 (omega arith) (All-set Bit (replicate 51 0) 5 1 (omega arith) (bits_zeros 51)) }

pub minimum : MinimumDistance bch63 5
unfolding near_zeros parity divided
minimum =
    record {
      apart = law;
      one = near_zeros;
      other = replicate 51 0;
      valid = (valid, record { size = refl; bits = bits_zeros 51 });
      differ = λ e. let z : 1 ≡ 0 = ap (λ xs. slice_index xs 5) e in omega arith;
      so_near = refl;
    }
