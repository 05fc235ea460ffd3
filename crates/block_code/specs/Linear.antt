-- Sums over the set places of a list of bits, and what is linear in them.
use Rattle.std.specs.Prelude.{◌≡◌, ℕ, zero, suc, ◌+◌, ◌/◌, ◌%◌, ◌^◌, ◌<◌, List, [], ◌∷◌, ◌++◌, length, bit_xor, refl}
use Rattle.std.proofs.Common.{ap, ap₂, sym, ◌∙◌, arith, length-append}
use Rattle.std.proofs.Math.Nat.{zero-div}
use Rattle.std.specs.Int.Bits.{xor_assoc, xor_self, xor_zero_r}
use Rattle.std.proofs.lemmas.Nat.{xor_comm, xor_shr, xor_mod}
use Rattle.std.specs.List.{AllByRecursion}
use Rattle.bits.specs.Strings.{Bit, bits_of}
use Rattle.bits.specs.Numbers.{length_bits, bits_bits}
use Rattle.block_code.specs.Bch.{pick, sum_at}

pub xor_left : (a b c : ℕ) → bit_xor a (bit_xor b c) ≡ bit_xor b (bit_xor a c)
xor_left a b c = sym (xor_assoc a b c) ∙ ap (λ x. bit_xor x c) (xor_comm a b) ∙ xor_assoc b a c

pub xor_swap : (a b c d : ℕ) → bit_xor (bit_xor a b) (bit_xor c d) ≡ bit_xor (bit_xor a c) (bit_xor b d)
xor_swap a b c d = simp (xor_assoc, xor_left)

pub record Linear (φ : ℕ → ℕ) : Type 0 where
  pub zeros : φ 0 ≡ 0
  pub adds : (a b : ℕ) → φ (bit_xor a b) ≡ bit_xor (φ a) (φ b)

pub pick-xor : (x y c : ℕ) → x < 2 → y < 2 → pick (bit_xor x y) c ≡ bit_xor (pick x c) (pick y c)
pick-xor zero y c h k = refl
pick-xor (suc zero) zero c h k = sym (xor_zero_r c)
pick-xor (suc zero) (suc zero) c h k = sym (xor_self c)
pick-xor (suc zero) (suc (suc y)) c h k = absurd (omega arith)
pick-xor (suc (suc x)) y c h k = absurd (omega arith)

pub pick-map : (φ : ℕ → ℕ) → φ 0 ≡ 0 → (x c : ℕ) → φ (pick x c) ≡ pick x (φ c)
pick-map φ z zero c = z
pick-map φ z (suc x) c = refl

-- the sum, place by place
abbrev pub added : List ℕ → List ℕ → List ℕ
added [] ys = []
added (x ∷ xs) [] = []
added (x ∷ xs) (y ∷ ys) = bit_xor x y ∷ added xs ys

pub length-added : (xs ys : List ℕ) → length xs ≡ length ys → length (added xs ys) ≡ length xs
length-added [] ys e = refl
length-added (x ∷ xs) [] e = absurd (omega arith)
length-added (x ∷ xs) (y ∷ ys) e = ap suc (length-added xs ys (omega arith))

module _ (f : ℕ → ℕ) where
  pub sum_added : (xs ys : List ℕ) → length xs ≡ length ys → AllByRecursion Bit xs → AllByRecursion Bit ys → sum_at f (added xs ys) ≡ bit_xor (sum_at f xs) (sum_at f ys)
  sum_added [] [] e h k = refl
  sum_added [] (y ∷ ys) e h k = absurd (omega arith)
  sum_added (x ∷ xs) [] e h k = absurd (omega arith)
  sum_added (x ∷ xs) (y ∷ ys) e h k =
      let l : length xs ≡ length ys = omega arith in
      let i : length (added xs ys) ≡ length xs = length-added xs ys l in
      ap₂ bit_xor (ap (λ n. pick (bit_xor x y) (f n)) i ∙ pick-xor x y (f (length xs)) h.0 k.0) (sum_added xs ys l h.1 k.1)
      ∙ xor_swap (pick x (f (length xs))) (pick y (f (length xs))) (sum_at f xs) (sum_at f ys)
      ∙ ap (λ n. bit_xor (bit_xor (pick x (f (length xs))) (sum_at f xs)) (bit_xor (pick y (f n)) (sum_at f ys))) l

  pub sum-map : (φ : ℕ → ℕ) → Linear φ → (xs : List ℕ) → φ (sum_at f xs) ≡ sum_at (λ i. φ (f i)) xs
  sum-map φ L [] = L.zeros
  sum-map φ L (x ∷ xs) =
      L.adds (pick x (f (length xs))) (sum_at f xs) ∙ ap₂ bit_xor (pick-map φ L.zeros x (f (length xs))) (sum-map φ L xs)

  -- only what f says below the length counts
  pub sum_same : (h : ℕ → ℕ) (xs : List ℕ) → ((i : ℕ) → i < length xs → f i ≡ h i) → sum_at f xs ≡ sum_at h xs
  sum_same h [] e = refl
  sum_same h (x ∷ xs) e = ap₂ bit_xor (ap (pick x) (e (length xs) (omega arith))) (sum_same h xs (λ i l. e i (omega arith)))

  pub sum-append : (xs ys : List ℕ) → sum_at f (xs ++ ys) ≡ bit_xor (sum_at (λ i. f (i + length ys)) xs) (sum_at f ys)
  sum-append [] ys = refl
  sum-append (x ∷ xs) ys =
      ap₂ bit_xor (ap (λ n. pick x (f n)) (length-append xs ys)) (sum-append xs ys)
      ∙ sym (xor_assoc (pick x (f (length xs + length ys))) (sum_at (λ i. f (i + length ys)) xs) (sum_at f ys))

-- ---- the bits of a number

pub bits_xor : (n a b : ℕ) → bits_of n (bit_xor a b) ≡ added (bits_of n a) (bits_of n b)
bits_xor zero a b = refl
bits_xor (suc n) a b =
    ap₂ ◌∷◌ (ap (λ x. x % 2) (xor_shr a b n) ∙ xor_mod (a / 2 ^ n) (b / 2 ^ n) 1) (bits_xor n a b)

-- the sum of f over the set bits of a number is linear in the number
unfoldable pub over : (ℕ → ℕ) → ℕ → ℕ → ℕ
over f n a = sum_at f (bits_of n a)

bits_zero : (f : ℕ → ℕ) (n : ℕ) → sum_at f (bits_of n 0) ≡ 0
bits_zero f zero = refl
bits_zero f (suc n) = ap₂ bit_xor (ap (λ x. pick (x % 2) (f (length (bits_of n 0)))) (zero-div (2 ^ n))) (bits_zero f n)

pub over_linear : (f : ℕ → ℕ) (n : ℕ) → Linear (over f n)
unfolding over
over_linear f n =
    record {
      zeros = bits_zero f n;
      adds = λ a b. ap (sum_at f) (bits_xor n a b)
          ∙ sum_added f (bits_of n a) (bits_of n b) (length_bits n a ∙ sym (length_bits n b)) (bits_bits n a) (bits_bits n b);
    }
