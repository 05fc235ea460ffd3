-- Strings of bits, and the numbers that they make.
use Rattle.std.specs.Prelude.{◌≡◌, ℕ, zero, suc, ◌+◌, ◌*◌, ◌/◌, ◌%◌, ◌^◌, ◌<◌, ◌≤◌, List, [], ◌∷◌, ◌++◌, length, take, drop, slice_index, refl}
use Rattle.std.proofs.Common.{sym, ap, ◌∙◌, mul_left_comm, arith, pow_mono}
use Rattle.std.proofs.Math.Nat.{pow-succ'}
use Rattle.std.specs.List.{AllByRecursion}
use Rattle.std.proofs.lemmas.List.{length-append, length-take-le, length-drop, take_more}
use Rattle.std.proofs.ByRecursion.{All-append, All-take, All-drop}
use Rattle.std.proofs.lemmas.Nat.{shr-shr}
use Rattle.bits.specs.Strings.{Bit, Bits}
use Rattle.frame.specs.Numbers.{low_bits, number_of}

pub cons_bits : (n x : ℕ) (xs : List ℕ) → x < 2 → Bits n xs → Bits (suc n) (x ∷ xs)
cons_bits n x xs l b = record { size = omega (arith, b.size); bits = (l, b.bits) }

pub append_bits : (i j : ℕ) (xs ys : List ℕ) → Bits i xs → Bits j ys → Bits (i + j) (xs ++ ys)
append_bits i j xs ys a b =
    let l = a.size in
    let k = b.size in
    record { size = simp length-append (omega arith); bits = All-append Bit xs ys a.bits b.bits }

pub take_bits : (w n : ℕ) (bs : List ℕ) → Bits (w + n) bs → Bits w (take w bs)
take_bits w n bs b =
    let l = b.size in record { size = length-take-le w bs (omega arith); bits = All-take Bit w bs b.bits }

pub drop_bits : (w n : ℕ) (bs : List ℕ) → Bits (w + n) bs → Bits n (drop w bs)
drop_bits w n bs b =
    let l = b.size in record { size = simp length-drop (omega arith); bits = All-drop Bit w bs b.bits }

pub resized : (m n : ℕ) (bs : List ℕ) → m ≡ n → Bits m bs → Bits n bs
resized m n bs e b = rw e at b

pub low_bits_bits : (w n : ℕ) → Bits w (low_bits w n)
low_bits_bits zero n = record { size = refl; bits = tt }
low_bits_bits (suc w) n = cons_bits w (n % 2) (low_bits w (n / 2)) (omega arith) (low_bits_bits w (n / 2))

pub number_low : (w n : ℕ) → n < 2 ^ w → number_of (low_bits w n) ≡ n
number_low zero n l = omega arith
number_low (suc w) n l = omega (arith, number_low w (n / 2) (omega arith))

pub number_below : (w : ℕ) (bs : List ℕ) → Bits w bs → number_of bs < 2 ^ w
number_below zero [] b = omega arith
number_below zero (x ∷ bs) b = absurd (omega (arith, b.size))
number_below (suc w) [] b = absurd (omega (arith, b.size))
number_below (suc w) (x ∷ bs) b =
    omega (arith, b.bits.0, number_below w bs (record { size = omega (arith, b.size); bits = b.bits.1 }))

-- at most w bits
pub number_few : (w : ℕ) (bs : List ℕ) → length bs ≤ w → AllByRecursion Bit bs → number_of bs < 2 ^ w
number_few w bs l h =
    let m : 2 ^ length bs ≤ 2 ^ w = pow_mono l in
    omega (arith, number_below (length bs) bs (record { size = refl; bits = h }))

pub low_number : (w : ℕ) (bs : List ℕ) → Bits w bs → low_bits w (number_of bs) ≡ bs
low_number zero [] b = refl
low_number zero (x ∷ bs) b = absurd (omega (arith, b.size))
low_number (suc w) [] b = absurd (omega (arith, b.size))
low_number (suc w) (x ∷ bs) b =
    let l : x < 2 = b.bits.0 in
    let h : (x + 2 * number_of bs) % 2 ≡ x = omega arith in
    let t : (x + 2 * number_of bs) / 2 ≡ number_of bs = omega arith in
    rw (h, t, low_number w bs (record { size = omega (arith, b.size); bits = b.bits.1 }))

pub number_push : (xs : List ℕ) (b : ℕ) → number_of (xs ++ b ∷ []) ≡ number_of xs + b * 2 ^ length xs
number_push [] b = omega arith
number_push (x ∷ xs) b =
    let p : b * 2 ^ suc (length xs) ≡ 2 * (b * 2 ^ length xs) = ap (λ m. b * m) (pow-succ' 2 (length xs)) ∙ mul_left_comm b 2 (2 ^ length xs) in
    omega (arith, number_push xs b)

pub number-take_more : (xs : List ℕ) (i : ℕ) → i < length xs → number_of (take (i + 1) xs) ≡ number_of (take i xs) + slice_index xs i * 2 ^ i
number-take_more xs i l =
    ap number_of (take_more xs i 0 l) ∙ number_push (take i xs) (slice_index xs i)
    ∙ ap (λ n. number_of (take i xs) + slice_index xs i * 2 ^ n) (length-take-le i xs (omega arith))

pub half_shr : (n k : ℕ) → n / 2 ^ suc k ≡ n / 2 / 2 ^ k
half_shr n k = ap (λ m. n / 2 ^ m) (omega arith) ∙ sym (shr-shr n 1 k)

-- bit k of a number, and of the number that bits make
pub get_or-low_bits : (w n k : ℕ) → k < w → slice_index (low_bits w n) k ≡ n / 2 ^ k % 2
get_or-low_bits zero n k l = absurd (omega arith)
get_or-low_bits (suc w) n zero l = omega arith
get_or-low_bits (suc w) n (suc k) l = get_or-low_bits w (n / 2) k (omega arith) ∙ ap (λ m. m % 2) (sym (half_shr n k))

pub bit_of_number : (bs : List ℕ) (k : ℕ) → AllByRecursion Bit bs → number_of bs / 2 ^ k % 2 ≡ slice_index bs k
bit_of_number [] k b = ap (λ m. m % 2) (zero-shr k)
  where
    zero-shr : (k : ℕ) → 0 / 2 ^ k ≡ 0
    zero-shr zero = omega arith
    zero-shr (suc k) = half_shr 0 k ∙ zero-shr k
bit_of_number (x ∷ bs) zero b = omega (arith, b.0)
bit_of_number (x ∷ bs) (suc k) b =
    let l : x < 2 = b.0 in
    let t : (x + 2 * number_of bs) / 2 ≡ number_of bs = omega arith in
    ap (λ m. m % 2) (half_shr (x + 2 * number_of bs) k ∙ ap (λ m. m / 2 ^ k) t) ∙ bit_of_number bs k b.1
