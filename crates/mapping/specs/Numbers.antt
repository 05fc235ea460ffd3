-- The numbers that bits write.
use Rattle.std.specs.Prelude.{◌≡◌, ℕ, zero, suc, ◌+◌, ◌*◌, ◌/◌, ◌%◌, ◌^◌, ◌<◌, List, [], ◌∷◌, length, refl}
use Rattle.std.proofs.Common.{sym, ap, ◌∙◌, arith, div-one}
use Rattle.std.proofs.Math.Nat.{div-eq_of_lt}
use Rattle.std.specs.List.{AllByRecursion}
use Rattle.std.specs.Int.Digits.{number_from_digits, number_from_digits_after}
use Rattle.std.proofs.lemmas.Nat.{shr-shr}
use Rattle.std.proofs.lemmas.Int.Digits.{number_lt}
use Rattle.bits.specs.Strings.{Bit, Bits, bits_of}

-- bits of one length that write one number are the same
same_after : (n m : ℕ) (xs ys : List ℕ) → AllByRecursion Bit xs → AllByRecursion Bit ys → length xs ≡ length ys → number_from_digits_after 2 n xs ≡ number_from_digits_after 2 m ys → (n ≡ m) × (xs ≡ ys)
same_after n m [] [] a b l e = (e, refl)
same_after n m [] (y ∷ ys) a b l e = absurd (omega arith)
same_after n m (x ∷ xs) [] a b l e = absurd (omega arith)
same_after n m (x ∷ xs) (y ∷ ys) a b l e =
    let r = same_after (n * 2 + x) (m * 2 + y) xs ys a.1 b.1 (omega arith) e in
    let q : n ≡ m = omega (arith, r.0, a.0, b.0) in let f : x ≡ y = omega (arith, r.0, a.0, b.0) in
    let g : xs ≡ ys = r.1 in (q, cc)

pub same_number : (w : ℕ) (xs ys : List ℕ) → Bits w xs → Bits w ys → number_from_digits 2 xs ≡ number_from_digits 2 ys → xs ≡ ys
same_number w xs ys a b e = (same_after 0 0 xs ys a.bits b.bits (a.size ∙ sym b.size) e).1

pub number_below : (w : ℕ) (bs : List ℕ) → Bits w bs → number_from_digits 2 bs < 2 ^ w
number_below w bs b = rw (sym b.size) (number_lt 2 bs b.bits)

-- half of n, and the lowest bit again
halves : (n k : ℕ) → n / 2 ^ suc k * 2 + n / 2 ^ k % 2 ≡ n / 2 ^ k
halves n k =
    let e : n / 2 ^ k / 2 ^ 1 ≡ n / 2 ^ (k + 1) = shr-shr n k 1 in
    let s : suc k ≡ k + 1 = omega arith in rw s (omega arith)

-- after the bits above them, the low w bits of a number give it back
number_after : (w n : ℕ) → number_from_digits_after 2 (n / 2 ^ w) (bits_of w n) ≡ n
number_after zero n = div-one n
number_after (suc w) n = ap (λ m. number_from_digits_after 2 m (bits_of w n)) (halves n w) ∙ number_after w n

pub number_of_bits : (w n : ℕ) → n < 2 ^ w → number_from_digits 2 (bits_of w n) ≡ n
number_of_bits w n h = ap (λ m. number_from_digits_after 2 m (bits_of w n)) (sym (div-eq_of_lt h)) ∙ number_after w n
