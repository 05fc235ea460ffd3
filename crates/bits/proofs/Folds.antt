-- The fold that reads a number from its bits.
use Rattle.std.proofs.Common.{◌≡◌, ℕ, ◌+◌, ◌*◌, ◌%◌, ◌^◌, ◌<◌, ◌≤◌, List, [], ◌∷◌, length, fold, bit_or, refl, ap, ◌∙◌, arith, pow_pos, mul_assoc, mul_comm}
use Rattle.std.proofs.Math.Nat.{pow-suc, mul-le-mul_right, le-mul_of_pos_right}
use Rattle.std.specs.Int.Digits.{number_from_digits_after}
use Rattle.std.specs.List.{AllByRecursion}
use Rattle.std.proofs.lemmas.Nat.{or_shifted}
use Rattle.bits.specs.Strings.{Bit}

abbrev pub next : ℕ → ℕ → ℕ
next n b = bit_or ((n * 2) % 2 ^ 64) b

next_is : (n b : ℕ) → b < 2 → n * 2 < 2 ^ 64 → next n b ≡ n * 2 + b
next_is n b h k =
    let e : (n * 2) % 2 ^ 64 ≡ n * 2 ^ 1 = omega arith in
    ap (λ x. bit_or x b) e ∙ or_shifted n 1 b (omega arith) ∙ omega arith

pub read : (n : ℕ) (bs : List ℕ) → AllByRecursion Bit bs → (n + 1) * 2 ^ length bs ≤ 2 ^ 64 → fold next n bs ≡ number_from_digits_after 2 n bs
read n [] a h = refl
read n (b ∷ bs) a h =
    let P : ℕ = 2 ^ length bs in
    let room : (n * 2 + b + 1) * P ≤ (n + 1) * 2 * P = mul-le-mul_right P (omega arith) in
    let whole : (n + 1) * 2 * P ≤ 2 ^ 64 =
    omega (arith, mul_assoc (n + 1) 2 P, ap (λ x. (n + 1) * x) (mul_comm 2 P), ap (λ x. (n + 1) * x) (pow-suc 2 (length bs))) in
    let small : (n + 1) * 2 ≤ 2 ^ 64 = omega (arith, le-mul_of_pos_right ((n + 1) * 2) (pow_pos (length bs))) in
    ap (λ m. fold next m bs) (next_is n b a.0 (omega arith)) ∙ read (n * 2 + b) bs a.1 (omega arith)
