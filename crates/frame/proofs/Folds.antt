-- The fold that reads a number from its bits, the last of them first.
use Rattle.std.proofs.Common.{◌≡◌, ℕ, ◌*◌, ◌%◌, ◌^◌, ◌<◌, ◌≤◌, List, [], ◌∷◌, length, fold, reverse, bit_or, refl, ap, ◌∙◌, arith}
use Rattle.std.specs.List.{AllByRecursion}
use Rattle.std.proofs.lemmas.List.{reverse-append}
use Rattle.std.proofs.lemmas.List.Sums.{fold-append}
use Rattle.std.proofs.lemmas.Nat.{or_shifted}
use Rattle.bits.specs.Strings.{Bit}
use Rattle.frame.specs.Numbers.{number_of}
use Rattle.frame.specs.Numbering.{number_few}

-- what the code does with one more bit
abbrev pub taken : ℕ → ℕ → ℕ
taken n b = bit_or (n * 2 % 2 ^ 8) b

pub folded : (bs : List ℕ) → length bs ≤ 8 → AllByRecursion Bit bs → fold taken 0 (reverse bs) ≡ number_of bs
folded [] l h = refl
folded (b ∷ bs) l h =
    let n : ℕ = number_of bs in
    let m : n < 2 ^ 7 = number_few 7 bs (omega arith) h.1 in
    let e : n * 2 % 2 ^ 8 ≡ n * 2 ^ 1 = omega arith in
    ap (fold taken 0) (reverse-append (b ∷ []) bs)
    ∙ fold-append taken 0 (reverse bs) (b ∷ [])
    ∙ ap (λ m. taken m b) (folded bs (omega arith) h.1)
    ∙ ap (λ m. bit_or m b) e ∙ or_shifted n 1 b h.0 ∙ omega arith
