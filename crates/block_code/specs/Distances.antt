-- The distance of two strings: laws that hold of any strings.
use Rattle.std.specs.Prelude.{◌≡◌, ℕ, ◌+◌, ◌≤◌, cond, List, [], ◌∷◌, ◌++◌, length, ◌==◌, ◌≢◌, refl}
use Rattle.std.proofs.Common.{ap, ap₂, sym, ◌∙◌, inl, inr, arith}
use Rattle.std.proofs.lemmas.Bool.{eqb-true, eq-eqb, ne_eqb, cases_Bool, cases_eq}
use Rattle.block_code.specs.Codes.{distance}

-- ---- one place

one : ℕ → ℕ → ℕ
one x y = cond (x == y) 0 1

one_same : (x y : ℕ) → x ≡ y → one x y ≡ 0
unfolding one
one_same x y e = ap (λ b. cond b 0 1) (eq-eqb x y e)

one_other : (x y : ℕ) → (x ≢ y) → one x y ≡ 1
unfolding one
one_other x y e = ap (λ b. cond b 0 1) (ne_eqb x y e)

one_via : (x y z : ℕ) → one x z ≤ one y x + one y z
one_via x y z =
    elim (cases_eq x z) [
      | inl e ↦ omega (arith, one_same x z e)
      | inr ne ↦ elim (cases_eq y x) [
        | inl e ↦ omega (arith, one_other x z ne, one_other y z (λ f. ne (sym e ∙ f)))
        | inr nf ↦ omega (arith, one_other x z ne, one_other y x nf)
      ]
    ]

-- ---- all places

pub distance_self : (w : List ℕ) → distance w w ≡ 0
unfolding one
distance_self [] = refl
distance_self (x ∷ w) = omega (arith, one_same x x refl, distance_self w)

pub distance_via : (x y z : List ℕ) → length y ≡ length x → length z ≡ length x → distance x z ≤ distance y x + distance y z
unfolding one
distance_via [] y z k l = omega arith
distance_via (x ∷ xs) [] z k l = absurd (omega arith)
distance_via (x ∷ xs) (y ∷ ys) [] k l = absurd (omega arith)
distance_via (x ∷ xs) (y ∷ ys) (z ∷ zs) k l = omega (arith, distance_via xs ys zs (omega arith) (omega arith), one_via x y z)

pub distance_comm : (x y : List ℕ) → length x ≡ length y → distance x y ≤ distance y x
distance_comm x y l = omega (arith, distance_via x y y (sym l) (sym l), distance_self y)

pub same_from_distance : (xs ys : List ℕ) → length xs ≡ length ys → distance xs ys ≡ 0 → xs ≡ ys
same_from_distance [] [] e d = refl
same_from_distance [] (y ∷ ys) e d = absurd (omega arith)
same_from_distance (x ∷ xs) [] e d = absurd (omega arith)
same_from_distance (x ∷ xs) (y ∷ ys) e d =
    elim (cases_Bool (x == y)) [
      | inl t ↦ ap₂ ◌∷◌ (eqb-true x y t) (same_from_distance xs ys (omega arith) (omega arith))
      | inr f ↦ let z : 1 + distance xs ys ≡ 0 = ap (λ b. cond b 0 1 + distance xs ys) (sym f) ∙ d in absurd (omega arith)
    ]

-- what stands before both counts for nothing
pub distance-front : (zs xs ys : List ℕ) → distance (zs ++ xs) (zs ++ ys) ≡ distance xs ys
unfolding one
distance-front [] xs ys = refl
distance-front (z ∷ zs) xs ys = omega (arith, one_same z z refl, distance-front zs xs ys)
