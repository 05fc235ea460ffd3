-- The least number that has a property.
use Rattle.std.proofs.Common.{◌≡◌, ℕ, zero, suc, ◌<◌, ◌⊎◌, inl, inr, arith}
use Rattle.std.proofs.lemmas.Bool.{cases_order, cases_eq}
use Rattle.mode.specs.Parts.{First}
use Rattle.mode.proofs.Strings.{Either}

pub first_one : (P : ℕ → Type 0) (m n i j : ℕ) → First P m i → First P n j → i ≡ j
first_one P m n i j a b = elim (cases_order i j) [
  | inl e ↦ e
  | inr (inl l) ↦ absurd (b.least i l a.has)
  | inr (inr l) ↦ absurd (a.least j l b.has)
]

pub first_or_none : (P : ℕ → Type 0) → ((i : ℕ) → Either (P i)) → (n : ℕ) → ((i : ℕ) × First P n i) ⊎ ((i : ℕ) → i < n → P i → ⊥)
first_or_none P d zero = inr (λ i l h. omega arith)
first_or_none P d (suc n) = go (first_or_none P d n) (d n)
  where
    go : ((i : ℕ) × First P n i) ⊎ ((i : ℕ) → i < n → P i → ⊥) → Either (P n) → ((i : ℕ) × First P (suc n) i) ⊎ ((i : ℕ) → i < suc n → P i → ⊥)
    go (inl f) e = inl (f.0, record { below = omega (arith, f.1.below); has = f.1.has; least = f.1.least })
    go (inr f) (inl h) = inl (n, record { below = omega arith; has = h; least = f })
    go (inr f) (inr h) = inr (λ i l k. elim (cases_eq i n) [ inl e ↦ h (rw e at k) | inr ne ↦ f i (omega arith) k ])
