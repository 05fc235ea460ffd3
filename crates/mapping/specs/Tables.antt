-- What is asked and said of a table of phase steps.
use Rattle.std.specs.Prelude.{◌≡◌, ℕ, ◌+◌, ◌%◌, ◌^◌, ◌<◌, ◌≤◌, List, length, ◌==◌, slice_index}
use Rattle.std.specs.List.{AllByRecursion, IsDistinct}

-- A table of steps for w bits: one for each number that the bits can write, all below 16, and no two alike.
pub record Table (w : ℕ) (steps : List ℕ) : Type 0 where
  pub some : 1 ≤ w
  pub narrow : w ≤ 3
  pub size : length steps ≡ 2 ^ w
  pub below : AllByRecursion (λ x. x < 16) steps
  pub distinct : IsDistinct (λ x y. x == y) steps

-- step i leads from one phase to the other
abbrev pub Leads : List ℕ → ℕ → ℕ → ℕ → Type 0
Leads steps prior next i = (prior + slice_index steps i) % 16 ≡ next

-- none of the first n steps does
abbrev pub NoneLeads : List ℕ → ℕ → ℕ → ℕ → Type 0
NoneLeads steps prior next n = (i : ℕ) → i < n → Leads steps prior next i → ⊥
