-- Tables of phase steps, and the law of the mapping that they give.
use Rattle.std.specs.Prelude.{◌≡◌, ℕ, ◌<◌, List, length, ◌==◌, ◌≢◌, slice_index}
use Rattle.std.proofs.Common.{arith, inl, inr, sym}
use Rattle.std.specs.List.{IsDistinct}
use Rattle.std.specs.Int.Digits.{number_from_digits}
use Rattle.std.proofs.ByRecursion.{All-get_or}
use Rattle.std.proofs.lemmas.Bool.{cases_order, eqb-false}
use Rattle.std.proofs.lemmas.Map.Keys.{apart_from_distinct}
use Rattle.bits.specs.Strings.{Bits}
use Rattle.mapping.specs.Maps.{Lawful}
use Rattle.mapping.specs.Mappings.{phases}
use Rattle.mapping.specs.Tables.{Table, Leads, NoneLeads}
use Rattle.mapping.specs.Numbers.{same_number, number_below}

-- distinct numbers, at two places and at one
differs : (xs : List ℕ) (i j : ℕ) → IsDistinct (λ x y. x == y) xs → i < j → j < length xs → slice_index xs i ≢ slice_index xs j
differs xs i j d h l = eqb-false (slice_index xs i) (slice_index xs j) (apart_from_distinct (λ x y. x == y) xs i j 0 d h l)

same_place : (xs : List ℕ) (i j : ℕ) → IsDistinct (λ x y. x == y) xs → i < length xs → j < length xs → slice_index xs i ≡ slice_index xs j → i ≡ j
same_place xs i j d hi hj e =
    elim (cases_order i j) [
      | inl h ↦ h
      | inr (inl h) ↦ absurd (differs xs i j d h hj e)
      | inr (inr h) ↦ absurd (differs xs j i d h hi (sym e))
    ]

-- the number of w bits picks one of the steps
pub number_in : (w : ℕ) (steps bs : List ℕ) → Table w steps → Bits w bs → number_from_digits 2 bs < length steps
number_in w steps bs t b = omega (arith, number_below w bs b, t.size)

step_below : (w i : ℕ) (steps : List ℕ) → Table w steps → i < length steps → slice_index steps i < 16
step_below w i steps t h = All-get_or (λ x. x < 16) steps i 0 h t.below

pub lawful : (w : ℕ) (steps : List ℕ) → Table w steps → Lawful (phases w steps)
lawful w steps t =
    record {
      some = t.some;
      narrow = t.narrow;
      several = omega arith;
      bytes = omega arith;
      below = λ s bs hs b. omega arith;
      apart = λ s bs cs hs b c e.
          let i = number_in w steps bs t b in let j = number_in w steps cs t c in
          let x = step_below w (number_from_digits 2 bs) steps t i in
          let y = step_below w (number_from_digits 2 cs) steps t j in
          same_number w bs cs b c (same_place steps (number_from_digits 2 bs) (number_from_digits 2 cs) t.distinct i j (omega (arith, x, y)));
    }

-- where no step of the table leads to the phase, no bits do
pub none_leads : (w : ℕ) (steps : List ℕ) (prior next : ℕ) → Table w steps → NoneLeads steps prior next (length steps) → (bs : List ℕ) → Bits w bs → Leads steps prior next (number_from_digits 2 bs) → ⊥
none_leads w steps prior next t no' bs b e = no' (number_from_digits 2 bs) (number_in w steps bs t b) e
