use Rattle.std.proofs.Common.{ℕ, ◌<◌, ◌≤◌, None, rules, tests, arith, inl, inr}
use Rattle.std.proofs.lemmas.Bool.{cases_eq}
use Rattle.std.proofs.lemmas.Iterator.{first_from_Range}
use Rattle.block_code.specs.Bch.{Fits2}
use Rattle.block_code.proofs.bch63.double.Goals as goal

pub loop-i-preserved : goal.loop-i-preserved
loop-i-preserved c k m l n f =
    let i : ℕ = c.loop-i.i in
    let Fits : ℕ → Type 0 = Fits2 c.args.s c.args.t i in
    let none : (j : ℕ) → _ ≤ j → j < _ → Fits j → ⊥ =
    first_from_Range _ _ _ None Fits (λ j. Fits j → ⊥) c.in_default.ensures.ran
    (λ x q k. grind (arith, tests)) (λ x q k. (search rules, grind (arith, tests))) in
    elim (cases_eq k i) [ inl e ↦ none m (omega arith) (omega arith) (rw e at f) | inr ne ↦ c.loop-i.invariant k m (omega arith) n f ]
