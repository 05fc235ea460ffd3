use Rattle.std.proofs.Common.{rules, tests, arith}
use Rattle.std.proofs.lemmas.Iterator.{first_from_Range}
use Rattle.block_code.specs.Bch.{Fits1}
use Rattle.block_code.proofs.bch63.single.Goals as goal

pub returns : goal.returns
returns c =
    let e = first_from_Range _ _ _ _ (Fits1 c.args.s c.args.t) (λ i. Fits1 c.args.s c.args.t i → ⊥) c.find.ensures.ran
    (λ x q k. grind (arith, tests)) (λ x q k. (search rules, grind (arith, tests))) in
    search (rules, e)
