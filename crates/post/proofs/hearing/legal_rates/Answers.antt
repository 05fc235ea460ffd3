use Rattle.std.proofs.Common.{rules, ◌≡◌, Bool, false, List, [], ◌∷◌, length, get_or, is_some, refl, ◌∙◌, arith}
use Rattle.post.proofs.hearing.legal_rates.Goals as goal

four : (ys : List Bool) → length ys ≡ 4 → ys ≡ get_or ys 0 false ∷ get_or ys 1 false ∷ get_or ys 2 false ∷ get_or ys 3 false ∷ []
four [] e = absurd (omega arith)
four (a ∷ []) e = absurd (omega arith)
four (a ∷ b ∷ []) e = absurd (omega arith)
four (a ∷ b ∷ c ∷ []) e = absurd (omega arith)
four (a ∷ b ∷ c ∷ d ∷ []) e = refl
four (a ∷ b ∷ c ∷ d ∷ f ∷ ys) e = absurd (omega arith)

pub returns : goal.returns
returns g c =
    let P = g.P.RadioPlan.plan c.args.plan.now in
    let e0 : get_or c.map.result 0 false ≡ is_some (P.rate 0) = (let x = c.map.ensures.items.at 0 0 false (omega arith) in search rules) in
    let e1 : get_or c.map.result 1 false ≡ is_some (P.rate 1) = (let x = c.map.ensures.items.at 1 0 false (omega arith) in search rules) in
    let e2 : get_or c.map.result 2 false ≡ is_some (P.rate 2) = (let x = c.map.ensures.items.at 2 0 false (omega arith) in search rules) in
    let e3 : get_or c.map.result 3 false ≡ is_some (P.rate 3) = (let x = c.map.ensures.items.at 3 0 false (omega arith) in search rules) in
    four c.map.result c.map.ensures.items.long ∙ cc
