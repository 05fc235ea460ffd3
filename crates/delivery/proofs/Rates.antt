-- The rates that a plan has, as its header form asks for them.
use Rattle.std.proofs.Common.{◌≡◌, ℕ, zero, suc, ◌≤◌, true, false, get_or, is_some, Some, None, Option, sym, refl, ap, ◌∙◌, arith}
use Rattle.std.proofs.lemmas.Bool.{false≢true}
use Rattle.frame.specs.Headers.{Carried}
use Rattle.mode.specs.Modes.{Mode}
use Rattle.delivery.specs.Plans.{Plan, legal}

-- the entry of a rate
entry : (P : Plan) (r : ℕ) → r ≤ 3 → get_or (legal P) r false ≡ is_some (P.rate r)
entry P zero l = refl
entry P (suc zero) l = refl
entry P (suc (suc zero)) l = refl
entry P (suc (suc (suc zero))) l = refl
entry P (suc (suc (suc (suc r)))) l = absurd (omega arith)

held : {A : Type 0} (o : Option A) → is_some o ≡ true → (a : A) × (o ≡ Some a)
held None e = absurd (false≢true e)
held (Some a) e = (a, refl)

pub carried-legal : (P : Plan) (r : ℕ) (m : Mode) → r ≤ 3 → P.rate r ≡ Some m → Carried (legal P) r
carried-legal P r m l e = (l, entry P r l ∙ ap is_some e)

pub legal-carried : (P : Plan) (r : ℕ) → Carried (legal P) r → (m : Mode) × (P.rate r ≡ Some m)
legal-carried P r c = held (P.rate r) (sym (entry P r c.0) ∙ c.1)
