-- Plans: which modes a radio uses for what.
use Rattle.std.specs.Prelude.{◌≡◌, ℕ, ◌<◌, Bool, List, [], ◌∷◌, is_some, Some, Option}
use Rattle.bits.specs.Strings.{Bits}
use Rattle.frame.specs.Headers.{Form}
use Rattle.frame.specs.Headers as forms
use Rattle.mode.specs.Modes.{Mode, Carried}
use Rattle.mode.specs.Modes as modes

-- A plan: the last channel; the mode and the form of a header; the symbol before the first; the preambles of even and of
-- odd channels; and for each rate the mode of the payload, or None where the rate is reserved.
pub record Plan : Type 0 where
  pub last : ℕ
  pub header : Mode
  pub form : Form
  pub start : ℕ
  pub even : List ℕ
  pub odd : List ℕ
  pub rate : ℕ → Option Mode

-- what every plan keeps
pub record Lawful (P : Plan) : Type 0 where
  pub header : modes.Lawful P.header
  pub bit : P.header.map.w ≡ 1
  pub form : forms.Lawful P.form
  pub seeds : P.form.seeds ≡ 2
  pub size : Carried (forms.count P.form)
  pub start : P.start < P.header.map.q
  pub even : Bits 90 P.even
  pub odd : Bits 90 P.odd
  pub modes : (r : ℕ) (m : Mode) → P.rate r ≡ Some m → modes.Lawful m
  pub shared : (r : ℕ) (m : Mode) → P.rate r ≡ Some m → m.map.q ≡ P.header.map.q

-- for each of the rates 0 to 3, whether the plan has a mode
abbrev pub legal : Plan → List Bool
legal P = is_some (P.rate 0) ∷ is_some (P.rate 1) ∷ is_some (P.rate 2) ∷ is_some (P.rate 3) ∷ []
