use Rattle.std.proofs.Common.{◌≡◌, ℕ, List, None, Option, get_or, map, sym, ap, ◌∙◌, ⊎_elim, arith, rules}
use Rattle.std.proofs.Math.ListN.{get_or-map}
use Rattle.std.specs.Option.{option_map}
use Rattle.mode.specs.Modes.{Mode}
use Rattle.plan.specs.declared.band.Band.{Band}
use Rattle.plan.specs.Bands.{plan_of, lower_rates, gmsk_rates, upper_rates}
use Rattle.plan.proofs.bands.BandRadioPlan.payload.Goals as goal
use Rattle.plan.proofs.bands.BandRadioPlan.payload.Goals.{in-Mhz420, in-Mhz2360, in-Mhz402}

-- the mode of the carrier at place i, where these are the modes of all
picked : {A : Type 0} (f : A → Mode) (carriers : List (Option A)) (modes : List (Option Mode)) (i r : ℕ) (o : Option A) → o ≡ get_or carriers i None → i ≡ r
    → map (option_map f) carriers ≡ modes → get_or modes r None ≡ option_map f o
picked f carriers modes i r o h j e =
    ap (λ s. get_or modes s None) (sym j) ∙ ap (λ z. get_or z i None) (sym e) ∙ get_or-map (option_map f) carriers i None ∙ ap (option_map f) (sym h)

at : {b d : Band} (r : ℕ) → b ≡ d → (plan_of b).rate r ≡ (plan_of d).rate r
at r e = ap (λ x. (plan_of x).rate r) e

pub returns : goal.returns
returns c =
    elim c.match-self.branch [
      | in-Mhz420 w ↦ at c.args.rate w.in-Mhz420.is
          ∙ picked _ c.match-self.modes gmsk_rates _ c.args.rate _ (c.in_ok-get.ensures.lookup.4 (omega arith) None) (omega arith) (search rules)
      | in-Mhz2360 w ↦ ⊎_elim (at c.args.rate) (at c.args.rate) w.in-Mhz2360.is
          ∙ picked _ c.match-self.modes upper_rates _ c.args.rate _ (c.in_ok-get.ensures.lookup.4 (omega arith) None) (omega arith) (search rules)
      | in-Mhz402 w ↦ ⊎_elim (at c.args.rate) (⊎_elim (at c.args.rate) (⊎_elim (at c.args.rate) (at c.args.rate))) w.in-Mhz402.is
          ∙ picked _ c.match-self.modes lower_rates _ c.args.rate _ (c.in_ok-get.ensures.lookup.4 (omega arith) None) (omega arith) (search rules)
    ]
