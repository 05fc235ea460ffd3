use Rattle.std.proofs.Common.{rules, ◌≡◌, eqb, sym, ◌∙◌}
use Rattle.std.proofs.Math.Bool.{not}
use Rattle.std.specs.List.{count_by}
use Rattle.mode.proofs.Deciding.{differing_count}
use Rattle.mode.proofs.decoder.differing.Goals as goal

pub returns : goal.returns
returns c =
    let e : c.count.result ≡ count_by (λ h. not (eqb h.bit c.args.bit)) c.args.copies.now = search rules in
    e ∙ sym (differing_count c.args.bit c.args.copies.now)
