use Rattle.std.proofs.Common.{rules, ◌≡◌, fold, reverse, ◌∙◌}
use Rattle.frame.proofs.Folds.{taken, folded}
use Rattle.frame.proofs.numbers.number_of.Goals as goal

pub returns : goal.returns
returns c =
    let e : c.fold.result ≡ fold taken 0 (reverse c.args.bits.now) = search rules in
    e ∙ folded c.args.bits.now c.requires.few c.requires.valid
