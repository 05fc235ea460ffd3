use Rattle.std.proofs.Common.{rules, ◌≡◌, fold, ◌∙◌}
use Rattle.block_code.specs.Bch.{divided}
use Rattle.block_code.proofs.Loops.{folded}
use Rattle.block_code.proofs.bch63.remainder.Goals as goal

pub returns : goal.returns
returns c =
    let e : c.fold.result ≡ fold divided 0 c.args.message.now = search rules in e ∙ folded 0 c.args.message.now
