use Rattle.std.proofs.Common.{rules, ◌≡◌, fold, get_or}
use Rattle.mode.proofs.Deciding.{none, lower, lowest_is}
use Rattle.mode.proofs.decoder.lost_word.Goals as goal

pub returns : goal.returns
returns c =
    let e : c.fold-symbol.result ≡ fold lower (get_or c.args.heard.now 0 none).symbol c.args.heard.now = search rules in
    lowest_is c.args.heard.now c.fold-symbol.result c.requires e
