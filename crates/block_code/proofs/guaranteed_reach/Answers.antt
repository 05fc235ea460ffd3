use Rattle.block_code.specs.Near.{some_correction, one_correction, near}
use Rattle.block_code.proofs.guaranteed_reach.Goals as goal

pub returns : goal.returns
returns g c =
    let code = g.C.BlockCode.code c.args.code.now in
    let L = g.met.C.BlockCode.lawful c.args.code.now in
    record { value = c.reach.ensures; some = some_correction code L; one = one_correction code L; near = near code L }
