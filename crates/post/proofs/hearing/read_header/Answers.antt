use Rattle.std.proofs.Common.{rules}
use Rattle.delivery.specs.Frames.{header_count}
use Rattle.delivery.proofs.Fronts.{there}
use Rattle.post.proofs.hearing.read_header.Goals as goal

pub map_err-requires : goal.map_err-requires
unfolding header_count
map_err-requires g c =
    let t = there (g.P.RadioPlan.plan c.args.plan.now) (g.met.P.RadioPlan.lawful c.args.plan.now) c.args.list.now c.requires in
    let m = c.header.ensures in
    let f = c.form-form.ensures in
    let k = c.bits_count.ensures in
    search rules
