use Rattle.frame.specs.Answers.{fields_of}
use Rattle.post.proofs.Calling.{header_sendable, header_filled}
use Rattle.post.proofs.sending.write_header.Goals as goal

pub unreachable-requires-in_default-send : goal.unreachable-requires-in_default-send
unreachable-requires-in_default-send g c =
    c.in_default-send.ensures.0
    (header_sendable (g.P.RadioPlan.plan c.args.plan.now) (g.met.P.RadioPlan.lawful c.args.plan.now) (fields_of c.args.header.now) c.requires.ranges
    _ c.header.ensures _ c.form-form.ensures c.args.prior c.requires.known c.write.new.out c.args.symbols.now c.in-Ok.ensures.2 c.requires.room)

pub returns : goal.returns
returns g c =
    header_filled (g.P.RadioPlan.plan c.args.plan.now) (g.met.P.RadioPlan.lawful c.args.plan.now) (fields_of c.args.header.now) c.requires.ranges
    _ c.header.ensures _ c.form-form.ensures c.args.prior c.requires.known c.write.new.out c.args.symbols.now c.in-Ok.ensures.2 c.requires.room
    c.send.new.symbols c.in-Ok-send.field-0 c.in-Ok-send.ensures.1 c.in-Ok-send.ensures.2
