use Rattle.std.proofs.Common.{◌≡◌, ◌+◌, ◌-◌, List, ℕ, length, ap}
use Rattle.frame.specs.declared.header.Header.{Header}
use Rattle.frame.specs.Answers.{fields_of}
use Rattle.delivery.specs.Frames.{fields, preamble}
use Rattle.post.specs.Parts.{frame_of}
use Rattle.post.proofs.Framing.{preamble_is, first_known, second_known, all_written}
use Rattle.post.proofs.sending.write_frame.Given.{Over}
use Rattle.post.proofs.sending.write_frame.Goals as goal
use Rattle.post.proofs.sending.write_frame.Goals.{After-write_preamble}

first : (g : Over) (c : After-write_preamble g) → c.write_preamble.new.symbols ≡ preamble (g.P.RadioPlan.plan c.args.plan.now) c.args.channel
first g c =
    preamble_is (g.P.RadioPlan.plan c.args.plan.now) c.args.channel _ _ _ _ c.write_preamble.new.symbols c.header.ensures c.start.ensures c.preamble-preamble.ensures
    c.split_at_mut-first.ensures.front_len c.write_preamble.ensures

-- what the header says are the fields of the frame
same : (h : Header) (psdu : List ℕ) → h.bytes ≡ length psdu → fields_of h ≡ fields (frame_of h psdu)
same h psdu e = ap (λ n. record { rate = h.rate; bytes = n; burst = h.burst; seed = h.seed }) e

pub write_header-requires-clause-known : goal.write_header-requires-clause-known
write_header-requires-clause-known g c =
    let k = (goal.at.write_header-requires-clause-known g c).After-write_preamble in
    first_known (g.P.RadioPlan.plan c.args.plan.now) (g.met.P.RadioPlan.lawful c.args.plan.now) c.args.channel (frame_of c.args.header.now c.args.psdu.now) c.requires.legal
    c.write_preamble.new.symbols (first g k)

pub write_payload-requires-clause-known : goal.write_payload-requires-clause-known
write_payload-requires-clause-known g c =
    let k = goal.at.write_payload-requires-clause-known g c in
    second_known (g.P.RadioPlan.plan c.args.plan.now) (g.met.P.RadioPlan.lawful c.args.plan.now) c.args.channel (frame_of c.args.header.now c.args.psdu.now) c.requires.legal
    c.write_preamble.new.symbols (first g k.After-write_preamble) _ (same c.args.header.now c.args.psdu.now c.requires.bytes) c.write_header.new.symbols c.write_header.ensures _ c.requires.carried
    (90 + c.header_count-head.result - 1) (ap (λ z. 90 + z - 1) c.header_count-head.ensures.value)

pub returns : goal.returns
returns g c =
    let k = goal.at.returns g c in
    all_written (g.P.RadioPlan.plan c.args.plan.now) (g.met.P.RadioPlan.lawful c.args.plan.now) c.args.channel (frame_of c.args.header.now c.args.psdu.now) c.requires.legal
    c.write_preamble.new.symbols (first g k.After-write_preamble) _ (same c.args.header.now c.args.psdu.now c.requires.bytes) c.write_header.new.symbols c.write_header.ensures _ c.requires.carried
    (90 + c.header_count-head.result - 1) (ap (λ z. 90 + z - 1) c.header_count-head.ensures.value)
    c.write_payload.new.symbols c.write_payload.ensures
