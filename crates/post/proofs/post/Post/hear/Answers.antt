use Rattle.std.proofs.Common.{◌≡◌, Some, sym, refl, ap, ◌∙◌, arith}
use Rattle.std.proofs.lemmas.List.{length-take-le}
use Rattle.std.proofs.lemmas.Result.{err_from_is_err_and}
use Rattle.post.proofs.Listening.{ranges, seed_bit, carries, spoilt-header, length_faulty, payload_there, payload_faulty, spoilt_payload, delivered}
use Rattle.post.proofs.post.Post.hear.Given.{Over}
use Rattle.post.proofs.post.Post.hear.Goals as goal
use Rattle.post.proofs.post.Post.hear.Goals.{In-Some}

-- the plan's mode for the rate that the header says
rated : (g : Over) (c : In-Some g) → (g.P.RadioPlan.plan c.args.self.now.plan).rate c.in_ok-header.header.rate ≡ Some (g.P.Mode.Carrier.mode c.in-Some.payload)
rated g c = ap (g.P.RadioPlan.plan c.args.self.now.plan).rate (sym c.from.ensures) ∙ c.in-Some.ensures

pub overflow_mul-bytes : goal.overflow_mul-bytes
overflow_mul-bytes g c =
    omega (arith, (ranges (g.P.RadioPlan.plan c.args.self.now.plan) (g.met.P.RadioPlan.lawful c.args.self.now.plan) c.args.list.now c.in_ok-header.header c.in_ok-header.spoilt c.in_ok-header.ensures).high)

pub count-requires : goal.count-requires
count-requires g c =
    carries (g.P.RadioPlan.plan c.args.self.now.plan) (g.met.P.RadioPlan.lawful c.args.self.now.plan) c.args.list.now c.in_ok-header.header c.in_ok-header.spoilt c.in_ok-header.ensures

pub returns-then-list-needed : goal.returns-then-list-needed
returns-then-list-needed g c = (
  (
    omega arith,
    length_faulty (g.P.RadioPlan.plan c.args.self.now.plan) (g.met.P.RadioPlan.lawful c.args.self.now.plan) c.args.list.now c.in_ok-header.header c.in_ok-header.spoilt c.in_ok-header.ensures
        c.header_count-head.result c.header_count-head.ensures.value c.if-list-head.false _ (rated g (goal.at.returns-then-list-needed g c).In-Some) c.count.result c.count.ensures.value c.if-list-needed.true,
  ),
  refl,
)

pub slice_bounds-read_payload-end : goal.slice_bounds-read_payload-end
slice_bounds-read_payload-end g c =
    omega (arith, (ranges (g.P.RadioPlan.plan c.args.self.now.plan) (g.met.P.RadioPlan.lawful c.args.self.now.plan) c.args.list.now c.in_ok-header.header c.in_ok-header.spoilt c.in_ok-header.ensures).high)

pub slice_bounds-read_payload-end-2 : goal.slice_bounds-read_payload-end-2
slice_bounds-read_payload-end-2 g c =
    sym (length-take-le _ c.args.output.now (omega (arith, (ranges (g.P.RadioPlan.plan c.args.self.now.plan) (g.met.P.RadioPlan.lawful c.args.self.now.plan) c.args.list.now c.in_ok-header.header c.in_ok-header.spoilt c.in_ok-header.ensures).high)))

pub read_payload-requires-clause-seed : goal.read_payload-requires-clause-seed
read_payload-requires-clause-seed g c =
    seed_bit (g.P.RadioPlan.plan c.args.self.now.plan) (g.met.P.RadioPlan.lawful c.args.self.now.plan) c.args.list.now c.in_ok-header.header c.in_ok-header.spoilt c.in_ok-header.ensures

pub read_payload-requires-clause-there : goal.read_payload-requires-clause-there
read_payload-requires-clause-there g c =
    payload_there (g.P.RadioPlan.plan c.args.self.now.plan) (g.met.P.RadioPlan.lawful c.args.self.now.plan) c.args.list.now c.in_ok-header.header c.in_ok-header.spoilt c.in_ok-header.ensures
    c.header_count-head.result c.header_count-head.ensures.value c.if-list-head.false _ (rated g (goal.at.read_payload-requires-clause-there g c).In-Some) c.count.result c.count.ensures.value
    c.if-list-needed.false c.args.output.now (omega arith)

pub returns-in_err-more : goal.returns-in_err-more
returns-in_err-more g c =
    let p = err_from_is_err_and c.from_residual-in_err-more.result c.from_residual-in_err-more.ensures.1 in
    let x = payload_faulty (g.P.RadioPlan.plan c.args.self.now.plan) (g.met.P.RadioPlan.lawful c.args.self.now.plan) c.args.list.now c.in_ok-header.header c.in_ok-header.spoilt c.in_ok-header.ensures
    c.header_count-head.result c.header_count-head.ensures.value c.if-list-head.false _ (rated g (goal.at.returns-in_err-more g c).In-Some) c.count.result c.count.ensures.value
    c.if-list-needed.false c.args.output.now (omega arith) c.read_payload.new.psdu c.in_err-more.field-0.0 c.in_err-more.ensures in
    rw (p.1, p.2) ((omega arith, x.0), x.1)

pub overflow_add-result : goal.overflow_add-result
overflow_add-result g c =
    omega (
      arith,
      spoilt-header (g.P.RadioPlan.plan c.args.self.now.plan) (g.met.P.RadioPlan.lawful c.args.self.now.plan) c.args.list.now c.in_ok-header.header c.in_ok-header.spoilt c.in_ok-header.ensures,
      spoilt_payload (g.P.RadioPlan.plan c.args.self.now.plan) (g.met.P.RadioPlan.lawful c.args.self.now.plan) c.args.list.now c.in_ok-header.header c.in_ok-header.spoilt c.in_ok-header.ensures
          c.header_count-head.result c.header_count-head.ensures.value c.if-list-head.false _ (rated g (goal.at.overflow_add-result g c).In-Some) c.count.result c.count.ensures.value
          c.if-list-needed.false c.args.output.now (omega arith) c.read_payload.new.psdu c.in_ok-more.more c.in_ok-more.ensures,
    )

pub returns : goal.returns
returns g c =
    delivered (g.P.RadioPlan.plan c.args.self.now.plan) (g.met.P.RadioPlan.lawful c.args.self.now.plan) c.args.list.now c.in_ok-header.header c.in_ok-header.spoilt c.in_ok-header.ensures
    c.header_count-head.result c.header_count-head.ensures.value c.if-list-head.false _ (rated g (goal.at.returns g c).In-Some) c.count.result c.count.ensures.value
    c.if-list-needed.false c.args.output.now (omega arith) c.read_payload.new.psdu c.in_ok-more.more c.in_ok-more.ensures
