use Rattle.std.proofs.Common.{rules, ◌≡◌, ◌+◌, ◌-◌, ◌*◌, ◌<◌, ◌≤◌, length, get_or, take, drop, Err, refl, ◌∙◌, arith}
use Rattle.std.proofs.lemmas.Result.{err_from_is_err_and}
use Rattle.std.proofs.lemmas.Slice.{take-put_mid}
use Rattle.mapping.specs.Answers.{Reads}
use Rattle.mode.specs.declared.fault.PartFault.TheVariants.{Step}
use Rattle.mode.proofs.Strings.{length_part, row_there}
use Rattle.mode.proofs.Reading.{refused, answered, part_symbol, sofar_prior, sofar_more, sofar_all, step_fault, unread}
use Rattle.mode.proofs.decoder.read_part.Given.{Over}
use Rattle.mode.proofs.decoder.read_part.Goals as goal
use Rattle.mode.proofs.decoder.read_part.Goals.{In-loop-k}

-- the loop's symbol as the list has it
symbol : (g : Over) (c : In-loop-k g) → (c.loop-k.k < c.args.count) × (get_or (take (c.args.at + 1 + c.args.count - (c.args.at + 1)) (drop (c.args.at + 1) c.args.list.now)) c.loop-k.k 0 ≡ get_or c.args.list.now (c.args.at + 1 + c.loop-k.k) 0)
symbol g c = part_symbol c.args.list.now (c.args.at + 1) c.args.count c.loop-k.k c.requires.there c.loop-k-test.true

-- the places of its bits are there
there : (g : Over) (c : In-loop-k g) → c.width-w.result * c.loop-k.k + c.width-w.result ≤ length c.loop-k.bits
there g c =
    rw c.width-w.ensures (row_there g.M.Mapping.map.w c.args.count c.loop-k.k (length c.loop-k.bits) (c.loop-k.auto.bits ∙ c.requires.room ∙ omega arith) (symbol g c).0)

pub returns-in_err-map_err : goal.returns-in_err-map_err
returns-in_err-map_err g c =
    let b = (goal.at.returns-in_err-map_err g c).In-loop-k in
    let f = g.M.Mapping.map in
    let i = c.args.at + 1 + c.loop-k.k in
    let p = err_from_is_err_and c.from_residual.result c.from_residual.ensures.1 in
    let e : c.in_err-map_err.field-0.0 ≡ Step (c.args.at + 1 + c.loop-k.k) = search rules in
    let r = refused c.read.result c.map_err.result c.in_err-map_err.field-0.0 c.map_err.ensures.variant c.in_err-map_err.was in
    let s = symbol g b in
    let q : get_or c.args.list.now i 0 < f.q = omega (arith, s.1, c.if-from-q-2.false, c.from-in-loop-k.ensures, c.order-q.ensures) in
    let h : Reads f c.loop-k.prior (get_or c.args.list.now i 0) _ c.read.new.bits (Err r.0) = rw (r.1, s.1) at c.read.ensures in
    let z = length_part (c.width-w.result * c.loop-k.k) c.width-w.result c.loop-k.bits (there g b) ∙ c.width-w.ensures in
    rw (p.1, p.2, e) (step_fault f c.args.list.now c.args.at c.args.count g.met.M.Mapping.lawful c.loop-k.bits c.loop-k.k c.loop-k.prior c.loop-k.invariant i refl s.0 q
    (unread f c.loop-k.prior (get_or c.args.list.now i 0) _ c.read.new.bits r.0
    (record { from = sofar_prior f c.args.list.now c.args.at c.args.count g.met.M.Mapping.lawful c.loop-k.bits c.loop-k.k c.loop-k.prior c.loop-k.invariant; to = q; size = z }) h))

pub loop-k-preserved : goal.loop-k-preserved
loop-k-preserved g c =
    let b = (goal.at.loop-k-preserved g c).In-loop-k in
    let f = g.M.Mapping.map in
    let i = c.args.at + 1 + c.loop-k.k in
    let s = symbol g b in
    let r = answered c.read.result c.map_err.result c.in_ok-map_err.field-0 c.map_err.ensures.variant c.in_ok-map_err.was in
    let h = rw r.1 at c.read.ensures in
    sofar_more f c.args.list.now c.args.at c.args.count g.met.M.Mapping.lawful c.loop-k.bits c.loop-k.k c.loop-k.prior c.loop-k.invariant i _ _ c.width-w.result c.read.new.bits _ refl s.0 c.requires.there s.1
    (omega (arith, s.1)) h.0.to c.width-w.ensures h.1 h.2
    (take-put_mid (c.width-w.result * c.loop-k.k) (c.width-w.result * c.loop-k.k + c.width-w.result - c.width-w.result * c.loop-k.k) c.loop-k.bits c.read.new.bits (c.width-w.result * c.loop-k.k + c.width-w.result)
    (omega (arith, h.1.size, c.width-w.ensures)) (omega (arith, there g b)))

pub returns : goal.returns
returns g c =
    let e = length_part (c.args.at + 1) c.args.count c.args.list.now c.requires.there in
    sofar_all g.M.Mapping.map c.args.list.now c.args.at c.args.count g.met.M.Mapping.lawful c.loop-k.bits c.loop-k.k c.loop-k.prior c.loop-k.invariant
    (omega arith) (omega (arith, c.loop-k.auto.k-end)) c.requires.there (c.loop-k.auto.bits ∙ c.requires.room)
