use Rattle.std.proofs.Common.{◌*◌, ◌≤◌, ap, ◌∙◌, arith}
use Rattle.mode.specs.Modes.{Mode, Lawful, total, count}
use Rattle.mode.specs.Chains.{chained}
use Rattle.mode.proofs.Room.{chain_lawful, air_few}
use Rattle.mode.proofs.Sending.{symbols_asked, sent_front}
use Rattle.mode.proofs.chain.ChainCarrier.send.Given.{Over}
use Rattle.mode.proofs.chain.ChainCarrier.send.Goals as goal
use Rattle.mode.proofs.chain.ChainCarrier.send.Goals.{After-coded_bits}

abbrev mode : (g : Over) → After-coded_bits g → Mode
mode g c = chained (g.C.BlockCode.code c.args.self.now.code) c.args.self.now.copies g.M.Mapping.map

lawful : (g : Over) (c : After-coded_bits g) → Lawful (mode g c)
lawful g c =
    chain_lawful _ c.args.self.now.copies _ (g.met.C.BlockCode.lawful c.args.self.now.code) (g.met.C.RoomyCode.roomy c.args.self.now.code) g.met.M.Mapping.lawful

few : (g : Over) (c : After-coded_bits g) → c.count.result * c.coded_bits.result ≤ 33272
few g c = rw (c.count.ensures, c.coded_bits.ensures) (air_few (mode g c) (lawful g c) c.count-n.result.n c.count-n.result.carried.high)

pub overflow_mul-places : goal.overflow_mul-places
overflow_mul-places g c = omega (arith, few g c)

pub slice_bounds-air-end : goal.slice_bounds-air-end
slice_bounds-air-end g c = omega (arith, few g (goal.at.slice_bounds-air-end g c).After-coded_bits)

pub step_through-requires-clause-bits : goal.step_through-requires-clause-bits
step_through-requires-clause-bits g c =
    let a = (goal.at.step_through-requires-clause-bits g c).After-coded_bits in
    let m = mode g a in
    let s = c.in_ok-message.message in
    symbols_asked m (lawful g a) s.bits.now _ _ _ s.carried s.valid c.count.ensures (c.coded_bits.ensures ∙ ap (total m) c.count-n.ensures) c.write_air.ensures
    _ _ _ (c.symbols-count.ensures ∙ ap (count m) c.count-n.ensures) c.if-symbols-count.false

pub returns : goal.returns
returns g c =
    let a = (goal.at.returns g c).After-coded_bits in
    let m = mode g a in
    let s = c.in_ok-message.message in
    let e = c.symbols-count.ensures ∙ ap (count m) c.count-n.ensures in
    rw (← c.in_ok-message.ensures) (
      record { carried = s.carried; bits = s.valid; known = omega (arith, c.if-from-order.false, c.from.ensures, c.order.ensures); room = omega (arith, e, c.if-symbols-count.false) },
      e,
      sent_front m (lawful g a) s.bits.now _ _ _ s.carried s.valid c.count.ensures (c.coded_bits.ensures ∙ ap (total m) c.count-n.ensures) c.write_air.ensures
          _ _ _ e c.if-symbols-count.false c.args.prior _ c.step_through.ensures,
    )
