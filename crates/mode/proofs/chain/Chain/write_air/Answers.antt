use Rattle.std.proofs.Common.{◌≡◌, ◌≤◌, length, sym, refl, ap, ◌∙◌, arith}
use Rattle.mode.specs.Modes.{Mode, Lawful, total}
use Rattle.mode.specs.Chains.{chained}
use Rattle.mode.proofs.Room.{chain_lawful, total_few, air_is, front_is, front_length}
use Rattle.mode.proofs.Whole.{total_enough}
use Rattle.mode.proofs.Places.{length_front}
use Rattle.mode.proofs.chain.Chain.write_air.Given.{Over}
use Rattle.mode.proofs.chain.Chain.write_air.Goals as goal
use Rattle.mode.proofs.chain.Chain.write_air.Goals.{After-coded_bits-total, After-write_coded}

abbrev mode : (g : Over) → After-coded_bits-total g → Mode
mode g c = chained (g.C.BlockCode.code c.args.self.now.code) c.args.self.now.copies g.M.Mapping.map

lawful : (g : Over) (c : After-coded_bits-total g) → Lawful (mode g c)
lawful g c =
    chain_lawful _ c.args.self.now.copies _ (g.met.C.BlockCode.lawful c.args.self.now.code) (g.met.C.RoomyCode.roomy c.args.self.now.code) g.met.M.Mapping.lawful

few : (g : Over) (c : After-coded_bits-total g) → c.coded_bits-total.result ≤ 8318
few g c = rw c.coded_bits-total.ensures (total_few (mode g c) (lawful g c) c.count.result.n c.count.result.carried.high)

-- the coded bits are so many
sized : (g : Over) (c : After-write_coded g) → length c.write_coded.new.coded ≡ c.coded_bits-total.result
sized g c = c.write_coded.auto.coded ∙ length_front _ _ 8318 refl (few g (goal.at.After-write_coded g c).After-coded_bits-total)

pub slice_bounds-coded-end : goal.slice_bounds-coded-end
slice_bounds-coded-end g c = omega (arith, few g c)

pub put_copies-requires-clause-enough : goal.put_copies-requires-clause-enough
put_copies-requires-clause-enough g c =
    let a = (goal.at.put_copies-requires-clause-enough g c).After-coded_bits-total in
    let k = sized g (goal.at.put_copies-requires-clause-enough g c).After-write_coded in
    λ o. total_enough (mode g a) (lawful g a) c.count.result.n c.count.result.carried.low (sym c.coded_bits-total.ensures ∙ sym (front_length _ _ _ k) ∙ o)

pub returns : goal.returns
returns g c =
    let m = mode g (goal.at.returns g c).After-coded_bits-total in
    let k = sized g (goal.at.returns g c).After-write_coded in
    air_is m c.args.message.now.bits.now _ _ _ refl (front_is _ _ _ k ∙ c.write_coded.ensures)
    (front_length _ _ _ k ∙ c.coded_bits-total.ensures ∙ ap (total m) c.count.ensures) c.put_copies.ensures
