use Rattle.std.proofs.Common.{◌*◌, ◌≤◌, length, arith}
use Rattle.mode.proofs.Room.{chain_lawful, air_few}
use Rattle.mode.proofs.Places.{part_width}
use Rattle.mode.proofs.chain.ChainCarrier.hear.Given.{Over}
use Rattle.mode.proofs.chain.ChainCarrier.hear.Goals as goal
use Rattle.mode.proofs.chain.ChainCarrier.hear.Goals.{After-width}

few : (g : Over) (c : After-width g) → c.in_ok-count.count * c.width.result ≤ 33272
few g c =
    let L = chain_lawful _ c.args.self.now.copies _ (g.met.C.BlockCode.lawful c.args.self.now.code) (g.met.C.RoomyCode.roomy c.args.self.now.code) g.met.M.Mapping.lawful in
    rw (part_width _ L (length c.args.bits.now) _ _ c.in_ok-count.ensures.1 c.width.ensures) (air_few _ L (length c.args.bits.now) c.in_ok-count.ensures.0.high)

pub overflow_mul-places : goal.overflow_mul-places
overflow_mul-places g c = omega (arith, few g c)

pub slice_bounds-heard-end : goal.slice_bounds-heard-end
slice_bounds-heard-end g c = omega (arith, few g c)
