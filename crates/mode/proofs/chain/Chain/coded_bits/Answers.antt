use Rattle.std.proofs.Common.{arith, rules}
use Rattle.mode.specs.Modes.{total, pad}
use Rattle.mode.proofs.Room.{chain_lawful, total_few}
use Rattle.mode.proofs.chain.Chain.coded_bits.Goals as goal

pub returns : goal.returns
unfolding total pad
returns g c = search rules

pub overflow_add-result : goal.overflow_add-result
overflow_add-result g c =
    let L = chain_lawful _ c.args.self.now.copies _ (g.met.C.BlockCode.lawful c.args.self.now.code) (g.met.C.RoomyCode.roomy c.args.self.now.code) g.met.M.Mapping.lawful in
    omega (arith, returns g c, total_few _ L c.args.count.n c.args.count.carried.high)
