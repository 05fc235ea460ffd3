use Rattle.std.proofs.Common.{arith, rules}
use Rattle.mode.specs.Modes.{count}
use Rattle.mode.proofs.Room.{chain_lawful, air_few}
use Rattle.mode.proofs.chain.Chain.symbols.Goals as goal

pub overflow_mul-result : goal.overflow_mul-result
overflow_mul-result g c =
    let L = chain_lawful _ c.args.self.now.copies _ (g.met.C.BlockCode.lawful c.args.self.now.code) (g.met.C.RoomyCode.roomy c.args.self.now.code) g.met.M.Mapping.lawful in
    rw (c.count.ensures, c.coded_bits.ensures) (omega (arith, air_few _ L c.args.count.n c.args.count.carried.high))

pub returns : goal.returns
unfolding count
returns g c = search rules
