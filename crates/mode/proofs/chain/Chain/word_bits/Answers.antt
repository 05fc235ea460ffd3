use Rattle.std.proofs.Common.{◌+◌, ◌*◌, ◌≤◌, arith, rules}
use Rattle.mode.specs.Modes.{plain}
use Rattle.mode.proofs.Room.{chain_lawful, plain_few}
use Rattle.mode.proofs.chain.Chain.word_bits.Given.{Over}
use Rattle.mode.proofs.chain.Chain.word_bits.Goals as goal
use Rattle.mode.proofs.chain.Chain.word_bits.Goals.{After-parity_bits}

few : (g : Over) (c : After-parity_bits g) → c.args.count.n + c.word_count.result * c.parity_bits.result ≤ 8316
unfolding plain
few g c =
    let L = chain_lawful _ c.args.self.now.copies _ (g.met.C.BlockCode.lawful c.args.self.now.code) (g.met.C.RoomyCode.roomy c.args.self.now.code) g.met.M.Mapping.lawful in
    rw (c.word_count.ensures, c.message_bits.ensures, c.parity_bits.ensures) (plain_few _ L c.args.count.n c.args.count.carried.high)

pub overflow_mul-result : goal.overflow_mul-result
overflow_mul-result g c = omega (arith, few g c)

pub overflow_add-result : goal.overflow_add-result
overflow_add-result g c = omega (arith, few g (goal.at.overflow_add-result g c).After-parity_bits)

pub returns : goal.returns
unfolding plain
returns g c = search rules
