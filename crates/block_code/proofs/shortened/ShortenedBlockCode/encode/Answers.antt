use Rattle.std.proofs.Common.{arith}
use Rattle.block_code.specs.ShorteningLemmas.{encoding}
use Rattle.block_code.proofs.shortened.ShortenedBlockCode.encode.Goals as goal

pub returns : goal.returns
returns g c =
    let L = g.met.C.BlockCode.lawful c.args.self.now.code in
    rw (← c.unsent-s.ensures)
    (encoding L (omega arith) c.message_bits-k.ensures
    c.in_ok-expect_string.ensures c.after_zeros-full.ensures c.args.parity.now c.encode.new.parity
    c.encode.result c.encode.ensures)
