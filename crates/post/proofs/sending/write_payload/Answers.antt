use Rattle.std.proofs.Common.{◌*◌, length, sym, subst}
use Rattle.bits.specs.Strings.{Bits}
use Rattle.frame.proofs.Scrambling.{scrambled_bits}
use Rattle.post.proofs.Calling.{sendable}
use Rattle.post.proofs.sending.write_payload.Goals as goal

pub unreachable-requires-in_default-send : goal.unreachable-requires-in_default-send
unreachable-requires-in_default-send g c =
    c.in_default-send.ensures.0
    (sendable _ (8 * length c.args.psdu.now) c.args.prior c.scramble.new.bits c.args.symbols.now
    (subst (Bits (8 * length c.args.psdu.now)) (sym c.in-Ok.ensures.3) (scrambled_bits _ c.args.psdu.now)) c.requires.size c.requires.known c.requires.room)
