use Rattle.std.proofs.Common.{◌≡◌, ◌+◌, ◌*◌, length, sym, ap, arith}
use Rattle.bits.specs.Strings.{Bits}
use Rattle.mode.proofs.Coding.{going_more}
use Rattle.mode.proofs.Strings.{bits_at}
use Rattle.mode.proofs.coder.step_through.Given.{Over}
use Rattle.mode.proofs.coder.step_through.Goals as goal
use Rattle.mode.proofs.coder.step_through.Goals.{In-loop-i}

-- the symbols are so many, and the bits are theirs
sized : (g : Over) (c : In-loop-i g) → Bits (length c.loop-i.output * g.M.Mapping.map.w) c.args.bits.now
sized g c = bits_at _ _ c.args.bits.now (ap (λ n. n * g.M.Mapping.map.w) (sym c.loop-i.auto.output)) c.requires.bits

pub loop-i-preserved : goal.loop-i-preserved
loop-i-preserved g c =
    let w = c.width-w.result in
    let e : w * (c.loop-i.i + 1) ≡ w * c.loop-i.i + w = omega arith in
    rw e (going_more g.M.Mapping.map g.met.M.Mapping.lawful c.args.prior c.loop-i.output c.args.bits.now c.loop-i.i c.loop-i.last (w * c.loop-i.i) c.loop-i.invariant
    (sized g (goal.at.loop-i-preserved g c).In-loop-i) w c.in-Ok.next (omega arith) c.width-w.ensures c.in-Ok.ensures.2)
