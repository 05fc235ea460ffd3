use Rattle.std.proofs.Common.{◌≡◌, ◌*◌, take}
use Rattle.mode.specs.Copying.{spread}
use Rattle.mode.proofs.coder.spread.Given as goal

abbrev pub invariant-loop-i : goal.invariant-loop-i
invariant-loop-i l = take (l.s * l.i) l.output ≡ spread l.s (take l.i l.bits)
