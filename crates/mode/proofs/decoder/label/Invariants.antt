use Rattle.std.proofs.Common.{◌≡◌, take}
use Rattle.mode.specs.Heard.{labelled}
use Rattle.mode.proofs.decoder.label.Given as goal

abbrev pub invariant-loop-i : goal.invariant-loop-i
invariant-loop-i l = take l.i l.output ≡ labelled l.w l.from (take l.i l.bits)
