use Rattle.std.proofs.Common.{take}
use Rattle.std.specs.List.{AllByRecursion}
use Rattle.bits.specs.Strings.{Bit}
use Rattle.bits.proofs.are_bits.Given as goal

abbrev pub invariant-loop-x : goal.invariant-loop-x
invariant-loop-x l = AllByRecursion Bit (take l.x-index l.xs)
