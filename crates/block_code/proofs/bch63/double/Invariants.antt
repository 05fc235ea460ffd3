use Rattle.std.proofs.Common.{ℕ, ◌<◌}
use Rattle.block_code.specs.Bch.{Fits2}
use Rattle.block_code.proofs.bch63.double.Given as goal

abbrev pub invariant-loop-i : goal.invariant-loop-i
invariant-loop-i l = (k m : ℕ) → k < l.i → m < k → Fits2 l.s l.t k m → ⊥
