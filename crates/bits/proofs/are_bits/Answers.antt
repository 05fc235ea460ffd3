use Rattle.std.proofs.Common.{◌<◌, ◌≤◌, length, get_or, refl, arith}
use Rattle.std.proofs.ByRecursion.{All-get_or, All-more}
use Rattle.std.proofs.lemmas.List.{take_all}
use Rattle.std.proofs.lemmas.Bool.{false≢true}
use Rattle.bits.specs.Strings.{Bit}
use Rattle.bits.proofs.are_bits.Goals as goal

pub loop-x-preserved : goal.loop-x-preserved
loop-x-preserved c =
    let h : get_or c.args.xs.now c.loop-x.x-index 0 < 2 = omega arith in
    All-more Bit c.args.xs.now c.loop-x.x-index 0 c.loop-x-test.true c.loop-x.invariant h

pub returns-then-x-gt1 : goal.returns-then-x-gt1
returns-then-x-gt1 c = (
  λ e. absurd (false≢true e),
  λ all. absurd (omega (arith, All-get_or Bit c.args.xs.now c.loop-x.x-index 0 c.loop-x-test.true all)),
)

pub returns : goal.returns
returns c =
    let h : length c.args.xs.now ≤ c.loop-x.x-index = omega arith in
    (λ e. rw (take_all c.loop-x.x-index c.args.xs.now h) at c.loop-x.invariant, λ all. refl)
