use Rattle.std.proofs.Common.{refl, ⊎_elim}
use Rattle.block_code.proofs.Flips.{found0, found1, found2, lost}
use Rattle.block_code.proofs.bch63.Bch63BlockCode.correct.Goals as goal

pub returns-then-t-eq0 : goal.returns-then-t-eq0
returns-then-t-eq0 c =
    let e = c.in_ok-s.ensures.sums in (
      e.0,
      found0 c.args.bits.now e.0 _ _ e.1 e.2
          c.if-s-eq0.true c.if-t-eq0.true,
    )

pub returns-in-Some : goal.returns-in-Some
returns-in-Some c =
    let e = c.in_ok-s.ensures.sums in
    let f = c.in-Some.ensures in (
      e.0,
      found1 c.args.bits.now e.0 _ _ e.1 e.2
          c.in-Some.i f.0 f.1,
    )

pub returns-in-Some-double : goal.returns-in-Some-double
returns-in-Some-double c =
    let e = c.in_ok-s.ensures.sums in
    let f = c.in-Some-double.ensures in (
      e.0,
      found2 c.args.bits.now e.0 _ _ e.1 e.2
          c.in-Some-double.i c.in-Some-double.j f.0 f.1 f.2,
    )

pub returns : goal.returns
returns c =
    let e = c.in_ok-s.ensures.sums in (
      e.0,
      lost c.args.bits.now e.0 _ _ e.1 e.2
          (λ x y. ⊎_elim (λ p. p.1 y) (λ p. p x) c.else-s-eq0.either) c.in_default.ensures c.in_default-double.ensures,
      refl,
    )
