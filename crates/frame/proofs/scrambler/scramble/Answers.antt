use Rattle.std.proofs.Common.{◌≡◌, ◌*◌, length, sym, ap, ◌∙◌, arith}
use Rattle.std.proofs.ByRecursion.{All-from_get_or}
use Rattle.std.proofs.lemmas.List.{take_all}
use Rattle.frame.specs.Numbers.{Byte}
use Rattle.frame.specs.Scrambler.{scrambled}
use Rattle.frame.proofs.Scrambling.{gives_next, scramble_more}
use Rattle.frame.proofs.scrambler.scramble.Goals as goal

pub loop-i-preserved : goal.loop-i-preserved
loop-i-preserved c =
    let seed = c.args.seed in
    let i = c.loop-i.i in
    let xs = c.args.psdu.now in
    let bs = c.loop-i.bits in
    let long : length bs ≡ 8 * length xs = omega arith in
    let v = c.loop-i.keystream.register in
    let m = c.next_byte.result in
    let e = c.next_byte.ensures in (
      gives_next seed i v m c.loop-i.invariant.0 e.byte _ e.rest,
      scramble_more seed i v m c.loop-i.invariant.0 e.byte xs bs _ c.loop-i-test.true long c.loop-i.invariant.1 c.put_low_bits.ensures,
    )

pub returns : goal.returns
returns c =
    let xs = c.args.psdu.now in
    let bs = c.loop-i.bits in
    let e : c.loop-i.i ≡ length xs = omega arith in
    let all : length bs ≡ 8 * c.loop-i.i = omega arith in (
      omega arith,
      All-from_get_or Byte xs 0 (λ k l. (c.type_inv.psdu k).fits),
      omega arith,
      sym (take_all (8 * c.loop-i.i) bs (omega arith)) ∙ c.loop-i.invariant.1
          ∙ ap (scrambled c.args.seed) (take_all c.loop-i.i xs (omega arith)),
    )
