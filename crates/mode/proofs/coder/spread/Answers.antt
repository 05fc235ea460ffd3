use Rattle.std.proofs.Common.{◌≡◌, ◌+◌, ◌-◌, ◌*◌, ◌≤◌, length, get_or, replicate, sym, ap, ◌∙◌, arith}
use Rattle.mode.proofs.Strings.{row_there}
use Rattle.mode.proofs.Coding.{spread_more}
use Rattle.mode.proofs.coder.spread.Goals as goal
use Rattle.mode.proofs.coder.spread.Goals.{In-loop-i}

-- the copies of the next bit have room
there : (c : In-loop-i) → c.count-s.result * c.loop-i.i + c.count-s.result ≤ length c.loop-i.output
there c = row_there c.count-s.result (length c.args.bits.now) c.loop-i.i (length c.loop-i.output) (rw c.count-s.ensures (c.loop-i.auto.output ∙ c.requires)) c.loop-i-test.true

pub loop-i-preserved : goal.loop-i-preserved
loop-i-preserved c =
    let s = c.count-s.result in
    let at = s * c.loop-i.i in
    let r = there (goal.at.loop-i-preserved c).In-loop-i in
    let n : length c.fill.new.self ≡ at + s - at = omega (arith, c.fill.ensures.len, r) in
    spread_more s c.args.bits.now c.loop-i.output c.fill.new.self c.loop-i.i c.loop-i-test.true r c.loop-i.invariant n
    (c.fill.ensures.after (λ y h. h) ∙ ap (λ j. replicate j (get_or c.args.bits.now c.loop-i.i 0)) (sym c.fill.ensures.len))
