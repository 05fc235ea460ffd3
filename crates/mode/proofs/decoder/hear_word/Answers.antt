use Rattle.std.proofs.Common.{arith, length, ◌∙◌}
use Rattle.mode.specs.Heard.{bits_of}
use Rattle.mode.specs.Chains.{copy_count}
use Rattle.mode.proofs.Room.{copies_some}
use Rattle.mode.proofs.Deciding.{length_bits}
use Rattle.mode.proofs.Finding.{refused, answered, refused_word, heard_word}
use Rattle.mode.proofs.decoder.hear_word.Goals as goal

pub returns-in_err-ok : goal.returns-in_err-ok
returns-in_err-ok g c =
    let e = refused c.correct.result c.in_err-ok.ensures.value in
    rw c.from_residual.ensures (refused_word (g.C.BlockCode.code c.args.code.now) (g.met.C.BlockCode.lawful c.args.code.now) (copy_count c.args.copies) (bits_of c.args.heard.now) (copies_some c.args.copies) c.requires.bits (length c.args.word.now) c.requires.size
    (length_bits c.args.heard.now ∙ c.requires.room) c.decide_word.new.word c.decide_word.ensures c.correct.new.bits e.0 (rw e.1 at c.correct.ensures))

pub returns : goal.returns
returns g c =
    let e = answered c.correct.result c.in_ok-ok.field-0 c.in_ok-ok.ensures.value in
    let h = rw e at c.correct.ensures in
    rw c.then_some.ensures (heard_word (g.C.BlockCode.code c.args.code.now) (g.met.C.BlockCode.lawful c.args.code.now) (copy_count c.args.copies) (bits_of c.args.heard.now) (copies_some c.args.copies) c.requires.bits (length c.args.word.now) c.requires.size
    (length_bits c.args.heard.now ∙ c.requires.room) c.decide_word.new.word c.decide_word.ensures c.correct.new.bits c.in_ok-ok.field-0 h.1
    c.spoilt-n.result _ c.spoilt-n.ensures (omega (arith, c.reach.ensures)))
