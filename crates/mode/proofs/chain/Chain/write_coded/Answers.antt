use Rattle.std.proofs.Common.{◌≤◌, ◌-◌, length, drop, ap, ◌∙◌, arith}
use Rattle.std.proofs.lemmas.List.{length-append, length-take, length-drop}
use Rattle.mode.specs.Modes.{plain}
use Rattle.mode.specs.Chains.{chained}
use Rattle.mode.proofs.Room.{padded_is, plain_adds}
use Rattle.mode.proofs.Whole.{plain-total}
use Rattle.mode.proofs.chain.Chain.write_coded.Given.{Over}
use Rattle.mode.proofs.chain.Chain.write_coded.Goals as goal
use Rattle.mode.proofs.chain.Chain.write_coded.Goals.{After-word_bits-plain}

-- the words leave room for the zeros
fits : (g : Over) (c : After-word_bits-plain g) → c.word_bits-plain.result ≤ length c.args.coded.now
fits g c =
    let m = chained (g.C.BlockCode.code c.args.self.now.code) c.args.self.now.copies g.M.Mapping.map in
    omega (arith, plain-total m (length c.args.message.now.bits.now), c.word_bits-plain.ensures, ap (plain m) c.count.ensures, c.requires)

pub slice_bounds-put_words-end : goal.slice_bounds-put_words-end
slice_bounds-put_words-end g c = omega (arith, fits g (goal.at.slice_bounds-put_words-end g c).After-word_bits-plain)

pub put_words-requires : goal.put_words-requires
put_words-requires g c =
    let m = chained (g.C.BlockCode.code c.args.self.now.code) c.args.self.now.copies g.M.Mapping.map in
    let f = fits g (goal.at.put_words-requires g c).After-word_bits-plain in
    simp length-take (omega (arith, c.word_bits-plain.ensures, ap (plain m) c.count.ensures, plain_adds m (length c.args.message.now.bits.now)))

pub returns : goal.returns
returns g c =
    let m = chained (g.C.BlockCode.code c.args.self.now.code) c.args.self.now.copies g.M.Mapping.map in
    let f = fits g (goal.at.returns g c).After-word_bits-plain in
    padded_is m c.args.message.now.bits.now _ (drop (c.word_bits-plain.result - 0) c.args.coded.now) _ _ c.put_words.ensures
    (c.put_words.auto.output ∙ simp length-take (omega arith)) (c.word_bits-plain.ensures ∙ ap (plain m) c.count.ensures)
    (simp (length-append, length-drop) (omega (arith, c.requires, c.put_words.auto.output))) (c.fill.ensures.after (λ y h. h))
