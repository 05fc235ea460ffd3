use Rattle.std.proofs.Common.{rules, ◌≡◌, ◌*◌, length, refl, ◌∙◌, subst, arith}
use Rattle.mode.specs.Orders.{deinterleaved}
use Rattle.mode.specs.Heard.{labelled}
use Rattle.mode.specs.Modes.{Lawful, total, count}
use Rattle.mode.specs.Parts.{Read}
use Rattle.mode.specs.Chains.{copy_count, chained}
use Rattle.mode.proofs.Room.{chain_lawful}
use Rattle.mode.proofs.Places.{part_width, heardable, heard_is, heard_bits, heard_room, heard_part}
use Rattle.mode.proofs.chain.Chain.hear_part.Given.{Over}
use Rattle.mode.proofs.chain.Chain.hear_part.Goals as goal
use Rattle.mode.proofs.chain.Chain.hear_part.Goals.{Start, In_ok-hear_copies}

lawful : (g : Over) (c : Start g) → Lawful (chained (g.C.BlockCode.code c.args.self.now.code) c.args.self.now.copies g.M.Mapping.map)
lawful g c =
    chain_lawful (g.C.BlockCode.code c.args.self.now.code) c.args.self.now.copies g.M.Mapping.map (g.met.C.BlockCode.lawful c.args.self.now.code) (g.met.C.RoomyCode.roomy c.args.self.now.code) g.met.M.Mapping.lawful

wide : (g : Over) (c : Start g) → length c.args.heard.now ≡ (chained (g.C.BlockCode.code c.args.self.now.code) c.args.self.now.copies g.M.Mapping.map).copies * total (chained (g.C.BlockCode.code c.args.self.now.code) c.args.self.now.copies g.M.Mapping.map) (length c.args.bits.now)
wide g c = c.requires.room ∙ part_width (chained (g.C.BlockCode.code c.args.self.now.code) c.args.self.now.copies g.M.Mapping.map) (lawful g c) (length c.args.bits.now) c.args.count g.M.Mapping.map.w c.requires.symbols refl

pub hear_copies-requires : goal.hear_copies-requires
hear_copies-requires g c =
    let a = (goal.at.hear_copies-requires g c).Start in
    let h = heardable (chained (g.C.BlockCode.code c.args.self.now.code) c.args.self.now.copies g.M.Mapping.map) (lawful g a) (length c.args.bits.now) (copy_count c.args.self.now.copies) (length c.args.heard.now) c.args.heard.now c.requires.there.carried refl (wide g a) refl in
    record { there = omega (arith, c.requires.there.long, c.requires.symbols); copied = h.copied; few = h.few; room = c.requires.room }

-- the bits that were read
read : (g : Over) (c : In_ok-hear_copies g) → Read g.M.Mapping.map c.args.list.now c.args.at (count (chained (g.C.BlockCode.code c.args.self.now.code) c.args.self.now.copies g.M.Mapping.map) (length c.args.bits.now)) c.in_ok-hear_copies.ensures.0
read g c = subst (λ j. Read g.M.Mapping.map c.args.list.now c.args.at j c.in_ok-hear_copies.ensures.0) c.requires.symbols c.in_ok-hear_copies.ensures.1

-- and their copies
heard : (g : Over) (c : In_ok-hear_copies g) → c.hear_copies.new.heard ≡ deinterleaved (chained (g.C.BlockCode.code c.args.self.now.code) c.args.self.now.copies g.M.Mapping.map).copies (total (chained (g.C.BlockCode.code c.args.self.now.code) c.args.self.now.copies g.M.Mapping.map) (length c.args.bits.now)) (labelled g.M.Mapping.map.w 0 c.in_ok-hear_copies.ensures.0)
heard g c =
    let a = (goal.at.In_ok-hear_copies g c).Start in
    heard_is (chained (g.C.BlockCode.code c.args.self.now.code) c.args.self.now.copies g.M.Mapping.map) (lawful g a) c.args.list.now c.args.at (length c.args.bits.now) c.requires.there c.in_ok-hear_copies.ensures.0 (read g c) c.hear_copies.new.heard (copy_count c.args.self.now.copies) refl c.in_ok-hear_copies.ensures.2

pub hear_words-requires : goal.hear_words-requires
hear_words-requires g c =
    let m = chained (g.C.BlockCode.code c.args.self.now.code) c.args.self.now.copies g.M.Mapping.map in
    let L = lawful g (goal.at.hear_words-requires g c).Start in
    let b = (goal.at.hear_words-requires g c).In_ok-hear_copies in
    let n = length c.args.bits.now in
    record {
      carried = c.requires.there.carried;
      heard_bits = heard_bits m L c.args.list.now c.args.at n c.requires.there c.in_ok-hear_copies.ensures.0 (read g b) c.hear_copies.new.heard (heard g b);
      room = heard_room m L c.args.list.now c.args.at n c.requires.there c.in_ok-hear_copies.ensures.0 (read g b) c.hear_copies.new.heard (heard g b);
    }

pub returns : goal.returns
returns g c =
    let m = chained (g.C.BlockCode.code c.args.self.now.code) c.args.self.now.copies g.M.Mapping.map in
    let L = lawful g (goal.at.returns g c).Start in
    let b = (goal.at.returns g c).In_ok-hear_copies in
    heard_part m L c.args.list.now c.args.at (length c.args.bits.now) c.requires.there c.in_ok-hear_copies.ensures.0 (read g b) c.hear_copies.new.heard (heard g b) c.hear_words.new.bits
    c.hear_words.result c.map_err.result c.hear_words.ensures (λ n e. grind arith) (λ w e. search rules)
