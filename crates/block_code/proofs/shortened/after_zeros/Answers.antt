use Rattle.std.proofs.Common.{◌+◌, ◌-◌, ◌++◌, length, take, drop, replicate, ap, ◌∙◌, arith}
use Rattle.block_code.specs.ShorteningLemmas.{padded}
use Rattle.block_code.proofs.shortened.after_zeros.Goals as goal

pub returns : goal.returns
returns c =
    let z = c.args.zeros in
    let ys = c.args.bits.now in
    ap (λ zs. take z (replicate 63 0) ++ (zs ++ drop (z + length ys - z) (drop z (replicate 63 0)))) c.copy_from_slice.ensures.after
    ∙ padded z (z + length ys - z) ys c.requires (omega arith)
