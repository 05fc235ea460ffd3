use Rattle.std.specs.Iterator.Adapters.{zip_first, zip_second}
use Rattle.std.specs.Slice.Iter.{iter_rest, chunks_exact_rest, chunks_exact_size}
use Rattle.mode.proofs.Deciding.{Counted}
use Rattle.mode.proofs.decoder.spoilt.Given as goal

abbrev pub invariant-loop-bit : goal.invariant-loop-bit
invariant-loop-bit l =
    Counted l.s l.word l.heard l.n (iter_rest (zip_first l.bit-iterator)) (chunks_exact_rest (zip_second l.bit-iterator)) (chunks_exact_size (zip_second l.bit-iterator))
