use Rattle.std.specs.Iterator.Adapters.{enumerate_source, enumerate_count}
use Rattle.std.specs.Slice.Iter.{chunks_exact_rest, chunks_exact_size}
use Rattle.mode.proofs.Blocks.{Taken}
use Rattle.mode.proofs.decoder.take_copies.Given as goal

abbrev pub invariant-loop-i : goal.invariant-loop-i
invariant-loop-i l =
    Taken l.s l.total l.w l.bits l.output (enumerate_count l.i-iterator) (chunks_exact_rest (enumerate_source l.i-iterator)) (chunks_exact_size (enumerate_source l.i-iterator))
