use Rattle.std.proofs.Common.{◌≡◌}
use Rattle.std.specs.Iterator.Adapters.{zip_first, zip_second}
use Rattle.std.specs.Slice.Iter.{chunks_exact_rest, chunks_exact_size}
use Rattle.sha256.proofs.Turns.{Turned}
use Rattle.sha256.proofs.rounds.compress.Given as goal

abbrev pub invariant-loop-k : goal.invariant-loop-k
invariant-loop-k l = record {
  first : chunks_exact_size (zip_first l.k-iterator) ≡ 8;
  second : chunks_exact_size (zip_second l.k-iterator) ≡ 8;
  turned : Turned l.h l.block l.s (chunks_exact_rest (zip_first l.k-iterator)) (chunks_exact_rest (zip_second l.k-iterator));
}
