use Rattle.std.proofs.Common.{◌≡◌, length}
use Rattle.std.specs.Slice.Iter.{chunks_exact_rest, chunks_exact_size}
use Rattle.sha256.proofs.Streams.{Taken}
use Rattle.sha256.proofs.blocks.blocks.Given as goal

abbrev pub invariant-loop-block : goal.invariant-loop-block
invariant-loop-block l = record {
  size : chunks_exact_size l.block-iterator ≡ 64;
  taken : Taken l.initial.s l.p (length l.yielded) l.s (chunks_exact_rest l.block-iterator);
}
