use Rattle.std.proofs.Common.{◌≡◌, ◌+◌, ◌*◌, ◌≤◌, ◌++◌, length, vec_items, vec_len}
use Rattle.std.specs.Slice.Iter.{chunks_rest, chunks_size}
use Rattle.bytecode.specs.Encoding.{bytes_of}
use Rattle.bytecode.proofs.program.Program.read.Given as goal

abbrev pub invariant-loop-row : goal.invariant-loop-row
invariant-loop-row l =
    (goal.iterator-loop-row).can_next l.row-iterator ×
    (goal.iterator-loop-row).is_finite l.row-iterator ×
    (chunks_size l.row-iterator ≡ 8) ×
    (vec_len l.instructions ≤ 1024) ×
    (bytes_of (vec_items l.instructions) ++ chunks_rest l.row-iterator ≡ l.bytes) ×
    (8 * vec_len l.instructions + length (chunks_rest l.row-iterator) ≡ length l.bytes)
