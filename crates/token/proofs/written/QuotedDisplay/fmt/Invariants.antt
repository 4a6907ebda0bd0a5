use Rattle.std.proofs.Common.{◌≡◌, ℕ, List, ◌++◌}
use Rattle.std.specs.Fmt.{HasWritten, IsPlainFormatter}
use Rattle.std.specs.Slice.Iter.{chunks_rest, chunks_size}
use Rattle.token.specs.Written.{escapes_of}
use Rattle.token.proofs.written.QuotedDisplay.fmt.Given as goal

abbrev pub invariant-loop-piece : goal.invariant-loop-piece
invariant-loop-piece g l =
    (chunks_size l.piece-iterator ≡ 32) ×
    (IsPlainFormatter l.initial.f → (done : List ℕ) × HasWritten g.W.Write.write_str_gives l.initial.f done l.f × (done ++ escapes_of (chunks_rest l.piece-iterator) ≡ escapes_of l.fn.self.0.now))
