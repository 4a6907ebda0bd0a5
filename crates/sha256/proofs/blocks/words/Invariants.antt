use Rattle.std.proofs.Common.{◌≡◌, ℕ, ◌*◌, ◌<◌, get_or, length}
use Rattle.sha256.specs.Message.{Be32}
use Rattle.sha256.proofs.blocks.words.Given as goal

abbrev pub invariant-loop-t : goal.invariant-loop-t
invariant-loop-t l = record {
  size : length l.w ≡ 16;
  words : (k : ℕ) → k < l.t → get_or l.w k 0 ≡ Be32 l.b (4 * k);
}
