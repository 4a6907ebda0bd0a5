use Rattle.std.proofs.Common.{◌≡◌, length, fold}
use Rattle.blocks.specs.Sets.{with, none}
use Rattle.blocks.proofs.Set.lowest_free.Given as goal

abbrev pub invariant-loop-k : goal.invariant-loop-k
invariant-loop-k l = (l.taken.bits ≡ fold with none l.yielded) × (l.count ≡ length l.yielded)
