use Rattle.std.proofs.Common.{◌≡◌}
use Rattle.blocks.specs.Sets.{has, tally}
use Rattle.blocks.proofs.Set.count.Given as goal

abbrev pub invariant-loop-k : goal.invariant-loop-k
invariant-loop-k l = l.n ≡ tally (has l.self.bits) l.k
