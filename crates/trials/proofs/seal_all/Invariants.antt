use Rattle.std.proofs.Common.{◌≤◌, length}
use Rattle.trials.proofs.seal_all.Given as goal

abbrev pub invariant-loop-i : goal.invariant-loop-i
invariant-loop-i l = l.end ≤ length l.out
