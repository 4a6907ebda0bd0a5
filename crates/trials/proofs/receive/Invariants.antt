use Rattle.std.proofs.Common.{length}
use Rattle.trials.proofs.receive.Given as goal

abbrev pub decreases-loop-message : goal.decreases-loop-message
decreases-loop-message l = length l.rest
