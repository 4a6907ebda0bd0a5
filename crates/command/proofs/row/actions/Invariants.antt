use Rattle.std.proofs.Common.{◌≡◌, length}
use Rattle.std.specs.Slice.Iter.{iter_rest}
use Rattle.token.specs.Words.{nows}
use Rattle.command.specs.Orders.{step_list}
use Rattle.command.specs.Programs.{steps_of}
use Rattle.command.proofs.Rows.{led}
use Rattle.command.proofs.row.actions.Given as goal

abbrev pub invariant-loop-word : goal.invariant-loop-word
invariant-loop-word l = led (step_list l.out) (steps_of (nows (iter_rest l.rest))) ≡ steps_of (nows l.words)

abbrev pub decreases-loop-word : goal.decreases-loop-word
decreases-loop-word l = length (iter_rest l.rest)
