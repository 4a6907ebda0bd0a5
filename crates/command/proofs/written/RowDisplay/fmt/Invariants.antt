use Rattle.std.proofs.Common.{map, take}
use Rattle.std.specs.Fmt.{HasWritten, IsPlainFormatter}
use Rattle.token.specs.Written.{spaced_of}
use Rattle.command.specs.Orders.{step_of}
use Rattle.command.specs.Written.{steps_words}
use Rattle.command.proofs.written.RowDisplay.fmt.Given as goal

abbrev pub invariant-loop-action : goal.invariant-loop-action
invariant-loop-action g l =
    IsPlainFormatter l.initial.f → HasWritten g.W.Write.write_str_gives l.initial.f (spaced_of (steps_words (map step_of (take l.action-index l.action-items)))) l.f
