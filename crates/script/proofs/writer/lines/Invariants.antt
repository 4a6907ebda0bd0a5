use Rattle.std.proofs.Common.{◌≡◌, map, take}
use Rattle.std.specs.String.{string_bytes}
use Rattle.command.specs.Orders.{order_of}
use Rattle.script.specs.Written.{written_of}
use Rattle.script.proofs.writer.lines.Given as goal

abbrev pub invariant-loop-command : goal.invariant-loop-command
invariant-loop-command l = string_bytes l.out ≡ written_of (map order_of (take l.command-index l.commands))
