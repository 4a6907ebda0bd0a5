use Rattle.std.proofs.Common.{length}
use Rattle.script.specs.Answers.{orders}
use Rattle.script.specs.Lines.{lines_of}
use Rattle.script.proofs.Lines.{Reading}
use Rattle.script.proofs.reader.read.Given as goal

abbrev pub invariant-loop-before : goal.invariant-loop-before
invariant-loop-before l = Reading (lines_of l.text) (orders l.out) (length l.yielded)
