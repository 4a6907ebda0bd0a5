use Rattle.token.specs.Words.{listed}
use Rattle.token.proofs.Scan.{Scanned}
use Rattle.token.proofs.words.words.Given as goal

abbrev pub invariant-loop-i : goal.invariant-loop-i
invariant-loop-i l = Scanned l.line (listed l.out) l.mode l.start l.i
