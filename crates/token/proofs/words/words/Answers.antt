use Rattle.std.proofs.Common.{sym, ap, ◌∙◌, arith, rules}
use Rattle.token.specs.Words.{listed}
use Rattle.token.proofs.Scan.{scan-byte, scan-word, scan-rest, scan-open, scan-all}
use Rattle.token.proofs.words.words.Goals as goal
use Rattle.token.proofs.words.words.Goals.{then-ends_word+in_ok-add+else-b-eq35, else-ends_word}

pub returns-then-b-eq35 : goal.returns-then-b-eq35
returns-then-b-eq35 c = scan-rest _ _ _ _ _ c.loop-i.invariant _ c.loop-i-test.true (sym c.if-ends_word.ensures) c.if-b-eq35.true c.in_ok-add.ensures

pub loop-i-preserved : goal.loop-i-preserved
loop-i-preserved c =
    elim c.if-ends_word.branch [
      | then-ends_word+in_ok-add+else-b-eq35 w ↦
          scan-word _ _ _ _ _ c.loop-i.invariant _ _ _ c.loop-i-test.true (sym w.if-ends_word.ensures) w.if-b-eq35.false (ap listed w.out-is ∙ w.in_ok-add.ensures) w.mode-is w.start-is
      | else-ends_word w ↦
          scan-byte _ _ _ _ _ c.loop-i.invariant _ _ _ c.loop-i-test.true (sym w.if-ends_word.ensures) (ap listed w.out-is) (w.mode-is ∙ w.after-mode.ensures) w.start-is
    ]

pub returns-then-ne : goal.returns-then-ne
returns-then-ne c = scan-open _ _ _ _ _ c.loop-i.invariant c.loop-i-test.false (search rules)

pub returns : goal.returns
returns c = scan-all _ _ _ _ _ c.loop-i.invariant _ (omega arith) (search rules) c.in_ok-add-2.ensures
