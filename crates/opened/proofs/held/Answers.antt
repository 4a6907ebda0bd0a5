use Rattle.std.proofs.Common.{sym, ap, ◌∙◌}
use Rattle.record.specs.Records.{decode}
use Rattle.opened.specs.Opened.{holding, held}
use Rattle.opened.proofs.Slots.{picks-first, picks-second}
use Rattle.opened.proofs.held.Goals as goal

pub returns-then-first_holds : goal.returns-then-first_holds
unfolding held
returns-then-first_holds g c =
    let a = c.decode-a.ensures ∙ ap decode c.read.ensures in
    let b = c.decode-b.ensures ∙ ap decode c.read-2.ensures in
    sym (picks-first _ _ (sym c.first_holds.ensures ∙ c.if-first_holds.true)) ∙ (λ i. holding (a i) (b i))

pub returns-else-first_holds : goal.returns-else-first_holds
unfolding held
returns-else-first_holds g c =
    let a = c.decode-a.ensures ∙ ap decode c.read.ensures in
    let b = c.decode-b.ensures ∙ ap decode c.read-2.ensures in
    sym (picks-second _ _ (sym c.first_holds.ensures ∙ c.if-first_holds.false)) ∙ (λ i. holding (a i) (b i))
