use Rattle.std.proofs.Common.{Some, sym, ap, ◌∙◌, arith, true-eqb}
use Rattle.token.specs.Number.{within}
use Rattle.token.proofs.Digits.{digits_more, digits-bad, digits-all, too_large, number-some, number-none, inside, below}
use Rattle.token.proofs.number.number.Goals as goal

pub returns-then-is_empty-clause-value : goal.returns-then-is_empty-clause-value
returns-then-is_empty-clause-value g c = sym (number-none _ _ _ (true-eqb _ 0 c.if-is_empty.ensures))

pub loop-b-init : goal.loop-b-init
loop-b-init g c = (omega arith, number-some _ _ _ c.if-is_empty.ensures)

pub returns-then-not-is_ascii_digit-clause-value : goal.returns-then-not-is_ascii_digit-clause-value
returns-then-not-is_ascii_digit-clause-value g c =
    sym (c.loop-b.invariant.1 ∙ ap (within c.args.low c.args.high) (digits-bad _ _ _ c.loop-b-test.true (sym c.if-not-is_ascii_digit.ensures.value)))

pub returns-then-value-high-clause-value : goal.returns-then-value-high-clause-value
returns-then-value-high-clause-value g c =
    sym (c.loop-b.invariant.1 ∙ ap (within c.args.low c.args.high) (digits_more _ _ _ c.loop-b-test.true (sym c.if-not-is_ascii_digit.ensures.value)) ∙ too_large _ _ _ _ c.if-value-high.true)

pub loop-b-preserved : goal.loop-b-preserved
loop-b-preserved g c =
    (c.if-value-high.false, c.loop-b.invariant.1 ∙ ap (within c.args.low c.args.high) (digits_more _ _ _ c.loop-b-test.true (sym c.if-not-is_ascii_digit.ensures.value)))

pub returns-then-value-low-clause-value : goal.returns-then-value-low-clause-value
returns-then-value-low-clause-value g c =
    sym (c.loop-b.invariant.1 ∙ ap (within c.args.low c.args.high) (digits-all _ _ _ c.loop-b-test.false) ∙ below _ _ _ c.if-value-low.true)

pub returns-clause-value : goal.returns-clause-value
returns-clause-value g c =
    ap Some c.new.ensures
    ∙ sym (c.loop-b.invariant.1 ∙ ap (within c.args.low c.args.high) (digits-all _ _ _ c.loop-b-test.false) ∙ inside _ _ _ c.if-value-low.false c.loop-b.invariant.0)
