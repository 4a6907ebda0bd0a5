use Rattle.std.proofs.Common.{◌+◌, IfOk, Ok, Err, sym, subst, ap, ◌∙◌, rules, tests, arith}
use Rattle.std.specs.declared.alloc.AllocError.{AllocError}
use Rattle.std.specs.List.{AllByRecursion}
use Rattle.std.proofs.lemmas.List.{length_push}
use Rattle.std.proofs.lemmas.Iterator.Consumers.{YieldsList-turn, YieldsList-end}
use Rattle.std.proofs.lemmas.Iterator.Adapters.{fact_from_extend, YieldsList-from_once}
use Rattle.std.proofs.lemmas.List.FromFn.{length-enumerate_from}
use Rattle.script.specs.Good.{Good}
use Rattle.script.specs.Lines.{lines_of}
use Rattle.script.proofs.Sound.{reads-good}
use Rattle.script.proofs.Lines.{numbered-lines, reading-more, reading-bad, reading-all, placed, extended, script-broken}
use Rattle.script.proofs.reader.read.Goals as goal

pub returns-in_err-numbered-clause-says : goal.returns-in_err-numbered-clause-says
returns-in_err-numbered-clause-says c =
    let t = placed (lines_of c.args.text.now) _ _ _ (YieldsList-turn (numbered-lines _ c.args.text.now _ _ _ c.split.ensures.rest c.split.ensures.done c.split.ensures.closure (λ x b q k. search (rules, tests)) c.enumerate-before-items.ensures.source c.enumerate-before-items.ensures.count c.into_iter-before-iterator.ensures.into_iter_gives) c.loop-before.yielded _ c.loop-before.yielded_by _ _ (c.in-Some.before, c.in-Some.part) c.in-Some.is c.next.ensures.steps) in
    script-broken _ _ _ _ _ c.from_residual.ensures.1 c.in_err-numbered.ensures (λ s. reading-bad _ _ _ c.loop-before.invariant _ t.0 t.2 s ∙ ap (λ n. Err (n + 1)) (sym t.1))

pub loop-before-preserved : goal.loop-before-preserved
loop-before-preserved c =
    let t = placed (lines_of c.args.text.now) _ _ _ (YieldsList-turn (numbered-lines _ c.args.text.now _ _ _ c.split.ensures.rest c.split.ensures.done c.split.ensures.closure (λ x b q k. search (rules, tests)) c.enumerate-before-items.ensures.source c.enumerate-before-items.ensures.count c.into_iter-before-iterator.ensures.into_iter_gives) c.loop-before.yielded _ c.loop-before.yielded_by _ _ (c.in-Some.before, c.in-Some.part) c.in-Some.is c.next.ensures.steps) in
    reading-more _ _ _ c.loop-before.invariant _ _ _ _ t.0 t.2 c.in_ok-numbered.ensures
    (fact_from_extend {E = AllocError} (λ x. x) (Ok tt) c.in_ok-extend.ensures.ran (λ it b. YieldsList-from_once c.in_ok-numbered.field-0 b.0) (λ xs e h. extended _ _ _ xs e h.0))
    (length_push _ _)

pub returns : goal.returns
returns c =
    let t = YieldsList-end (numbered-lines _ c.args.text.now _ _ _ c.split.ensures.rest c.split.ensures.done c.split.ensures.closure (λ x b q k. search (rules, tests)) c.enumerate-before-items.ensures.source c.enumerate-before-items.ensures.count c.into_iter-before-iterator.ensures.into_iter_gives) c.loop-before.yielded _ c.loop-before.yielded_by _ _ c.in-None.is c.next.ensures.steps in
    let all = reading-all _ _ _ c.loop-before.invariant (omega (arith, t.1, length-enumerate_from 0 (lines_of c.args.text.now))) in
    record { says = all; good = subst (λ r. IfOk r (AllByRecursion Good)) all (reads-good c.args.text.now) }
