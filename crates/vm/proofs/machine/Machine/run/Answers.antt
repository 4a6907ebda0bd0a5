use Rattle.std.proofs.Common.{sym, arith}
use Rattle.vm.proofs.Runs.{ran-all, ran_out, ran-stop, ran-more}
use Rattle.vm.proofs.machine.Machine.run.Goals as goal

pub returns-in_default : goal.returns-in_default
returns-in_default c = ran_out _ _ _ _ (sym c.in_default.ensures.value) c.loop-done.invariant

pub returns-then-not-step : goal.returns-then-not-step
returns-then-not-step c = ran-stop _ _ _ _ _ (sym c.in-Some.ensures.value) _ _ c.step.ensures.after c.step.ensures.goes c.loop-done.invariant c.if-not-step.true

pub loop-done-preserved : goal.loop-done-preserved
loop-done-preserved c = ran-more _ _ _ _ _ (sym c.in-Some.ensures.value) _ _ c.step.ensures.after c.step.ensures.goes c.loop-done.invariant _ (omega arith) c.if-not-step.false

pub returns : goal.returns
returns c = ran-all _ _ _ _ (omega arith) c.loop-done.invariant
