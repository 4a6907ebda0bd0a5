use Rattle.std.proofs.Common.{◌≡◌, ◌-◌}
use Rattle.vm.specs.Turn.{runs}
use Rattle.vm.proofs.machine.Machine.run.Given as goal

-- what is left leads where the whole does
abbrev pub invariant-loop-done : goal.invariant-loop-done
invariant-loop-done l = runs (10000 - l._done) l.code.instructions.now l.self ≡ runs 9999 l.code.instructions.now l.initial.self
