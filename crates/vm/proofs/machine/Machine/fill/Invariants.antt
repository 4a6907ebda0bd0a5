use Rattle.std.proofs.Common.{◌≡◌}
use Rattle.vm.specs.Ends.{bytes_to, with_memory}
use Rattle.vm.proofs.machine.Machine.fill.Given as goal

abbrev pub invariant-loop-i : goal.invariant-loop-i
invariant-loop-i l = l.self ≡ with_memory (bytes_to l.address l.i l.bytes l.initial.self.memory) l.initial.self
