use Rattle.std.proofs.Common.{◌≡◌, take}
use Rattle.vm.specs.Ends.{bytes_from}
use Rattle.vm.proofs.machine.Machine.bytes_from.Given as goal

abbrev pub invariant-loop-i : goal.invariant-loop-i
invariant-loop-i l = take l.i l.front ≡ bytes_from l.address l.i l.self.memory
