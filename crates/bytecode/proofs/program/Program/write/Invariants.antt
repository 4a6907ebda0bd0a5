use Rattle.std.proofs.Common.{◌≡◌, take, vec_items}
use Rattle.bytecode.specs.Encoding.{bytes_of}
use Rattle.bytecode.proofs.program.Program.write.Given as goal

abbrev pub invariant-loop-instruction : goal.invariant-loop-instruction
invariant-loop-instruction l = vec_items l.bytes ≡ bytes_of (take l.instruction-index l.instruction-items)
