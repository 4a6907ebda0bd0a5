-- A turn of a program: its instructions one by one, up to the one that ends it. Assumes nothing.
use Rattle.std.specs.Prelude.{ℕ, zero, suc, Bool, true, false, if◌then◌else◌, List, replicate, Some, None, Option}
use Rattle.std.specs.List.{slice_get}
use Rattle.vm.specs.declared.machine.Machine.{Machine}
use Rattle.bytecode.specs.declared.instruction.Instruction.{Instruction}
use Rattle.vm.specs.Step.{execute, ends_turn}

-- all registers and bytes are 0, no comparison has found anything, and the first instruction comes next
abbrev pub fresh : Machine
fresh = record { registers = replicate 16 0; memory = replicate 256 0; counter = 0; less = false; equal = false }

-- at a place outside the row nothing can be done
abbrev pub stops_at : Option Instruction → Bool
stops_at None = true
stops_at (Some i) = ends_turn i

abbrev pub step_at : Option Instruction → Machine → Machine
step_at None m = m
step_at (Some i) m = execute i m

-- whether a turn ends where the machine stands, and the machine one instruction further
abbrev pub stops : List Instruction → Machine → Bool
stops c m = stops_at (slice_get c m.counter)

abbrev pub stepped : List Instruction → Machine → Machine
stepped c m = step_at (slice_get c m.counter) m

-- instruction by instruction until one ends the turn, at most n of them
unfoldable pub runs : ℕ → List Instruction → Machine → Machine
runs zero c m = m
runs (suc n) c m = if stops c m then m else runs n c (stepped c m)
