-- One more command in a table, or why there is none. Assumes nothing.
use Rattle.std.specs.Prelude.{◌≡◌, ℕ, ◌<◌, if◌then◌else◌, length, IsSome, Some, None, Ok, Err, Result, ◌==◌}
use Rattle.bytecode.specs.declared.program.Program.{Program}
use Rattle.vm.specs.declared.table.Table.{Table}
use Rattle.vm.specs.declared.table.add.NotAdded.{NotAdded}
use Rattle.vm.specs.declared.table.add.NotAdded.TheVariants.{Taken, Full, NoMemory}
use Rattle.vm.specs.Commands.{listed_of, program_of}

abbrev pub Why : Table → ℕ → NotAdded → Type 0
Why t command Taken = IsSome (program_of t command)
Why t command Full = (program_of t command ≡ None) × (length (listed_of t) ≡ 64)
Why t command NoMemory = (program_of t command ≡ None) × (length (listed_of t) < 64)

-- this command has that program now, and every other what it had; a refusal leaves all as it was
abbrev pub Added : Table → ℕ → Program → Result (Unit {0}) NotAdded → Table → Type 0
Added t command p (Ok _) u = (program_of t command ≡ None) × (length (listed_of t) < 64) × ((k : ℕ) → program_of u k ≡ (if command == k then Some p else program_of t k))
Added t command p (Err e) u = Why t command e × (listed_of u ≡ listed_of t)
