-- The programs of commands, and what a command's program does turn by turn. Assumes nothing.
use Rattle.std.specs.Prelude.{ℕ, Bool, List, [], Some, None, Option}
use Rattle.std.specs.BTreeMap.{get}
use Rattle.std.specs.Ordering.{nat_cmp}
use Rattle.model.specs.Messages.{Does, Programs}
use Rattle.bytecode.specs.declared.instruction.Instruction.{Instruction}
use Rattle.vm.specs.declared.machine.Machine.{Machine}
use Rattle.bytecode.specs.declared.program.Program.{Program}
use Rattle.vm.specs.declared.table.Table.{Table}
use Rattle.vm.specs.declared.running.Running.{Running}
use Rattle.bytecode.specs.Reading.{instructions_of}
use Rattle.vm.specs.Turn.{fresh, runs}
use Rattle.vm.specs.Ends.{asks_in, resumed}

-- the commands that have a program, each beside it
abbrev pub listed_of : Table → List (ℕ × Program)
listed_of t = t.programs.entries

abbrev pub program_of : Table → ℕ → Option Program
program_of t k = get nat_cmp t.programs k

-- a command that is not listed has no instructions
abbrev pub code_from : Option Program → List Instruction
code_from None = []
code_from (Some p) = instructions_of p

abbrev pub code_of : Table → ℕ → List Instruction
code_of t k = code_from (program_of t k)

-- A command's program as the server runs it: it stands at the instruction that ended its last turn, or at the last that the turn could have.
abbrev pub running : ℕ → Machine → Running
running k m = record { command = k; machine = m }

abbrev pub first_of : Table → ℕ → Running
first_of t k = running k (runs 9999 (code_of t k) fresh)

abbrev pub does_of : Table → Running → Does
does_of t s = asks_in (code_of t s.command) s.machine

abbrev pub next_of : Table → Running → List ℕ → Bool → Running
next_of t s bytes eof = running s.command (resumed (code_of t s.command) bytes eof s.machine)

-- the programs of the model that a table's are: none changes the table
abbrev pub programs : Programs Running Table
programs = record { first = first_of; does = does_of; next = next_of; after = λ t s bytes eof. t; release = λ t s. t }
