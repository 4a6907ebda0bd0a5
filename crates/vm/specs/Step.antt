-- What each instruction does to the machine, line by line as docs/MACHINE.md has it. Assumes nothing.
use Rattle.std.specs.Prelude.{ℕ, ◌+◌, ◌%◌, Bool, true, false, if◌then◌else◌, ◌==◌, nat_lt, slice_index, slice_set}
use Rattle.bytecode.specs.declared.register.Register.{Register}
use Rattle.vm.specs.declared.machine.Machine.{Machine}
use Rattle.bytecode.specs.declared.instruction.Instruction.{Instruction}
use Rattle.bytecode.specs.declared.instruction.Instruction.TheVariants.{Const, Move, Add, Compare, Jump, JumpLess, JumpEqual, Load, Store, Read, Write, End, GoOn}

-- the value of a register, and a register's new value
abbrev pub get : Register → Machine → ℕ
get r m = slice_index m.registers r.number

abbrev pub put : Register → ℕ → Machine → Machine
put r v m = record m { registers = slice_set m.registers r.number v }

-- the byte at an address, which counts modulo 256, and a byte stored there
abbrev pub byte_at : ℕ → Machine → ℕ
byte_at at m = slice_index m.memory (at % 256)

abbrev pub stored : ℕ → ℕ → Machine → Machine
stored at b m = record m { memory = slice_set m.memory (at % 256) b }

-- what a comparison found
abbrev pub compared : ℕ → ℕ → Machine → Machine
compared x y m = record m { less = nat_lt x y; equal = (x == y) }

-- to a place, and to the instruction behind this one
abbrev pub jump : ℕ → Machine → Machine
jump to m = record m { counter = to }

abbrev pub onward : Machine → Machine
onward m = jump (m.counter + 1) m

abbrev pub jumped : Bool → ℕ → Machine → Machine
jumped b to m = if b then jump to m else onward m

-- the machine after an instruction; one that ends the turn leaves it standing there
abbrev pub execute : Instruction → Machine → Machine
execute (Const a n) m = onward (put a n m)
execute (Move a b) m = onward (put a (get b m) m)
execute (Add a b c) m = onward (put a ((get b m + get c m) % 0x1_0000_0000) m)
execute (Compare a b) m = onward (compared (get a m) (get b m) m)
execute (Jump to) m = jump to m
execute (JumpLess to) m = jumped m.less to m
execute (JumpEqual to) m = jumped m.equal to m
execute (Load a b) m = onward (put a (byte_at (get b m) m) m)
execute (Store a b) m = onward (stored (get b m) (get a m % 256) m)
execute (Read a b c) m = m
execute (Write a b) m = m
execute (End a) m = m
execute GoOn m = m

abbrev pub ends_turn : Instruction → Bool
ends_turn (Const a n) = false
ends_turn (Move a b) = false
ends_turn (Add a b c) = false
ends_turn (Compare a b) = false
ends_turn (Jump to) = false
ends_turn (JumpLess to) = false
ends_turn (JumpEqual to) = false
ends_turn (Load a b) = false
ends_turn (Store a b) = false
ends_turn (Read a b c) = true
ends_turn (Write a b) = true
ends_turn (End a) = true
ends_turn GoOn = true
