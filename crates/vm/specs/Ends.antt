-- The instructions that end a turn: what they ask for, and what they do once that was done. Assumes nothing.
use Rattle.std.specs.Prelude.{ℕ, zero, suc, ◌+◌, ◌%◌, Bool, if◌then◌else◌, ◌&&◌, List, [], ◌∷◌, ◌++◌, length, Some, None, Option, nat_le, slice_index, slice_set}
use Rattle.std.specs.List.{slice_get}
use Rattle.model.specs.Messages.{Does, Reads, Writes, Ends, GoesOn}
use Rattle.vm.specs.declared.machine.Machine.{Machine}
use Rattle.bytecode.specs.declared.instruction.Instruction.{Instruction}
use Rattle.bytecode.specs.declared.instruction.Instruction.TheVariants.{Const, Move, Add, Compare, Jump, JumpLess, JumpEqual, Load, Store, Read, Write, End, GoOn}
use Rattle.vm.specs.Step.{get, put, onward, execute}
use Rattle.vm.specs.Turn.{runs}

-- n bytes of memory from an address on, and memory with the first n of some bytes from an address on: addresses count modulo 256
unfoldable pub bytes_from : (at n : ℕ) → (memory : List ℕ) → List ℕ
bytes_from at zero memory = []
bytes_from at (suc n) memory = bytes_from at n memory ++ (slice_index memory ((at + n) % 256) ∷ [])

unfoldable pub bytes_to : (at n : ℕ) → (bytes memory : List ℕ) → List ℕ
bytes_to at zero bytes memory = memory
bytes_to at (suc n) bytes memory = slice_set (bytes_to at n bytes memory) ((at + n) % 256) (slice_index bytes n)

abbrev pub with_memory : List ℕ → Machine → Machine
with_memory memory m = record m { memory = memory }

abbrev pub filled : ℕ → List ℕ → Machine → Machine
filled at bytes m = with_memory (bytes_to at (length bytes) bytes m.memory) m

-- how many bytes may be read or written at once
abbrev pub is_length : ℕ → Bool
is_length n = nat_le 1 n && nat_le n 1024

-- what an instruction asks for: what cannot be ends the program with 255; one that does not end a turn is its last, and the program only goes on
abbrev pub asks : Instruction → Machine → Does
asks (Const a n) m = GoesOn
asks (Move a b) m = GoesOn
asks (Add a b c) m = GoesOn
asks (Compare a b) m = GoesOn
asks (Jump to) m = GoesOn
asks (JumpLess to) m = GoesOn
asks (JumpEqual to) m = GoesOn
asks (Load a b) m = GoesOn
asks (Store a b) m = GoesOn
asks (Read a b c) m = if is_length (get a m) then Reads (get a m) else Ends 255
asks (Write a b) m = if is_length (get a m) then Writes (bytes_from (get b m) (get a m) m.memory) else Ends 255
asks (End a) m = if nat_le (get a m) 255 then Ends (get a m) else Ends 255
asks GoOn m = GoesOn

-- the machine once that was done, with the bytes that came and whether no more will come
abbrev pub complete : Instruction → (bytes : List ℕ) (eof : Bool) → Machine → Machine
complete (Const a n) bytes eof m = execute (Const a n) m
complete (Move a b) bytes eof m = execute (Move a b) m
complete (Add a b c) bytes eof m = execute (Add a b c) m
complete (Compare a b) bytes eof m = execute (Compare a b) m
complete (Jump to) bytes eof m = execute (Jump to) m
complete (JumpLess to) bytes eof m = execute (JumpLess to) m
complete (JumpEqual to) bytes eof m = execute (JumpEqual to) m
complete (Load a b) bytes eof m = execute (Load a b) m
complete (Store a b) bytes eof m = execute (Store a b) m
complete (Read a b c) bytes eof m = onward (put c (if eof then 1 else 0) (put a (length bytes % 0x1_0000_0000) (filled (get b m) bytes m)))
complete (Write a b) bytes eof m = onward m
complete (End a) bytes eof m = m
complete GoOn bytes eof m = onward m

-- where the machine stands; a place outside the row cannot be
abbrev pub asks_at : Option Instruction → Machine → Does
asks_at None m = Ends 255
asks_at (Some i) m = asks i m

abbrev pub complete_at : Option Instruction → (bytes : List ℕ) (eof : Bool) → Machine → Machine
complete_at None bytes eof m = m
complete_at (Some i) bytes eof m = complete i bytes eof m

-- what a program asks for between turns, and its machine after the next turn: that instruction, then up to 9,999 more to the one at which the turn ends
abbrev pub asks_in : List Instruction → Machine → Does
asks_in c m = asks_at (slice_get c m.counter) m

abbrev pub resumed : List Instruction → (bytes : List ℕ) (eof : Bool) → Machine → Machine
resumed c bytes eof m = runs 9999 c (complete_at (slice_get c m.counter) bytes eof m)
