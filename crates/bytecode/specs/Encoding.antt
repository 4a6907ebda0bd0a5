-- The bytes of an instruction, and of a program. Assumes nothing.
use Rattle.std.specs.Prelude.{ℕ, ◌/◌, ◌%◌, if◌then◌else◌, List, [], ◌∷◌, ◌==◌}
use Rattle.std.specs.List.{flat_map}
use Rattle.std.proofs.Common.{mod-lt, arith}
use Rattle.bytecode.specs.declared.register.Register.{Register}
use Rattle.bytecode.specs.declared.instruction.Instruction.{Instruction}
use Rattle.bytecode.specs.declared.instruction.Instruction.TheVariants.{Const, Move, Add, Compare, Jump, JumpLess, JumpEqual, Load, Store, Read, Write, End, GoOn}

-- which instruction, three registers, and a number with its high byte first
abbrev pub row : (opcode a b c n : ℕ) → List ℕ
row opcode a b c n = opcode ∷ a ∷ b ∷ c ∷ (n / 16777216) ∷ (n / 65536 % 256) ∷ (n / 256 % 256) ∷ (n % 256) ∷ []

-- what an instruction does not use is 0
abbrev pub encoded : Instruction → List ℕ
encoded (Const a n) = row 1 a.number 0 0 n
encoded (Move a b) = row 2 a.number b.number 0 0
encoded (Add a b c) = row 3 a.number b.number c.number 0
encoded (Compare a b) = row 4 a.number b.number 0 0
encoded (Jump to) = row 5 0 0 0 to
encoded (JumpLess to) = row 6 0 0 0 to
encoded (JumpEqual to) = row 7 0 0 0 to
encoded (Load a b) = row 8 a.number b.number 0 0
encoded (Store a b) = row 9 a.number b.number 0 0
encoded (Read a b c) = row 10 a.number b.number c.number 0
encoded (Write a b) = row 11 a.number b.number 0 0
encoded (End a) = row 12 a.number 0 0 0
encoded GoOn = row 13 0 0 0 0

abbrev pub bytes_of : List Instruction → List ℕ
bytes_of is = flat_map encoded is

-- the one instruction that a row may be, by its opcode alone; its bytes are then compared with the row
abbrev pub low : ℕ → Register
low n = record { number = n % 16; ok = mod-lt n (omega arith) }

abbrev pub guessed : (opcode a b c n : ℕ) → Instruction
guessed opcode a b c n =
    if opcode == 1 then Const (low a) n else (if opcode == 2 then Move (low a) (low b) else (if opcode == 3 then Add (low a) (low b) (low c) else
    (if opcode == 4 then Compare (low a) (low b) else (if opcode == 5 then Jump n else (if opcode == 6 then JumpLess n else (if opcode == 7 then JumpEqual n else
    (if opcode == 8 then Load (low a) (low b) else (if opcode == 9 then Store (low a) (low b) else (if opcode == 10 then Read (low a) (low b) (low c) else
    (if opcode == 11 then Write (low a) (low b) else (if opcode == 12 then End (low a) else GoOn)))))))))))
