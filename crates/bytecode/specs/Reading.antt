-- What is read from bytes: a program that has these bytes, or the first place at which no instruction stands. Assumes nothing.
use Rattle.std.specs.Prelude.{◌≡◌, ℕ, ◌<◌, ◌≤◌, List, ◌++◌, length, take, vec_items, ◌≢◌}
use Rattle.bytecode.specs.declared.instruction.Instruction.{Instruction}
use Rattle.bytecode.specs.declared.program.Program.{Program}
use Rattle.bytecode.specs.declared.unreadable.Unreadable.{Unreadable}
use Rattle.bytecode.specs.declared.unreadable.Unreadable.TheVariants.{NoInstruction, CutShort, TooMany}
use Rattle.bytecode.specs.declared.unreadable.ReadError.{ReadError}
use Rattle.bytecode.specs.declared.unreadable.ReadError.TheVariants as error
use Rattle.bytecode.specs.Encoding.{encoded, bytes_of}

abbrev pub instructions_of : Program → List Instruction
instructions_of p = vec_items p.instructions

abbrev pub place_of : Unreadable → ℕ
place_of (NoInstruction place) = place
place_of (CutShort place) = place
place_of TooMany = 1024

-- what follows the instructions before the place
abbrev pub Rest : Unreadable → List ℕ → Type 0
Rest (NoInstruction place) rest = (place < 1024) × (8 ≤ length rest) × ((i : Instruction) → encoded i ≢ take 8 rest)
Rest (CutShort place) rest = (place < 1024) × (0 < length rest) × (length rest < 8)
Rest TooMany rest = 0 < length rest

-- instructions stand before the place, and none at it
pub record Stopped (bytes : List ℕ) (e : Unreadable) : Type 0 where
  pub before : List Instruction
  pub rest : List ℕ
  pub count : length before ≡ place_of e
  pub whole : bytes_of before ++ rest ≡ bytes
  pub here : Rest e rest

abbrev pub Unread : List ℕ → ReadError → Type 0
Unread bytes (error.Unreadable e) = Stopped bytes e
Unread bytes error.NoMemory = Unit {0}
