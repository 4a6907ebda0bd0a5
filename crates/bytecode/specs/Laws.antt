-- What holds of programs and their bytes. Each is a type; a proof of it is the theorem. Assumes nothing.
use Rattle.std.specs.Prelude.{◌≡◌, ℕ, ◌≤◌, List, length, ◌≢◌}
use Rattle.bytecode.specs.declared.instruction.Instruction.{Instruction}
use Rattle.bytecode.specs.declared.unreadable.Unreadable.{Unreadable}
use Rattle.bytecode.specs.Encoding.{bytes_of}
use Rattle.bytecode.specs.Reading.{Stopped}

-- No two programs have the same bytes, so what was written reads back as it was.
abbrev pub BytesTell : Type 0
BytesTell = (xs ys : List Instruction) → bytes_of xs ≡ bytes_of ys → xs ≡ ys

-- What is refused is no program: no row of at most 1,024 instructions has these bytes.
abbrev pub RefusedIsNone : Type 0
RefusedIsNone = (bytes : List ℕ) (e : Unreadable) → Stopped bytes e → (is : List Instruction) → length is ≤ 1024 → bytes_of is ≢ bytes
