-- What holds of turns, of what programs ask for, and of addresses. Each is a type; a proof of it is the theorem. Assumes nothing.
use Rattle.std.specs.Prelude.{◌≡◌, ℕ, zero, suc, ◌+◌, ◌%◌, ◌<◌, ◌≤◌, Bool, true, false, ◌&&◌, ◌⊎◌, List, length, ◌≢◌, slice_index}
use Rattle.model.specs.Messages.{Does, Reads, Writes, Ends, GoesOn}
use Rattle.bytecode.specs.declared.instruction.Instruction.{Instruction}
use Rattle.vm.specs.declared.machine.Machine.{Machine}
use Rattle.vm.specs.declared.running.Running.{Running}
use Rattle.vm.specs.declared.table.Table.{Table}
use Rattle.vm.specs.Step.{execute}
use Rattle.vm.specs.Turn.{fresh, stops, stepped, runs}
use Rattle.vm.specs.Ends.{bytes_from, bytes_to, resumed}
use Rattle.vm.specs.Commands.{does_of}

-- the machine after exactly n instructions
unfoldable pub steps : ℕ → List Instruction → Machine → Machine
steps zero c m = m
steps (suc n) c m = steps n c (stepped c m)

-- A turn from m that ends at w: instructions one by one, none of which ends the turn before w's; with that one they are at most 10,000, and only the 10,000th need not be one that ends a turn.
pub record Turn (c : List Instruction) (m w : Machine) : Type 0 where
  pub before : ℕ
  pub few : before < 10000
  pub leads : steps before c m ≡ w
  pub none : (k : ℕ) → k < before → stops c (steps k c m) ≡ false
  pub last : (stops c w ≡ true) ⊎ (suc before ≡ 10000)

abbrev pub TurnIsShort : Type 0
TurnIsShort = (c : List Instruction) (m : Machine) → Turn c m (runs 9999 c m)

-- A program never asks for what cannot be: where it would, it ends with 255.
abbrev pub Possible : Does → Type 0
Possible (Reads k) = (1 ≤ k) × (k ≤ 1024)
Possible (Writes bytes) = (1 ≤ length bytes) × (length bytes ≤ 1024)
Possible (Ends status) = status ≤ 255
Possible GoesOn = Unit {0}

abbrev pub AsksWhatCanBe : Type 0
AsksWhatCanBe = (t : Table) (s : Running) → Possible (does_of t s)

-- Addresses go round: the k-th byte of a write stands at the address modulo 256, and so does the k-th of a read, unless a later one came there.
abbrev pub WritesRound : Type 0
WritesRound = (at n : ℕ) (memory : List ℕ) → (length (bytes_from at n memory) ≡ n) × ((k : ℕ) → k < n → slice_index (bytes_from at n memory) k ≡ slice_index memory ((at + k) % 256))

abbrev pub ReadsRound : Type 0
ReadsRound =
    (at n : ℕ) (bytes memory : List ℕ) → length memory ≡ 256 →
    ((k : ℕ) → k < n → ((j : ℕ) → k < j → j < n → (at + j) % 256 ≢ (at + k) % 256) → slice_index (bytes_to at n bytes memory) ((at + k) % 256) ≡ slice_index bytes k) ×
    ((a : ℕ) → ((j : ℕ) → j < n → (at + j) % 256 ≢ a) → slice_index (bytes_to at n bytes memory) a ≡ slice_index memory a)

-- Of the two flags at most one is set: in a fresh machine, and where it was so, after an instruction, after a run, and after a turn, whatever it read.
abbrev pub HasOneFlag : Machine → Type 0
HasOneFlag m = (m.less && m.equal) ≡ false

abbrev pub OneFlag : Type 0
OneFlag =
    HasOneFlag fresh ×
    ((i : Instruction) (m : Machine) → HasOneFlag m → HasOneFlag (execute i m)) ×
    ((n : ℕ) (c : List Instruction) (m : Machine) → HasOneFlag m → HasOneFlag (runs n c m)) ×
    ((c : List Instruction) (bytes : List ℕ) (eof : Bool) (m : Machine) → HasOneFlag m → HasOneFlag (resumed c bytes eof m))
