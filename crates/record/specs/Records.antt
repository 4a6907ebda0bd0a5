-- A record as one block of 512 bytes: name (1 + 32), count (8), length (4), the file's blocks (256), zeros, and the SHA-256 of the first 480. Assumes nothing.
use Rattle.std.specs.Prelude.{◌≡◌, ℕ, ◌+◌, ◌*◌, ◌/◌, ◌^◌, ◌<◌, Bool, true, cond, ◌&&◌, List, ◌∷◌, ◌++◌, length, take, drop, replicate, Some, None, Option, ◌==◌, nat_le, slice_index}
use Rattle.model.specs.Files.{same}
use Rattle.sha256.specs.Message.{SHA256, Bytes32, Bytes64, Be32}
use Rattle.blocks.specs.Sets.{has, tally}
use Rattle.record.specs.Names.{name_of, is_name}
use Rattle.record.specs.declared.record.Record.{Record}

-- how many blocks so many bytes need
abbrev pub needed : ℕ → ℕ
needed size = (size + 511) / 512

-- a name that can be read, and as many blocks as its length needs
unfoldable pub makes_sense : Record → Bool
makes_sense r = nat_le r.name.size 32 && (is_name (name_of r.name) && tally (has r.blocks.bits) 2048 == needed r.size)

-- the first 480 bytes
unfoldable pub front : Record → List ℕ
front r = r.name.size ∷ (r.name.bytes ++ (Bytes64 r.count ++ (Bytes32 r.size ++ (r.blocks.bits ++ replicate 179 0))))

unfoldable pub encode : Record → List ℕ
encode r = front r ++ SHA256 (front r)

abbrev pub Be64 : List ℕ → ℕ → ℕ
Be64 b i =
    slice_index b i * 72057594037927936 + slice_index b (i + 1) * 281474976710656 + slice_index b (i + 2) * 1099511627776 + slice_index b (i + 3) * 4294967296
    + slice_index b (i + 4) * 16777216
    + slice_index b (i + 5) * 65536
    + slice_index b (i + 6) * 256
    + slice_index b (i + 7)

-- what stands where a record has its parts
unfoldable pub guess : List ℕ → Record
guess y =
    record {
      name = record { size = slice_index y 0; bytes = take 32 (drop 1 y) };
      count = Be64 y 33;
      size = Be32 y 41;
      blocks = record { bits = take 256 (drop 45 y) };
    }

abbrev pub chosen : Bool → Record → Option Record
chosen b r = cond b (Some r) None

-- the record that a block holds: what encodes to it, checksum and all, and makes sense
unfoldable pub decode : List ℕ → Option Record
decode y = chosen (makes_sense (guess y) && same (encode (guess y)) y) (guess y)

-- what is in a record fits its parts
pub record Whole (r : Record) : Type 0 where
  pub name : length r.name.bytes ≡ 32
  pub blocks : length r.blocks.bits ≡ 256
  pub count : r.count < 2 ^ 64
  pub size : r.size < 2 ^ 32

-- A block that a record was written to gives that record back, and whatever record a block gives is what stands there.
abbrev pub ReadsBack : Type 0
ReadsBack =
    ((r : Record) → Whole r → makes_sense r ≡ true → decode (encode r) ≡ Some r) ×
    ((y : List ℕ) (r : Record) → decode y ≡ Some r → (encode r ≡ y) × (makes_sense r ≡ true))

-- A block of a fresh disk, all zeros, holds no record.
abbrev pub FreshHoldsNone : Type 0
FreshHoldsNone = decode (replicate 512 0) ≡ None
