-- What a way stands for, and what sealing and opening do. Assumes nothing.
use Rattle.std.specs.Prelude.{◌≡◌, ℕ, ◌+◌, ◌^◌, ◌<◌, ◌≤◌, List, ◌∷◌, ◌++◌, length, take, drop, Some, None, Ok, Err, Option, Result}
use Rattle.hmac.specs.Calls.{Takes}
use Rattle.wire.specs.declared.fault.Fault.{Fault}
use Rattle.wire.specs.declared.fault.Fault.TheVariants.{Length, Tag, Malformed}
use Rattle.seal.specs.Frames.{Whole, Fits, frame, largest, opened, tag_mark, way_key}
use Rattle.seal.specs.declared.secret.Secret.{Secret}
use Rattle.seal.specs.declared.way.Way.{Way}
use Rattle.seal.specs.declared.unsealed.Unsealed.{Unsealed}
use Rattle.seal.specs.declared.unsealed.Unsealed.TheVariants.{TooLong, NoRoom, Spent}

-- the number of the next message; past the last there is none
abbrev pub next_of : Option ℕ → ℕ
next_of (Some n) = n
next_of None = 2 ^ 64

-- the way is that of s, and n messages of it are sealed or opened
pub record Stands (w : Way) (s : Secret) (n : ℕ) : Type 0 where
  pub key : w.key ≡ way_key s
  pub mac : Takes w.mac s.key (tag_mark s.direction ∷ (s.client ++ s.server))
  pub next : next_of w.next ≡ n
  pub nonces : (length s.client ≡ 32) × (length s.server ≡ 32)

-- what holds whatever the way stands for
abbrev pub WhereStands : Way → (Secret → ℕ → Type 0) → Type 0
WhereStands w P = (s : Secret) (n : ℕ) → Stands w s n → P s n

-- sealing what stands behind the first two bytes of a buffer: the message takes the place of the buffer's front, and its number is used;
-- or nothing is changed
abbrev pub Seals : Way → (size : ℕ) → (old : List ℕ) → Result ℕ Unsealed → Way → (new : List ℕ) → Type 0
Seals w size old (Ok m) v new =
    (m ≡ size + 18) × (m ≤ length old) × (size ≤ largest) × WhereStands w (λ s n. (n < 2 ^ 64) × (new ≡ frame s n (take size (drop 2 old)) ++ drop m old) × Stands v s (n + 1))
Seals w size old (Err TooLong) v new = (largest < size) × (v ≡ w) × (new ≡ old)
Seals w size old (Err NoRoom) v new = (size ≤ largest) × (length old < size + 18) × (v ≡ w) × (new ≡ old)
Seals w size old (Err Spent) v new = (size ≤ largest) × (size + 18 ≤ length old) × (next_of w.next ≡ 2 ^ 64) × (v ≡ w) × (new ≡ old)

-- opening a message in place: its inside stands behind the length, and its number is used; or nothing is changed
abbrev pub Opens : Way → (old : List ℕ) → Result ℕ Fault → Way → (new : List ℕ) → Type 0
Opens w old (Ok m) v new =
    Whole old × (m + 18 ≡ length old) × WhereStands w (λ s n. Fits s n old × (new ≡ take 2 old ++ (opened s n old ++ drop (2 + m) old)) × Stands v s (n + 1))
Opens w old (Err Length) v new = (Whole old → ⊥) × (v ≡ w) × (new ≡ old)
Opens w old (Err Tag) v new = Whole old × (v ≡ w) × (new ≡ old) × WhereStands w (λ s n. Fits s n old → ⊥)
Opens w old (Err Malformed) v new = ⊥
