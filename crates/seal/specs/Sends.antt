-- What sending a message leaves in a buffer. Assumes nothing.
use Rattle.std.specs.Prelude.{◌≡◌, ℕ, ◌+◌, ◌^◌, ◌<◌, ◌≤◌, List, ◌++◌, length, drop, Ok, Err, Result}
use Rattle.wire.specs.Codes.{Code, IsSendable, inside_of}
use Rattle.seal.specs.Frames.{frame}
use Rattle.seal.specs.Ways.{Stands, WhereStands, next_of}
use Rattle.seal.specs.declared.way.Way.{Way}
use Rattle.seal.specs.declared.unsent.Unsent.{Unsent}
use Rattle.seal.specs.declared.unsent.Unsent.TheVariants.{Unsendable, NoRoom, Spent}

module _ {M : Type 0} (code : Code M) where
  -- the message, sealed as the next number, takes the place of the buffer's front; or nothing is changed
  abbrev pub Sends : Way → M → (old : List ℕ) → Result ℕ Unsent → Way → (new : List ℕ) → Type 0
  Sends w m old (Ok k) v new =
      IsSendable code m × (k ≡ length (inside_of code m) + 18) × (k ≤ length old) × WhereStands w (λ s n. (n < 2 ^ 64) × (new ≡ frame s n (inside_of code m) ++ drop k old) × Stands v s (n + 1))
  Sends w m old (Err Unsendable) v new = (IsSendable code m → ⊥) × (v ≡ w) × (new ≡ old)
  Sends w m old (Err NoRoom) v new = (length old < length (inside_of code m) + 18) × (v ≡ w) × (new ≡ old)
  Sends w m old (Err Spent) v new = (next_of w.next ≡ 2 ^ 64) × (v ≡ w) × (new ≡ old)
