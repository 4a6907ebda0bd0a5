-- What a write into a lent buffer leaves there. Assumes nothing.
use Rattle.std.specs.Prelude.{◌≡◌, ℕ, ◌<◌, List, ◌++◌, length, drop, Ok, Err, Result}
use Rattle.wire.specs.declared.unwritten.Unwritten.{Unwritten}
use Rattle.wire.specs.declared.unwritten.Unwritten.TheVariants.{Unsendable, NoRoom}

-- the bytes stand at the front of what the buffer held, or nothing is changed: what cannot be sent is refused, and what finds no room
abbrev pub Wrote : (good : Type 0) → (bytes old : List ℕ) → Result ℕ Unwritten → (new : List ℕ) → Type 0
Wrote good bytes old (Ok n) new = good × (n ≡ length bytes) × (new ≡ bytes ++ drop n old)
Wrote good bytes old (Err Unsendable) new = (good → ⊥) × (new ≡ old)
Wrote good bytes old (Err NoRoom) new = good × (length old < length bytes) × (new ≡ old)
