-- What a reader and a receiver stand for, and what their calls do. Assumes nothing.
use Rattle.std.specs.Prelude.{◌≡◌, ℕ, ◌+◌, ◌-◌, ◌<◌, ◌≤◌, List, ◌++◌, length, take, Some, None, Ok, Err, Option, Result}
use Rattle.seal.specs.Frames.{Whole, largest, size_at}
use Rattle.stream.specs.declared.reader.Reader.{Reader}
use Rattle.stream.specs.declared.too_long.TooLong.{TooLong}

abbrev pub held_of : Reader → List ℕ
held_of r = take r.n r.buffer

-- bytes that hold no whole message, and none that is too long
pub record Short (h : List ℕ) : Type 0 where
  pub fits : 2 ≤ length h → (size_at h ≤ largest) × (length h < size_at h + 18)

-- more bytes until a message is whole, or known to be too long
abbrev pub Gathers : (old piece : List ℕ) → Result (Option ℕ) TooLong → (new : List ℕ) → Type 0
Gathers old piece (Ok None) new = (new ≡ old ++ piece) × Short new
Gathers old piece (Ok (Some used)) new = (0 < used) × (used ≤ length piece) × (new ≡ old ++ take used piece) × Whole new × Short (old ++ take (used - 1) piece)
Gathers old piece (Err long) new = (0 < long.used) × (long.used ≤ length piece) × (new ≡ old ++ take long.used piece) × (length new ≡ 2) × (largest < size_at new)

abbrev pub used_of : Result (Option ℕ) TooLong → ℕ
used_of (Ok None) = 0
used_of (Ok (Some used)) = used
used_of (Err long) = long.used
