-- What a command asks of the channel that it names. Assumes nothing.
use Rattle.std.specs.Prelude.{◌≡◌, ℕ, ◌<◌, true, false, List, length, ◌≢◌, slice_index_or}
use Rattle.client_channel.specs.Kept.{Kept, fresh}
use Rattle.client.specs.View.{View}
use Rattle.client.specs.Stand.{busy}

-- the channel with that number is held there
pub record IsAt (t : ℕ) (ks : List Kept) (i : ℕ) : Type 0 where
  pub within : i < length ks
  pub number : (slice_index_or ks i (fresh 0)).number ≡ t

-- none with that number is held
abbrev pub IsNowhere : ℕ → List Kept → Type 0
IsNowhere t ks = (i : ℕ) (d : Kept) → i < length ks → (slice_index_or ks i d).number ≢ t

-- it is held there, and input may be entered
pub record MayEnter (t : ℕ) (v : View) (i : ℕ) : Type 0 where
  pub idle : busy v ≡ false
  pub up : v.up ≡ true
  pub place : IsAt t v.kepts i
  pub open_yet : (slice_index_or v.kepts i (fresh 0)).eof ≡ false
