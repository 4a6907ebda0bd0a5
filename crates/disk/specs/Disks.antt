-- Blocks of a disk, and what a write leaves of them, whole or torn. Assumes nothing.
use Rattle.std.specs.Prelude.{◌≡◌, ℕ, Bool, true, false, ◌⊎◌, List, None, ◌≢◌}
use Rattle.record.specs.Records.{decode}

-- what stands in each block
abbrev pub Blocks : Type 0
Blocks = ℕ → List ℕ

-- what a disk is: what stands in each block, whether it still takes writes, and the disk after a write
pub record Meaning (D : Type 0) : Type 0 where
  pub block : D → Blocks
  pub up : D → Bool
  pub wrote : D → ℕ → List ℕ → D

-- The one premise: a block in whose write the machine crashed has its old bytes, its new ones, or junk, in which no checksum fits, so that it holds no record.
abbrev pub Torn : (old new y : List ℕ) → Type 0
Torn old new y = (y ≡ old) ⊎ ((y ≡ new) ⊎ (decode y ≡ None))

-- a block that was written: the new bytes if the disk is up then, else torn
abbrev pub Written : Bool → (old new y : List ℕ) → Type 0
Written true old new y = y ≡ new
Written false old new y = Torn old new y

-- the blocks f before and g after a write of x to the block b; whether the disk is up then
pub record Wrote (f : Blocks) (b : ℕ) (x : List ℕ) (up : Bool) (g : Blocks) : Type 0 where
  pub here : Written up (f b) x (g b)
  pub others : (a : ℕ) → (a ≢ b) → g a ≡ f a
