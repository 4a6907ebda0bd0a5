-- A disk that crashes at a chosen write. Assumes nothing.
use Rattle.std.specs.Prelude.{ℕ, zero, suc, false, cond, List, replicate}
use Rattle.disk.specs.Disks.{Meaning}
use Rattle.disk.specs.declared.failing.Failing.{Failing}
use Rattle.disk.specs.declared.failing.Leaves.{Leaves}
use Rattle.disk.specs.declared.failing.Leaves.TheVariants.{Old, New, Zeros}

module _ {D : Type 0} (m : Meaning D) where
  -- the disk beneath after the crash
  abbrev pub torn : Leaves → D → ℕ → List ℕ → D
  torn Old d b x = d
  torn New d b x = m.wrote d b x
  torn Zeros d b x = m.wrote d b (replicate 512 0)

  abbrev pub failed_at : ℕ → Failing D → ℕ → List ℕ → Failing D
  failed_at zero s b x = record { disk = torn s.leaves s.disk b x; left = 0; leaves = s.leaves; up = false }
  failed_at (suc n) s b x = record { disk = m.wrote s.disk b x; left = n; leaves = s.leaves; up = m.up (m.wrote s.disk b x) }

  unfoldable pub failing_wrote : Failing D → ℕ → List ℕ → Failing D
  failing_wrote s b x = cond s.up (failed_at s.left s b x) s

  -- the disk that crashes, as a disk
  abbrev pub failing : Meaning (Failing D)
  failing = record { block = λ s. m.block s.disk; up = λ s. s.up; wrote = failing_wrote }
