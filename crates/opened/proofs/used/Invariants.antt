use Rattle.std.proofs.Common.{◌≡◌, ℕ, ◌<◌}
use Rattle.blocks.specs.Sets.{has}
use Rattle.opened.specs.Opened.{held, has_in, any}
use Rattle.opened.proofs.used.Given as goal

abbrev pub invariant-loop-i : goal.invariant-loop-i
invariant-loop-i g l = (b : ℕ) → b < 2048 → has l.all.bits b ≡ any (λ (k : ℕ). has_in (held (g.D.Disk.meaning.block l.disk) k) b) l.i
