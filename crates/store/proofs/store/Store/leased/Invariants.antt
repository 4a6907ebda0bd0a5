use Rattle.std.proofs.Common.{◌≡◌, ℕ, ◌<◌}
use Rattle.blocks.specs.Sets.{has}
use Rattle.opened.specs.Opened.{any}
use Rattle.store.specs.Leases.{lease_has, lease}
use Rattle.store.proofs.store.Store.leased.Given as goal

abbrev pub invariant-loop-place : goal.invariant-loop-place
invariant-loop-place g l = (b : ℕ) → b < 2048 → has l.all.bits b ≡ any (λ (k : ℕ). lease_has (lease l.self.leases k) b) l.place-index
