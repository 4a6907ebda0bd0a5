use Rattle.std.proofs.Common.{None, sym, arith}
use Rattle.std.proofs.lemmas.List.{set_past}
use Rattle.store.proofs.Tables.{sound-release}
use Rattle.store.proofs.store.Store.release.Goals as goal

pub returns-then-t-lt-PLACES-clause-sound : goal.returns-then-t-lt-PLACES-clause-sound
returns-then-t-lt-PLACES-clause-sound g c ok = sound-release (g.D.Disk.meaning.block c.args.self.now.disk) c.args.self.now.leases c.args.t ok

pub returns-else-t-lt-PLACES-clause-leases : goal.returns-else-t-lt-PLACES-clause-leases
returns-else-t-lt-PLACES-clause-leases g c = sym (set_past c.args.self.now.leases c.args.t None (omega arith))
