use Rattle.std.proofs.Common.{◌≡◌, arith}
use Rattle.blocks.specs.Sets.{has, tally}
use Rattle.blocks.proofs.Member.{tally-alike, tally-most}
use Rattle.store.specs.Leases.{used}
use Rattle.store.proofs.store.Store.free.Goals as goal

pub overflow_sub-result : goal.overflow_sub-result
overflow_sub-result g c = omega (arith, c.count.ensures, tally-most (has c.used.result.bits) 2048)

pub returns : goal.returns
returns g c =
    let e : tally (has c.used.result.bits) 2048 ≡ tally (used (g.D.Disk.meaning.block c.args.self.now.disk) c.args.self.now.leases) 2048 =
    tally-alike (has c.used.result.bits) (used (g.D.Disk.meaning.block c.args.self.now.disk) c.args.self.now.leases) 2048 c.used.ensures in
    omega (arith, c.count.ensures, tally-most (has c.used.result.bits) 2048)
