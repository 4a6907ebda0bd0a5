use Rattle.std.proofs.Common.{vec_items, arith}
use Rattle.ring.proofs.Held.{count-held}
use Rattle.ring.proofs.Ring.room.Goals as goal

pub returns : goal.returns
returns g c =
    let m = c.self.inside.memory.ok.0 in
    let n = count-held c.self.inside.head c.self.inside.len (vec_items c.self.inside.memory) c.args.self.now c.self.view_is (omega (arith, c.self.invariant)) in
    omega (arith, c.self.invariant)
