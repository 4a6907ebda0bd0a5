use Rattle.std.proofs.Common.{length, drop, vec_items, ◌∙◌, ap, inl, inr, arith}
use Rattle.ring.proofs.Parts.{Onward, moved}
use Rattle.ring.proofs.Ring.take.Goals as goal
use Rattle.ring.proofs.Ring.take.Goals.{then-count-to_end, else-count-to_end}

pub returns-clause-left : goal.returns-clause-left
returns-clause-left g c =
    let m = c.self.inside.memory in
    let i = c.self.invariant in
    let ml = m.ok.0 in
    let n = c.min-count.ensures in
    let o : Onward c.self.inside.head c.min-count.result (length (vec_items m)) c.if-count-to_end.self =
    elim c.if-count-to_end.branch [ then-count-to_end b ↦ inl (omega (arith, b.if-count-to_end.true), b.self-is) | else-count-to_end b ↦ inr (omega (arith, b.if-count-to_end.false), omega (arith, b.self-is, b.if-count-to_end.false)) ] in
    moved c.self.inside.head c.self.inside.len c.min-count.result c.if-count-to_end.self (vec_items m) (omega (arith, i)) (omega (arith, i)) (omega arith) o ∙ ap (λ q. drop c.min-count.result q) c.self.view_is
