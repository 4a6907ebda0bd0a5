use Rattle.std.proofs.Common.{◌≡◌, ◌+◌, ◌*◌, Bool, false, cond, sym, ap, ◌∙◌, arith}
use Rattle.record.specs.Records.{decode}
use Rattle.opened.specs.Opened.{first_holds, other_slot}
use Rattle.opened.proofs.other_slot.Goals as goal

pub returns-then-first_holds : goal.returns-then-first_holds
unfolding other_slot
returns-then-first_holds g c =
    let a = c.decode-a.ensures ∙ ap decode c.read.ensures in
    let b = c.decode-b.ensures ∙ ap decode c.read-2.ensures in
    let e = sym c.if-first_holds.true ∙ c.first_holds.ensures ∙ (λ i. first_holds (a i) (b i)) in
    ap (λ (v : Bool). 2 * c.args.i + cond v 1 0) e

pub returns-else-first_holds : goal.returns-else-first_holds
unfolding other_slot
returns-else-first_holds g c =
    let a = c.decode-a.ensures ∙ ap decode c.read.ensures in
    let b = c.decode-b.ensures ∙ ap decode c.read-2.ensures in
    let e = sym c.if-first_holds.false ∙ c.first_holds.ensures ∙ (λ i. first_holds (a i) (b i)) in
    let z : 2 * c.args.i ≡ 2 * c.args.i + cond false 1 0 = omega arith in
    z ∙ ap (λ (v : Bool). 2 * c.args.i + cond v 1 0) e
