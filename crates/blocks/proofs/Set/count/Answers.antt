use Rattle.std.proofs.Common.{ℕ, Bool, sym, ◌∙◌, arith}
use Rattle.blocks.specs.Sets.{has}
use Rattle.blocks.proofs.Member.{tally-zero, tally-yes, tally-no, tally-most}
use Rattle.blocks.proofs.Set.count.Goals as goal
use Rattle.blocks.proofs.Set.count.Goals.{then-has, else-has}

pub loop-k-init : goal.loop-k-init
loop-k-init c = sym (tally-zero _)

pub overflow_add-n : goal.overflow_add-n
overflow_add-n c = omega (arith, tally-most (has c.args.self.now.bits) c.loop-k.k)

pub loop-k-preserved : goal.loop-k-preserved
loop-k-preserved c =
    let p : ℕ → Bool = has c.args.self.now.bits in
    let k : ℕ = c.loop-k.k in
    elim c.if-has.branch [
      | then-has w ↦ omega (arith, w.n-is, tally-yes p k (sym c.has.ensures ∙ w.if-has.true))
      | else-has w ↦ omega (arith, w.n-is, tally-no p k (sym c.has.ensures ∙ w.if-has.false))
    ]
