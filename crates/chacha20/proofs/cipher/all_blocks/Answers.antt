use Rattle.std.proofs.Common.{◌≡◌, ℕ, ◌+◌, ◌*◌, ◌/◌, length, subst, arith}
use Rattle.chacha20.proofs.Texts.{XoredTo, none-is, part_more, whole-is}
use Rattle.chacha20.proofs.cipher.all_blocks.Goals as goal

pub loop-i-init : goal.loop-i-init
loop-i-init c = none-is c.args.text.now c.args.s

pub loop-i-preserved : goal.loop-i-preserved
loop-i-preserved c =
    part_more c.args.s c.advanced.result (4 * c.loop-i.i) (256 * c.loop-i.i) _ (256 * (c.loop-i.i + 1)) (omega arith) (omega arith)
    (omega arith)
    c.advanced.ensures
    c.loop-i.invariant
    c.whole.ensures

pub returns : goal.returns
returns c =
    let t = c.args.text.now in
    let n : ℕ = length t / 256 in
    let e : c.loop-i.i ≡ n = omega arith in
    whole-is c.args.s (length t) (omega arith)
    (part_more c.args.s c.advanced-2.result (4 * n) (256 * n) _ (length t) (omega arith) (omega arith) (omega arith)
    c.advanced-2.ensures
    (subst (λ k. XoredTo t c.args.s (256 * k) c.loop-i.text) e c.loop-i.invariant)
    c.last_blocks.ensures)
