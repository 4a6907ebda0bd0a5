use Rattle.std.proofs.Common.{◌≡◌, ℕ, ◌+◌, ◌-◌, length, take, refl, ap, arith, rules}
use borrow.Rule.Slice.PartMut.{put_mid}
use Rattle.seal.proofs.Sealing.{sealed-is}
use Rattle.seal.proofs.way.Way.seal_as.Goals as goal

pub returns : goal.returns
returns c = λ s n h.
    let k = 2 + c.args.size - 2 in
    let mid = put_mid 2 k c.put.new.out c.turn.new.text in
    let z : 2 + c.args.size - 0 ≡ 2 + c.args.size = omega arith in
    let l : length c.tag-tag.result ≡ 32 = search rules in
    sealed-is s c.args.number c.args.size k c.args.buffer.now c.put.new.out mid c.put-2.new.out c.to_be_bytes.result c.turn.new.text (take (2 + c.args.size - 0) mid) c.tag-tag.result (take 16 c.tag-tag.result)
    c.to_be_bytes.ensures
    (omega arith)
    c.requires.1
    c.put.ensures
    (c.turn.ensures s n h)
    refl
    (ap (λ (v : ℕ). take v mid) z)
    (c.tag-tag.ensures s n h)
    refl
    l
    c.put-2.ensures
