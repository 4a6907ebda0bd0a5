use Rattle.std.proofs.Common.{◌≡◌, ◌+◌, ◌++◌, length, drop, vec_items, ap, ◌∙◌, inl, inr, arith, take}
use Rattle.std.proofs.lemmas.List.{with_items_is}
use Rattle.ring.specs.Held.{turned}
use Rattle.ring.proofs.Held.{count-held}
use Rattle.ring.proofs.Parts.{Onward, appended}
use Rattle.ring.proofs.Ring.append.Goals as goal
use Rattle.ring.proofs.Ring.append.Goals.{then-self-to_end, else-self-to_end}

pub invariant_of-self : goal.invariant_of-self
invariant_of-self g c =
    let m = c.self.inside.memory.ok.0 in
    let i = c.self.invariant in
    let n = count-held c.self.inside.head c.self.inside.len (vec_items c.self.inside.memory) c.args.self.now c.self.view_is (omega (arith, i)) in
    (i.0, omega (arith, c.requires), i.2)

pub returns : goal.returns
returns g c =
    let m = c.self.inside.memory in
    let ys = c.write_from.new.memory in
    let i = c.self.invariant in
    let ml = m.ok.0 in
    let n = count-held c.self.inside.head c.self.inside.len (vec_items m) c.args.self.now c.self.view_is (omega (arith, i)) in
    let v = c.as_mut_slice.ensures.value in
    let k : length ys ≡ length c.as_mut_slice.result.now = c.write_from.auto.memory in
    let l = c.as_mut_slice.ensures.len in
    let e : length ys ≡ length (vec_items m) = omega arith in
    let w : turned c.if-self-to_end.tail ys ≡ c.args.more.now ++ drop (length c.args.more.now) (turned c.if-self-to_end.tail (vec_items m)) = let z = c.write_from.ensures in cc in
    let o : Onward c.self.inside.head c.self.inside.len (length (vec_items m)) c.if-self-to_end.tail =
    elim c.if-self-to_end.branch [ then-self-to_end b ↦ inl (omega (arith, b.if-self-to_end.true), b.tail-is) | else-self-to_end b ↦ inr (omega (arith, b.if-self-to_end.false), omega (arith, b.tail-is, b.if-self-to_end.false)) ] in
    let z = appended c.self.inside.head c.self.inside.len c.if-self-to_end.tail (vec_items m) ys c.args.more.now (omega (arith, i)) (omega (arith, c.requires)) e o w in
    let r = with_items_is m ys (omega arith) in
    ap (λ q. take (c.self.inside.len + length c.args.more.now) (turned c.self.inside.head q)) r ∙ z ∙ ap (λ q. q ++ c.args.more.now) c.self.view_is
