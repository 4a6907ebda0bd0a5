use Rattle.std.proofs.Common.{◌≡◌, ℕ, ◌+◌, ◌-◌, ◌^◌, ◌<◌, ◌≤◌, ◌++◌, length, take, drop, Some, refl, ap, ◌∙◌, arith, rules}
use borrow.Rule.Slice.PartMut.{put_mid}
use Rattle.wire.specs.Codes.{inside_of}
use Rattle.seal.specs.Frames.{frame}
use Rattle.seal.proofs.Sealing.{advanced, inside-written, length_part, number_is, rest-written, size-within}
use Rattle.seal.proofs.way.Way.send.Goals as goal

pub returns : goal.returns
returns g c =
    let old = c.args.out.now in
    let x = inside_of g.M.Codec.code c.args.message.now in
    let k = length old - 16 - 2 in
    let lo : 18 ≤ length old = search rules in
    let w = c.in_ok-size.ensures in
    let size = c.in_ok-size.size in
    let number = c.in_ok-number.number in
    let a : c.args.self.now.next ≡ Some number = search rules in
    let e1 : size ≡ length x = w.1 in
    let lp : length (take k (drop 2 old)) ≡ length old - 18 = length_part old lo in
    let ls : size ≤ length (take k (drop 2 old)) = size-within size (take k (drop 2 old)) c.write.new.out x e1 w.2 c.write.auto.out in
    let mid = put_mid 2 k old c.write.new.out in
    let ei : take size (drop 2 mid) ≡ x = inside-written k size old mid c.write.new.out x lo ls e1 w.2 refl in
    let er : drop (size + 18) mid ≡ drop (size + 18) old = rest-written k size old mid c.write.new.out x lo ls e1 w.2 refl in
    let b : number < 2 ^ 64 = search rules in (
      w.0,
      ap (λ (v : ℕ). v + 18) e1,
      omega arith,
      λ s n h.
          let e : number ≡ n = number_is c.args.self.now s n number h a in (
            omega arith,
            c.seal_as.ensures s n h ∙ (λ i. frame s (e i) (ei i) ++ er i),
            advanced c.args.self.now _ s n number h a refl refl c.after-self.ensures,
          ),
    )
