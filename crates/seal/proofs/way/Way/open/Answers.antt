use Rattle.std.proofs.Common.{◌≡◌, ℕ, ◌+◌, ◌-◌, ◌^◌, ◌<◌, length, Some, refl, ap, ◌∙◌, arith, rules}
use borrow.Rule.Slice.PartMut.{put_mid}
use Rattle.seal.specs.Frames.{Whole, body_of, tag}
use Rattle.seal.proofs.Sealing.{advanced, number_is, opened-at}
use Rattle.seal.proofs.way.Way.open.Goals as goal

pub returns : goal.returns
returns c =
    let w = c.args.self.now in
    let f = c.args.frame.now in
    let number = c.in_ok-number.number in
    let size = c.in_ok-size.size in
    let b : number < 2 ^ 64 = search rules in
    let k = 2 + size - 2 in
    let i : Whole f × (size + 18 ≡ length f) = search rules in
    let a : w.next ≡ Some number = search rules in (
      i.0,
      i.1,
      λ s n h.
          let e : number ≡ n = number_is w s n number h a in (
            (omega arith, (c.fits.ensures s n h).0 (search rules) ∙ ap (λ (v : ℕ). tag s v (body_of f)) e),
            opened-at s n number size k f (put_mid 2 k f c.turn.new.text) c.turn.new.text e i.1 (omega arith) (c.turn.ensures s n h) refl,
            advanced w _ s n number h a refl refl c.after-self.ensures,
          ),
    )
