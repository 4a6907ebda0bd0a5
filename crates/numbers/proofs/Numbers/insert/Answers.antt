use Rattle.std.proofs.Common.{◌≡◌, ℕ, Bool, true, false, cond, ◌||◌, eqb, List, length, vec_items, refl, ap, ◌∙◌, arith}
use Rattle.std.proofs.lemmas.List.{with_items_is}
use Rattle.bits.specs.Bits as bits
use Rattle.bits.proofs.Member.{has-with, length-with}
use Rattle.numbers.specs.Has.{has}
use Rattle.numbers.proofs.Numbers.insert.Goals as goal

or_if : (a b : Bool) → (a || b) ≡ cond a true b
or_if true b = refl
or_if false b = refl

pub returns : goal.returns
unfolding has
returns c n =
    let k : ℕ = c.args.number in
    let b = c.args.self.now.bytes in
    let f = c.ranges.number.fits in
    let e : c.insert.new.bytes ≡ bits.with (vec_items b) k = c.insert.ensures ∙ ap (λ (ys : List ℕ). bits.with ys k) c.as_mut_slice.ensures.value in
    let l : length c.insert.new.bytes ≡ length (vec_items b) = ap length e ∙ length-with (vec_items b) k in
    ap (λ (ys : List ℕ). bits.has ys n) (with_items_is b c.insert.new.bytes (omega (arith, b.ok.0)) ∙ e)
    ∙ has-with (vec_items b) k n (omega (arith, b.ok.0, c.args.self.now.ok))
    ∙ or_if (eqb n k) (bits.has (vec_items b) n)
