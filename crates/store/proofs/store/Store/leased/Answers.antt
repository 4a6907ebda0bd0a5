use Rattle.std.proofs.Common.{◌≡◌, ℕ, Bool, true, false, ◌||◌, List, Option, refl, sym, ap, ◌∙◌, arith}
use Rattle.blocks.specs.Sets.{has}
use Rattle.blocks.specs.declared.Set.{Set}
use Rattle.blocks.proofs.Member.{has-none}
use Rattle.opened.specs.Opened.{any}
use Rattle.opened.proofs.First.{any-more, any-zero}
use Rattle.store.specs.Leases.{lease_has, lease}
use Rattle.store.specs.declared.lease.Lease.{Lease}
use Rattle.store.proofs.store.Store.leased.Goals as goal
use Rattle.store.proofs.store.Store.leased.Goals.{in-Some, in_default}

or_false : (a : Bool) → a ≡ (a || false)
or_false true = refl
or_false false = refl

pub loop-place-init : goal.loop-place-init
loop-place-init g c b h =
    ap (λ (s : List ℕ). has s b) c.empty-all.ensures ∙ has-none 256 b ∙ sym (any-zero (λ (k : ℕ). lease_has (lease c.args.self.now.leases k) b))

pub loop-place-preserved : goal.loop-place-preserved
loop-place-preserved g c b h =
    let p : ℕ → Bool = λ k. lease_has (lease c.args.self.now.leases k) b in
    let step : has c.match-place.all.bits b ≡ (has c.loop-place.all.bits b || p c.loop-place.place-index) = elim c.match-place.branch [
      | in-Some w ↦
          ap (λ (s : Set). has s.bits b) w.all-is ∙ w.join.ensures b h ∙ ap (λ (s : Set). has c.loop-place.all.bits b || has s.bits b) w.blocks-in-Some.ensures
          ∙ ap (λ (o : Option Lease). has c.loop-place.all.bits b || lease_has o b) (sym w.in-Some.is)
      | in_default w ↦
          ap (λ (s : Set). has s.bits b) w.all-is ∙ or_false (has c.loop-place.all.bits b) ∙ ap (λ (o : Option Lease). has c.loop-place.all.bits b || lease_has o b) (sym w.in_default.is)
    ] in
    step ∙ ap (λ (v : Bool). v || p c.loop-place.place-index) (c.loop-place.invariant b h) ∙ sym (any-more p c.loop-place.place-index)

pub returns : goal.returns
returns g c b h =
    let p : ℕ → Bool = λ k. lease_has (lease c.args.self.now.leases k) b in
    c.loop-place.invariant b h ∙ ap (any p) (let e : c.loop-place.place-index ≡ 16 = omega arith in e)
