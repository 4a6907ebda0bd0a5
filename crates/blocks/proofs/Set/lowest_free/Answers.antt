use Rattle.std.proofs.Common.{◌≡◌, ℕ, ◌-◌, ◌<◌, ◌≤◌, min, Bool, cond, leb, eqb, List, length, fold, filter, take, Some, None, Option, sym, refl, ap, ◌∙◌, ⊎_elim, arith, rules, tests}
use Rattle.std.specs.Bool.{then_some}
use Rattle.std.specs.List.{range_with_len}
use Rattle.std.proofs.lemmas.Bool.{le-leb, lt-leb, cases_lt, eq-eqb, ne_eqb}
use Rattle.std.proofs.lemmas.List.{map-id, length-take}
use Rattle.std.proofs.lemmas.Iterator.{YieldsList-from_range, YieldsList-from_take}
use Rattle.std.proofs.lemmas.Iterator.Consumers.{YieldsList-from_filter, YieldsList-at, YieldsList-turn, YieldsList-end}
use Rattle.blocks.specs.declared.Set.{Set}
use Rattle.blocks.specs.Sets.{has, with, none, tally, is_free, lowest}
use Rattle.blocks.proofs.Member.{tally-zero, lowest-zero}
use Rattle.blocks.proofs.Chains.{tally-filter, lowest-fold, below-end}
use Rattle.blocks.proofs.Set.lowest_free.Goals as goal

pub insert-requires : goal.insert-requires
insert-requires c =
    let p : ℕ → Bool = is_free (has c.args.self.now.bits) in
    let w = YieldsList-turn (YieldsList-at c.into_iter-k-iterator.ensures.into_iter_gives (YieldsList-from_take c.args.many (YieldsList-at c.take-k-items.ensures.source (YieldsList-from_filter _ p (YieldsList-at c.filter.ensures.source (YieldsList-from_range 0 2048 2048 refl refl)) c.filter.ensures.closure (λ x b q k. search (rules, tests)))) c.take-k-items.ensures.count)) c.loop-k.yielded _ c.loop-k.yielded_by _ _ c.in-Some.k c.in-Some.is c.next.ensures.steps in
    omega (arith, w.0, w.1, below-end p 2048 0 2048 c.args.many refl (length c.loop-k.yielded) c.in-Some.k w.0)

-- of all that is free the first are taken, and counted
module _ (u : ℕ → Bool) (m : ℕ) (xs : List ℕ) (s : Set) (n : ℕ) (all : xs ≡ take m (filter (is_free u) (range_with_len 0 2048))) (b : s.bits ≡ fold with none xs) (l : n ≡ length xs) where
  abbrev answer : Bool → Option Set
  answer v = cond v (Some (record { bits = lowest u m 2048 })) None

  z : tally (is_free u) 0 ≡ 0
  z = tally-zero (is_free u)

  least : n ≡ min m (tally (is_free u) 2048)
  least = omega (arith, l, ap (λ (ys : List ℕ). length ys) all, length-take m (filter (is_free u) (range_with_len 0 2048)), tally-filter (is_free u) 2048 0, z)

  bits : s.bits ≡ lowest u m 2048
  bits =
      b ∙ ap (fold with none) all ∙ ap (λ (r : List ℕ). fold with r (take m (filter (is_free u) (range_with_len 0 2048)))) (sym (lowest-zero u m))
      ∙ ap (λ (k : ℕ). fold with (lowest u m 0) (take k (filter (is_free u) (range_with_len 0 2048)))) (let q : m ≡ m - tally (is_free u) 0 = omega (arith, z) in q)
      ∙ lowest-fold u m 2048 0

  pub answered : then_some (eqb n m) s ≡ answer (leb m (tally (is_free u) 2048))
  answered =
      ⊎_elim
      (λ (h : tally (is_free u) 2048 < m).
      ap (λ (v : Bool). then_some v s) (ne_eqb n m (omega (arith, least))) ∙ sym (ap answer (lt-leb m (tally (is_free u) 2048) h)))
      (λ (h : m ≤ tally (is_free u) 2048).
      ap (λ (v : Bool). then_some v s) (eq-eqb n m (omega (arith, least))) ∙ ap (λ (x : List ℕ). Some (record { bits = x })) bits ∙ sym (ap answer (le-leb m (tally (is_free u) 2048) h)))
      (cases_lt (tally (is_free u) 2048) m)

pub returns : goal.returns
returns c =
    let u : ℕ → Bool = has c.args.self.now.bits in
    let w = YieldsList-end (YieldsList-at c.into_iter-k-iterator.ensures.into_iter_gives (YieldsList-from_take c.args.many (YieldsList-at c.take-k-items.ensures.source (YieldsList-from_filter _ (is_free u) (YieldsList-at c.filter.ensures.source (YieldsList-from_range 0 2048 2048 refl refl)) c.filter.ensures.closure (λ x b q k. search (rules, tests)))) c.take-k-items.ensures.count)) c.loop-k.yielded _ c.loop-k.yielded_by _ _ c.in-None.is c.next.ensures.steps in
    c.then_some.ensures ∙ answered u c.args.many c.loop-k.yielded c.loop-k.taken c.loop-k.count (sym (map-id c.loop-k.yielded) ∙ w.0) c.loop-k.invariant.0 c.loop-k.invariant.1
