-- One slot of a pair changed: which record holds then.
use Rattle.std.proofs.Common.{◌≡◌, ℕ, suc, ◌+◌, ◌*◌, ◌<◌, ◌≤◌, Bool, true, false, cond, ltb, Some, None, Option, sym, refl, ap, ◌∙◌, subst, ⊎_elim, arith}
use Rattle.std.proofs.lemmas.Bool.{lt-ltb, le-ltb, not-true, not-false, false≢true, true≢false, cases_eq}
use Rattle.record.specs.Records.{decode}
use Rattle.record.specs.declared.record.Record.{Record}
use Rattle.disk.specs.Disks.{Blocks}
use Rattle.opened.specs.Opened.{holding, first_holds, held, other_slot, count_in}

hold-first : (a b : Option Record) → first_holds a b ≡ true → holding a None ≡ holding a b
hold-first None b e = absurd (false≢true e)
hold-first (Some x) None e = refl
hold-first (Some x) (Some y) e = sym (ap (λ (v : Bool). cond v (Some y) (Some x)) (not-true (ltb x.count y.count) e))

hold-second : (a b : Option Record) → first_holds a b ≡ false → holding None b ≡ holding a b
hold-second None b e = refl
hold-second (Some x) None e = absurd (true≢false e)
hold-second (Some x) (Some y) e = sym (ap (λ (v : Bool). cond v (Some y) (Some x)) (not-false (ltb x.count y.count) e))

pub picks-first : (a b : Option Record) → first_holds a b ≡ true → holding a b ≡ a
picks-first None b e = absurd (false≢true e)
picks-first (Some x) None e = refl
picks-first (Some x) (Some y) e = ap (λ (v : Bool). cond v (Some y) (Some x)) (not-true (ltb x.count y.count) e)

pub picks-second : (a b : Option Record) → first_holds a b ≡ false → holding a b ≡ b
picks-second None b e = refl
picks-second (Some x) None e = absurd (true≢false e)
picks-second (Some x) (Some y) e = ap (λ (v : Bool). cond v (Some y) (Some x)) (not-false (ltb x.count y.count) e)

over_first : (x r : Record) → r.count ≡ suc x.count → holding (Some x) (Some r) ≡ Some r
over_first x r e = ap (λ (v : Bool). cond v (Some r) (Some x)) (lt-ltb x.count r.count (omega arith))

over-second : (y r : Record) → r.count ≡ suc y.count → holding (Some r) (Some y) ≡ Some r
over-second y r e = ap (λ (v : Bool). cond v (Some y) (Some r)) (le-ltb r.count y.count (omega arith))

new-second : (a b : Option Record) (r : Record) → first_holds a b ≡ true → r.count ≡ suc (count_in (holding a b)) → holding a (Some r) ≡ Some r
new-second None b r e q = absurd (false≢true e)
new-second (Some x) None r e q = over_first x r q
new-second (Some x) (Some y) r e q =
    over_first x r (q ∙ ap (λ (v : Bool). suc (count_in (cond v (Some y) (Some x)))) (not-true (ltb x.count y.count) e))

new-first : (a b : Option Record) (r : Record) → first_holds a b ≡ false → r.count ≡ suc (count_in (holding a b)) → holding (Some r) b ≡ Some r
new-first None None r e q = refl
new-first None (Some y) r e q = over-second y r q
new-first (Some x) None r e q = refl
new-first (Some x) (Some y) r e q =
    over-second y r (q ∙ ap (λ (v : Bool). suc (count_in (cond v (Some y) (Some x)))) (not-false (ltb x.count y.count) e))

-- all blocks but one are the same
abbrev pub But : Blocks → ℕ → Blocks → Type 0
But f s g = (a : ℕ) → (a ≡ s → ⊥) → g a ≡ f a

pub held-is : (f g : Blocks) (i : ℕ) → g (2 * i) ≡ f (2 * i) → g (2 * i + 1) ≡ f (2 * i + 1) → held g i ≡ held f i
unfolding held
held-is f g i a b = λ k. holding (decode (a k)) (decode (b k))

bit-most : (b : Bool) → cond b 1 0 < 2
bit-most true = omega arith
bit-most false = omega arith

apart : (i j c s : ℕ) → c < 2 → s ≡ 2 * i + c → (j ≡ i → ⊥) → (2 * j ≡ s → ⊥) × (2 * j + 1 ≡ s → ⊥)
apart i j c s h e n = (λ q. n (omega arith), λ q. n (omega arith))

pub slot-bounds : (f : Blocks) (i : ℕ) → (2 * i ≤ other_slot f i) × (other_slot f i ≤ 2 * i + 1)
unfolding other_slot
slot-bounds f i = let b : cond (first_holds (decode (f (2 * i))) (decode (f (2 * i + 1)))) 1 0 < 2 = bit-most _ in (omega arith, omega arith)

pub held-elsewhere : (f g : Blocks) (i j : ℕ) → But f (other_slot f i) g → (j ≡ i → ⊥) → held g j ≡ held f j
unfolding other_slot
held-elsewhere f g i j o n =
    let p = apart i j (cond (first_holds (decode (f (2 * i))) (decode (f (2 * i + 1)))) 1 0) (other_slot f i) (bit-most _) refl n in
    held-is f g j (o (2 * j) p.0) (o (2 * j + 1) p.1)

-- what a change of the slot that does not hold leaves of its pair
abbrev Slot : Blocks → ℕ → Bool → ℕ
Slot f i b = 2 * i + cond b 1 0

slot_is : (f : Blocks) (i : ℕ) (b : Bool) → first_holds (decode (f (2 * i))) (decode (f (2 * i + 1))) ≡ b → other_slot f i ≡ Slot f i b
unfolding other_slot
slot_is f i b e = ap (λ (v : Bool). 2 * i + cond v 1 0) e

module _ (f g : Blocks) (i : ℕ) where
  kept_step : (b : Bool) → first_holds (decode (f (2 * i))) (decode (f (2 * i + 1))) ≡ b → But f (Slot f i b) g → decode (g (Slot f i b)) ≡ None → held g i ≡ held f i
  unfolding held
  kept_step true e o n =
      let a : g (2 * i) ≡ f (2 * i) = o (2 * i) (λ q. omega arith) in
      (λ k. holding (decode (a k)) (n k)) ∙ hold-first (decode (f (2 * i))) (decode (f (2 * i + 1))) e
  kept_step false e o n =
      let z : decode (g (2 * i)) ≡ None = ap (λ (m : ℕ). decode (g m)) (omega arith) ∙ n in
      let b : g (2 * i + 1) ≡ f (2 * i + 1) = o (2 * i + 1) (λ q. omega arith) in
      (λ k. holding (z k) (decode (b k))) ∙ hold-second (decode (f (2 * i))) (decode (f (2 * i + 1))) e

  new-step : (r : Record) (b : Bool) → first_holds (decode (f (2 * i))) (decode (f (2 * i + 1))) ≡ b → But f (Slot f i b) g → decode (g (Slot f i b)) ≡ Some r
      → r.count ≡ suc (count_in (held f i)) → held g i ≡ Some r
  unfolding held
  new-step r true e o n q =
      let a : g (2 * i) ≡ f (2 * i) = o (2 * i) (λ q. omega arith) in
      (λ k. holding (decode (a k)) (n k)) ∙ new-second (decode (f (2 * i))) (decode (f (2 * i + 1))) r e q
  new-step r false e o n q =
      let z : decode (g (2 * i)) ≡ Some r = ap (λ (m : ℕ). decode (g m)) (omega arith) ∙ n in
      let b : g (2 * i + 1) ≡ f (2 * i + 1) = o (2 * i + 1) (λ q. omega arith) in
      (λ k. holding (z k) (decode (b k))) ∙ new-first (decode (f (2 * i))) (decode (f (2 * i + 1))) r e q

  pub held-junk : But f (other_slot f i) g → decode (g (other_slot f i)) ≡ None → held g i ≡ held f i
  held-junk o n =
      let e : other_slot f i ≡ Slot f i (first_holds (decode (f (2 * i))) (decode (f (2 * i + 1)))) = slot_is f i _ refl in
      kept_step (first_holds (decode (f (2 * i))) (decode (f (2 * i + 1)))) refl (subst (λ (s : ℕ). But f s g) e o) (subst (λ (s : ℕ). decode (g s) ≡ None) e n)

  pub held_new : (r : Record) → But f (other_slot f i) g → decode (g (other_slot f i)) ≡ Some r → r.count ≡ suc (count_in (held f i)) → held g i ≡ Some r
  held_new r o n q =
      let e : other_slot f i ≡ Slot f i (first_holds (decode (f (2 * i))) (decode (f (2 * i + 1)))) = slot_is f i _ refl in
      new-step r (first_holds (decode (f (2 * i))) (decode (f (2 * i + 1)))) refl (subst (λ (s : ℕ). But f s g) e o) (subst (λ (s : ℕ). decode (g s) ≡ Some r) e n) q

  pub held-old : But f (other_slot f i) g → g (other_slot f i) ≡ f (other_slot f i) → held g i ≡ held f i
  held-old o e =
      let all : (a : ℕ) → g a ≡ f a = λ a. ⊎_elim (λ q. ap g q ∙ e ∙ ap f (sym q)) (o a) (cases_eq a (other_slot f i)) in
      held-is f g i (all (2 * i)) (all (2 * i + 1))
