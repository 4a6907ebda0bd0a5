-- What is in a set after a change.
use Rattle.std.proofs.Common.{◌≡◌, ℕ, zero, suc, ◌+◌, ◌-◌, ◌<◌, ◌≤◌, min, Bool, true, false, cond, not, ◌&&◌, ◌||◌, eqb, ltb, ◌⊎◌, List, length, Some, None, sym, refl, ap, ◌∙◌, subst, inl, inr, ⊎_elim, add-one, arith}
use Rattle.std.proofs.lemmas.List.{length-replicate}
use Rattle.std.proofs.lemmas.Bool.{cases_order, eq-eqb, ne_eqb, eqb-true, both_ways, not-true, ltb-true, ltb-false, cases_Bool, lt-ltb, le-ltb}
use Rattle.std.proofs.lemmas.Bool.Decides.{nat_tests}
use Rattle.blocks.specs.Sets.{has, with, none, tally, first, is_free, lowest}
pub use Rattle.bits.proofs.Member.{has-with, has-union, length-with, has-none}

-- tests that agree below n
abbrev pub Alike : (ℕ → Bool) → (ℕ → Bool) → ℕ → Type 0
Alike p q n = (k : ℕ) → k < n → p k ≡ q k

pub alike-less : (p q : ℕ → Bool) (n : ℕ) → Alike p q (suc n) → Alike p q n
alike-less p q n h k l = h k (omega arith)

pub tally-alike : (p q : ℕ → Bool) (n : ℕ) → Alike p q n → tally p n ≡ tally q n
unfolding tally
tally-alike p q zero h = refl
tally-alike p q (suc n) h =
    ap (λ (m : ℕ). m + cond (p n) 1 0) (tally-alike p q n (alike-less p q n h)) ∙ ap (λ (b : Bool). tally q n + cond b 1 0) (h n (omega arith))

pub free-alike : (p q : ℕ → Bool) (n : ℕ) → Alike p q n → Alike (is_free p) (is_free q) n
free-alike p q n h k l = ap not (h k l)

pub lowest-alike : (p q : ℕ → Bool) (m n : ℕ) → Alike p q n → lowest p m n ≡ lowest q m n
unfolding lowest
lowest-alike p q m zero h = refl
lowest-alike p q m (suc n) h =
    let l : Alike p q n = alike-less p q n h in
    ap (λ (s : List ℕ). cond (is_free p n && ltb (tally (is_free p) n) m) (with s n) s) (lowest-alike p q m n l)
    ∙ ap (λ (b : Bool). cond (not b && ltb (tally (is_free p) n) m) (with (lowest q m n) n) (lowest q m n)) (h n (omega arith))
    ∙ ap (λ (t : ℕ). cond (is_free q n && ltb t m) (with (lowest q m n) n) (lowest q m n)) (tally-alike (is_free p) (is_free q) n (free-alike p q n l))

pub tally-most : (p : ℕ → Bool) (n : ℕ) → tally p n ≤ n
unfolding tally
tally-most p zero = omega arith
tally-most p (suc n) = let ih : tally p n ≤ n = tally-most p n in grind (arith, nat_tests)

-- one more number, if it is free and more are wanted
abbrev step : Bool → List ℕ → ℕ → List ℕ
step b s n = cond b (with s n) s

length-step : (b : Bool) (s : List ℕ) (n : ℕ) → length s ≡ 256 → length (step b s n) ≡ 256
length-step true s n e = length-with s n ∙ e
length-step false s n e = e

pub length-lowest : (u : ℕ → Bool) (m n : ℕ) → length (lowest u m n) ≡ 256
unfolding lowest
length-lowest u m zero = length-replicate {A = ℕ} 256 0
length-lowest u m (suc n) = length-step (is_free u n && ltb (tally (is_free u) n) m) (lowest u m n) n (length-lowest u m n)

-- all that it has is below n, and was not used
pub record Free (u : ℕ → Bool) (n b : ℕ) : Type 0 where
  pub unused : u b ≡ false
  pub below : b < n

weaken : (u : ℕ → Bool) (n b : ℕ) → Free u n b → Free u (suc n) b
weaken u n b f = record { unused = f.unused; below = omega (arith, f.below) }

new : (u : ℕ → Bool) (n b : ℕ) (x y : Bool) → u n ≡ false → x ≡ eqb b n → (x || y) ≡ true → (y ≡ true → Free u n b) → Free u (suc n) b
new u n b true y un q t k = let s : b ≡ n = eqb-true b n (sym q) in record { unused = ap u s ∙ un; below = omega arith }
new u n b false y un q t k = weaken u n b (k t)

free_step : (u : ℕ → Bool) (n b : ℕ) (x y : Bool) (s : List ℕ) → length s ≡ 256 → suc n ≤ 2048 → is_free u n ≡ x → has (step (x && y) s n) b ≡ true → (has s b ≡ true → Free u n b) → Free u (suc n) b
free_step u n b true true s l h q t k = new u n b (eqb b n) (has s b) (not-true (u n) q) refl (sym (has-with s n b (omega arith)) ∙ t) k
free_step u n b true false s l h q t k = weaken u n b (k t)
free_step u n b false y s l h q t k = weaken u n b (k t)

pub lowest-free : (u : ℕ → Bool) (m n : ℕ) → n ≤ 2048 → (b : ℕ) → has (lowest u m n) b ≡ true → Free u n b
unfolding lowest
lowest-free u m zero h b e = absurd (both_ways _ (has-none 256 b) e)
lowest-free u m (suc n) h b e =
    free_step u n b (is_free u n) (ltb (tally (is_free u) n) m) (lowest u m n) (length-lowest u m n) h refl e (lowest-free u m n (omega arith) b)

has_above : (u : ℕ → Bool) (m n : ℕ) → n ≤ 2048 → (b : ℕ) → n ≤ b → has (lowest u m n) b ≡ false
has_above u m n h b l = ⊎_elim (λ t. absurd (let f : b < n = (lowest-free u m n h b t).below in omega arith)) (λ t. t) (cases_Bool (has (lowest u m n) b))

tally-with : (s : List ℕ) (n : ℕ) → length s ≡ 256 → suc n ≤ 2048 → tally (has (with s n)) (suc n) ≡ tally (has s) n + 1
unfolding tally
tally-with s n l h =
    let at : has (with s n) n ≡ true = has-with s n n (omega arith) ∙ ap (λ (v : Bool). v || has s n) (eq-eqb n n refl) in
    let rest : Alike (has (with s n)) (has s) n =
    λ k lt. has-with s n k (omega arith) ∙ ap (λ (v : Bool). v || has s k) (ne_eqb k n (λ e. omega arith)) in
    ap (λ (v : Bool). tally (has (with s n)) n + cond v 1 0) at ∙ ap (λ (m : ℕ). m + 1) (tally-alike (has (with s n)) (has s) n rest)

tally-step : (s : List ℕ) (n m t : ℕ) (x : Bool) → length s ≡ 256 → suc n ≤ 2048 → has s n ≡ false → tally (has s) n ≡ min m t →
    tally (has (step (x && ltb t m) s n)) (suc n) ≡ min m (t + cond x 1 0)
unfolding tally
tally-step s n m t false l h a ih = ap (λ (v : Bool). tally (has s) n + cond v 1 0) a ∙ omega arith
tally-step s n m t true l h a ih =
    ⊎_elim
    (λ (e : ltb t m ≡ true).
    let z : t < m = ltb-true t m e in
    ap (λ (b : Bool). tally (has (step b s n)) (suc n)) e ∙ tally-with s n l h ∙ omega arith)
    (λ (e : ltb t m ≡ false).
    let z : m ≤ t = ltb-false t m e in
    ap (λ (b : Bool). tally (has (step b s n)) (suc n)) e ∙ ap (λ (v : Bool). tally (has s) n + cond v 1 0) a ∙ omega arith)
    (cases_Bool (ltb t m))

-- as many as were wanted, or all that are free
pub tally-lowest : (u : ℕ → Bool) (m n : ℕ) → n ≤ 2048 → tally (has (lowest u m n)) n ≡ min m (tally (is_free u) n)
unfolding tally lowest
tally-lowest u m zero h = omega arith
tally-lowest u m (suc n) h =
    tally-step (lowest u m n) n m (tally (is_free u) n) (is_free u n) (length-lowest u m n) h (has_above u m n (omega arith) n (omega arith)) (tally-lowest u m n (omega arith))

-- the steps of loops
pub tally-more : (p : ℕ → Bool) (n : ℕ) → tally p (n + 1) ≡ tally p n + cond (p n) 1 0
unfolding tally
tally-more p n = ap (tally p) (add-one n)

pub tally-zero : (p : ℕ → Bool) → tally p 0 ≡ 0
unfolding tally
tally-zero p = refl

pub lowest-zero : (u : ℕ → Bool) (m : ℕ) → lowest u m 0 ≡ none
unfolding lowest
lowest-zero u m = refl

pub lowest-more : (u : ℕ → Bool) (m n : ℕ) → lowest u m (n + 1) ≡ cond (is_free u n && ltb (tally (is_free u) n) m) (with (lowest u m n) n) (lowest u m n)
unfolding lowest
lowest-more u m n = ap (lowest u m) (add-one n)

pub first_more : (p : ℕ → Bool) (end k : ℕ) → k < end → first p (end - k) k ≡ cond (p k) (Some k) (first p (end - (k + 1)) (k + 1))
unfolding first
first_more p end k h =
    let e : end - k ≡ suc (end - (k + 1)) = omega arith in
    ap (λ (n : ℕ). first p n k) e ∙ ap (λ (j : ℕ). cond (p k) (Some k) (first p (end - (k + 1)) j)) (sym (add-one k))

pub first-none : (p : ℕ → Bool) (end k : ℕ) → end ≤ k → first p (end - k) k ≡ None
unfolding first
first-none p end k h = let e : end - k ≡ 0 = omega arith in ap (λ (n : ℕ). first p n k) e

-- what is found: it passes, it lies in between, and none before it does
pub record Found (p : ℕ → Bool) (n k b : ℕ) : Type 0 where
  pub passes : p b ≡ true
  pub from : k ≤ b
  pub below : b < k + n
  pub before : (j : ℕ) → k ≤ j → j < b → p j ≡ false

at-or-past : (k j : ℕ) → k ≤ j → (j ≡ k) ⊎ (suc k ≤ j)
at-or-past k j h = ⊎_elim (λ e. inl e) (⊎_elim (λ l. absurd (omega arith)) (λ l. inr l)) (cases_order j k)

found-step : (p : ℕ → Bool) (n k b : ℕ) (v : Bool) → p k ≡ v → cond v (Some k) (first p n (suc k)) ≡ Some b → (first p n (suc k) ≡ Some b → Found p n (suc k) b) → Found p (suc n) k b
found-step p n k b true q e ih =
    let s : k ≡ b = cc in
    record { passes = subst (λ (i : ℕ). p i ≡ true) s q; from = omega arith; below = omega arith; before = λ j x y. absurd (omega arith) }
found-step p n k b false q e ih =
    let f : Found p n (suc k) b = ih e in
    record {
      passes = f.passes;
      from = omega (arith, f.from);
      below = omega (arith, f.below);
      before = λ j x y. ⊎_elim (λ z. ap p z ∙ q) (λ z. f.before j z y) (at-or-past k j x);
    }

nothing-step : (p : ℕ → Bool) (n k : ℕ) (v : Bool) → p k ≡ v → cond v (Some k) (first p n (suc k)) ≡ None
    → (first p n (suc k) ≡ None → (j : ℕ) → suc k ≤ j → j < suc k + n → p j ≡ false) → (j : ℕ) → k ≤ j → j < k + suc n → p j ≡ false
nothing-step p n k true q e ih j a l = absurd (let z : ◌≡◌ {A = ℕ} 0 1 = cc in omega arith)
nothing-step p n k false q e ih j a l = ⊎_elim (λ z. ap p z ∙ q) (λ z. ih e j z (omega arith)) (at-or-past k j a)

pub first_found : (p : ℕ → Bool) (n k b : ℕ) → first p n k ≡ Some b → Found p n k b
unfolding first
first_found p zero k b e = absurd (let z : ◌≡◌ {A = ℕ} 0 1 = cc in omega arith)
first_found p (suc n) k b e = found-step p n k b (p k) refl e (first_found p n (suc k) b)

pub first-nothing : (p : ℕ → Bool) (n k : ℕ) → first p n k ≡ None → (j : ℕ) → k ≤ j → j < k + n → p j ≡ false
unfolding first
first-nothing p zero k e j a l = absurd (omega arith)
first-nothing p (suc n) k e j a l = nothing-step p n k (p k) refl e (first-nothing p n (suc k)) j a l

-- one turn of the loop that takes the lowest
pub lowest-took : (u : ℕ → Bool) (m n : ℕ) → u n ≡ false → tally (is_free u) n < m → lowest u m (n + 1) ≡ with (lowest u m n) n
lowest-took u m n e h =
    lowest-more u m n ∙ ap (λ (b : Bool). cond (not b && ltb (tally (is_free u) n) m) (with (lowest u m n) n) (lowest u m n)) e
    ∙ ap (λ (b : Bool). cond b (with (lowest u m n) n) (lowest u m n)) (lt-ltb (tally (is_free u) n) m h)

pub lowest-full : (u : ℕ → Bool) (m n : ℕ) → u n ≡ false → m ≤ tally (is_free u) n → lowest u m (n + 1) ≡ lowest u m n
lowest-full u m n e h =
    lowest-more u m n ∙ ap (λ (b : Bool). cond (not b && ltb (tally (is_free u) n) m) (with (lowest u m n) n) (lowest u m n)) e
    ∙ ap (λ (b : Bool). cond b (with (lowest u m n) n) (lowest u m n)) (le-ltb (tally (is_free u) n) m h)

pub lowest-past : (u : ℕ → Bool) (m n : ℕ) → u n ≡ true → lowest u m (n + 1) ≡ lowest u m n
lowest-past u m n e =
    lowest-more u m n ∙ ap (λ (b : Bool). cond (not b && ltb (tally (is_free u) n) m) (with (lowest u m n) n) (lowest u m n)) e

pub tally-yes : (p : ℕ → Bool) (n : ℕ) → p n ≡ true → tally p (n + 1) ≡ tally p n + 1
tally-yes p n e = tally-more p n ∙ ap (λ (b : Bool). tally p n + cond b 1 0) e

pub tally-no : (p : ℕ → Bool) (n : ℕ) → p n ≡ false → tally p (n + 1) ≡ tally p n
tally-no p n e = tally-more p n ∙ ap (λ (b : Bool). tally p n + cond b 1 0) e ∙ omega arith

pub first-yes : (p : ℕ → Bool) (end k : ℕ) → k < end → p k ≡ true → first p (end - k) k ≡ Some k
first-yes p end k h e = first_more p end k h ∙ ap (λ (b : Bool). cond b (Some k) (first p (end - (k + 1)) (k + 1))) e

pub first-no : (p : ℕ → Bool) (end k : ℕ) → k < end → p k ≡ false → first p (end - k) k ≡ first p (end - (k + 1)) (k + 1)
first-no p end k h e = first_more p end k h ∙ ap (λ (b : Bool). cond b (Some k) (first p (end - (k + 1)) (k + 1))) e
