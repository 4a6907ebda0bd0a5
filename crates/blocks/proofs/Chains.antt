-- What chains over the numbers of a set give.
use Rattle.std.proofs.Common.{◌≡◌, ℕ, zero, suc, ◌+◌, ◌-◌, ◌<◌, ◌≤◌, Bool, true, false, cond, not, List, [], ◌∷◌, length, get_or, take, fold, filter, Some, None, Option, MatchOption, sym, refl, ap, ◌∙◌, subst, ⊎_elim, arith}
use Rattle.std.specs.List.{range_with_len}
use Rattle.std.specs.Fn.{Called}
use Rattle.std.specs.Array.{IsFromFnResultFrom}
use denote.Param.Members.{Mut}
use Rattle.std.proofs.lemmas.Bool.{cases_eq, both_ways, cases_lt}
use Rattle.blocks.specs.Sets.{with, tally, first, is_free, lowest}
use Rattle.blocks.proofs.Member.{tally-more, tally-yes, tally-no, lowest-took, lowest-full, lowest-past}

-- what `find` gives: nothing below the end passes, or the first that does
abbrev pub Finds : (p : ℕ → Bool) (end k : ℕ) → Option ℕ → Type 0
Finds p end k r = MatchOption r ((j : ℕ) → k ≤ j → j < end → p j ≡ false) (λ i. (k ≤ i) × (i < end) × (p i ≡ true) × ((j : ℕ) → k ≤ j → j < i → p j ≡ false))

first-step : (p : ℕ → Bool) (end k : ℕ) (v : Bool) (rest : Option ℕ) → k < end → p k ≡ v → (r : Option ℕ) → Finds p end k r → (Finds p end (suc k) r → r ≡ rest) → r ≡ cond v (Some k) rest
first-step p end k true rest l q None h ih = absurd (both_ways (p k) (h k (omega arith) l) q)
first-step p end k true rest l q (Some i) h ih =
    ⊎_elim (λ (s : i ≡ k). ap (λ (j : ℕ). Some j) s) (λ s. absurd (both_ways (p k) (h.3 k (omega arith) (omega (arith, h.0, s))) q)) (cases_eq i k)
first-step p end k false rest l q None h ih = ih (λ j a b. h j (omega arith) b)
first-step p end k false rest l q (Some i) h ih =
    ⊎_elim (λ (s : i ≡ k). absurd (both_ways (p k) q (subst (λ (j : ℕ). p j ≡ true) s h.2)))
    (λ s. ih (omega (arith, h.0, s), h.1, h.2, λ j a b. h.3 j (omega arith) b))
    (cases_eq i k)

pub first-is : (p : ℕ → Bool) (end n k : ℕ) → n ≡ end - k → (r : Option ℕ) → Finds p end k r → r ≡ first p n k
unfolding first
first-is p end zero k e None h = refl
first-is p end zero k e (Some i) h = absurd (omega (arith, h.0, h.1))
first-is p end (suc n) k e r h = first-step p end k (p k) (first p n (suc k)) (omega arith) refl r h (first-is p end n (suc k) (omega arith) r)

-- how many pass
pub tally-filter : (p : ℕ → Bool) (n a : ℕ) → tally p a + length (filter p (range_with_len a n)) ≡ tally p (a + n)
tally-filter p zero a = let e : a ≡ a + 0 = omega arith in omega (arith, ap (tally p) e)
tally-filter p (suc n) a =
    step (p a) (tally p a) (filter p (range_with_len (a + 1) n)) ∙ ap (λ (t : ℕ). t + length (filter p (range_with_len (a + 1) n))) (sym (tally-more p a)) ∙ tally-filter p n (a + 1)
    ∙ ap (tally p) (let e : a + 1 + n ≡ a + suc n = omega arith in e)
  where
    step : (b : Bool) (t : ℕ) (xs : List ℕ) → t + length (cond b (a ∷ xs) xs) ≡ t + cond b 1 0 + length xs
    step true t xs = omega arith
    step false t xs = omega arith

-- the lowest that are free, taken one by one
pub lowest-fold : (u : ℕ → Bool) (m n a : ℕ) → fold with (lowest u m a) (take (m - tally (is_free u) a) (filter (is_free u) (range_with_len a n))) ≡ lowest u m (a + n)
lowest-fold u m zero a = nothing (m - tally (is_free u) a) ∙ ap (lowest u m) (let e : a ≡ a + 0 = omega arith in e)
  where
    nothing : (k : ℕ) → fold with (lowest u m a) (take k []) ≡ lowest u m a
    nothing zero = refl
    nothing (suc k) = refl
lowest-fold u m (suc n) a =
    go (u a) refl ∙ lowest-fold u m n (a + 1) ∙ ap (lowest u m) (let e : a + 1 + n ≡ a + suc n = omega arith in e)
  where
    t : ℕ
    t = tally (is_free u) a

    rest : List ℕ
    rest = filter (is_free u) (range_with_len (a + 1) n)

    from : List ℕ → ℕ → List ℕ → List ℕ
    from s k xs = fold with s (take k xs)

    go : (v : Bool) → u a ≡ v → from (lowest u m a) (m - t) (cond (not (u a)) (a ∷ rest) rest) ≡ from (lowest u m (a + 1)) (m - tally (is_free u) (a + 1)) rest
    go true q =
        let s : tally (is_free u) (a + 1) ≡ t = tally-no (is_free u) a (ap not q) in
        ap (λ (b : Bool). from (lowest u m a) (m - t) (cond (not b) (a ∷ rest) rest)) q
        ∙ ap (λ (l : List ℕ). from l (m - t) rest) (sym (lowest-past u m a q))
        ∙ ap (λ (k : ℕ). from (lowest u m (a + 1)) (m - k) rest) (sym s)
    go false q =
        let s : tally (is_free u) (a + 1) ≡ t + 1 = tally-yes (is_free u) a (ap not q) in
        ap (λ (b : Bool). from (lowest u m a) (m - t) (cond (not b) (a ∷ rest) rest)) q
        ∙ ⊎_elim
        (λ (h : t < m).
        ap (λ (k : ℕ). from (lowest u m a) k (a ∷ rest)) (let e : m - t ≡ suc (m - (t + 1)) = omega arith in e)
        ∙ ap (λ (l : List ℕ). from l (m - (t + 1)) rest) (sym (lowest-took u m a q h))
        ∙ ap (λ (k : ℕ). from (lowest u m (a + 1)) (m - k) rest) (sym s))
        (λ (h : m ≤ t).
        ap (λ (k : ℕ). from (lowest u m a) k (a ∷ rest)) (let e : m - t ≡ 0 = omega arith in e)
        ∙ sym (lowest-full u m a q h)
        ∙ ap (λ (k : ℕ). from (lowest u m (a + 1)) k rest) (let e : 0 ≡ m - tally (is_free u) (a + 1) = omega arith in e))
        (cases_lt t m)

-- all that is taken from a range is below its end
abbrev Below : List ℕ → ℕ → Type 0
Below xs end = (k d : ℕ) → k < length xs → get_or xs k d < end

below-step : (b : Bool) (a end m : ℕ) (xs : List ℕ) → a < end → ((m : ℕ) → Below (take m xs) end) → Below (take (suc m) (cond b (a ∷ xs) xs)) end
below-step true a end m xs l h zero d k = l
below-step true a end m xs l h (suc i) d k = h m i d (omega arith)
below-step false a end m xs l h i d k = h (suc m) i d k

pub below-end : (p : ℕ → Bool) (n a end m : ℕ) → a + n ≡ end → Below (take m (filter p (range_with_len a n))) end
below-end p zero a end zero e k d h = absurd (omega arith)
below-end p zero a end (suc m) e k d h = absurd (omega arith)
below-end p (suc n) a end zero e k d h = absurd (omega arith)
below-end p (suc n) a end (suc m) e k d h = below-step (p a) a end m (filter p (range_with_len (a + 1) n)) (omega arith) (λ i. below-end p n (a + 1) end i (omega arith)) k d h

-- what a closure that stays as it is gives at each index
pub from-fn-at : {F B : Type 0} (g : Mut F (ℕ × Unit {0}) B) (f : F) (v : ℕ → B) (step : (i : ℕ) (y : B) (q : F) → Called g f (i, tt) y q → (q ≡ f) × (y ≡ v i)) (ys : List B) (d : B)
    → (n i k : ℕ) → IsFromFnResultFrom g f ys i n → i ≤ k → k < i + n → get_or ys k d ≡ v k
from-fn-at g f v step ys d zero i k h a b = absurd (omega arith)
from-fn-at g f v step ys d (suc n) i k h a b =
    let s : (h.0 ≡ f) × (h.1 ≡ v i) = step i h.1 h.0 h.3 in
    ⊎_elim (λ (e : k ≡ i). subst (λ (j : ℕ). get_or ys j d ≡ v j) (sym e) (h.2.1 d ∙ s.1))
    (λ ne. from-fn-at g f v step ys d n (i + 1) k (subst (λ q. IsFromFnResultFrom g q ys (i + 1) n) s.0 h.4) (omega (arith, ne)) (omega arith))
    (cases_eq k i)
