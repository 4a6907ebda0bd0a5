-- The first that passes a test, and whether any does.
use Rattle.std.proofs.Common.{◌≡◌, ℕ, zero, suc, ◌+◌, ◌<◌, ◌≤◌, Bool, true, false, cond, ◌||◌, Some, Option, sym, refl, ap, ◌∙◌, ⊎_elim, add-one, arith}
use Rattle.std.proofs.lemmas.Bool.{or_parts, cases_order}
use Rattle.blocks.specs.Sets.{first}
use Rattle.opened.specs.Opened.{any}

pub first_alike : (p q : ℕ → Bool) (n k : ℕ) → ((j : ℕ) → k ≤ j → j < k + n → p j ≡ q j) → first p n k ≡ first q n k
unfolding first
first_alike p q zero k h = refl
first_alike p q (suc n) k h =
    ap (λ (b : Bool). cond b (Some k) (first p n (suc k))) (h k (omega arith) (omega arith))
    ∙ ap (λ (o : Option ℕ). cond (q k) (Some k) o) (first_alike p q n (suc k) (λ j a b. h j (omega arith) (omega arith)))

pub first-is : (p : ℕ → Bool) (n k i : ℕ) → k ≤ i → i < k + n → p i ≡ true → ((j : ℕ) → k ≤ j → j < i → p j ≡ false) → first p n k ≡ Some i
unfolding first
first-is p zero k i a b t h = absurd (omega arith)
first-is p (suc n) k i a b t h =
    ⊎_elim
    (λ (e : i ≡ k). ap (λ (v : Bool). cond v (Some k) (first p n (suc k))) (ap p (sym e) ∙ t) ∙ ap (λ (j : ℕ). Some j) (sym e))
    (⊎_elim (λ (l : i < k). absurd (omega arith))
    (λ (l : k < i).
    ap (λ (v : Bool). cond v (Some k) (first p n (suc k))) (h k (omega arith) l)
    ∙ first-is p n (suc k) i l (omega arith) t (λ j x y. h j (omega arith) y)))
    (cases_order i k)

pub any_none : (p : ℕ → Bool) (n : ℕ) → any p n ≡ false → (i : ℕ) → i < n → p i ≡ false
unfolding any
any_none p zero e i h = absurd (omega arith)
any_none p (suc n) e i h =
    let both = or_parts (any p n) (p n) e in
    ⊎_elim (λ (q : i ≡ n). ap p q ∙ both.1)
    (⊎_elim (λ (l : i < n). any_none p n both.0 i l) (λ (l : n < i). absurd (omega arith)))
    (cases_order i n)

pub any-alike : (p q : ℕ → Bool) (n : ℕ) → ((j : ℕ) → j < n → p j ≡ q j) → any p n ≡ any q n
unfolding any
any-alike p q zero h = refl
any-alike p q (suc n) h =
    ap (λ (b : Bool). b || p n) (any-alike p q n (λ j l. h j (omega arith))) ∙ ap (λ (b : Bool). any q n || b) (h n (omega arith))

pub none_any : (p : ℕ → Bool) (n : ℕ) → ((i : ℕ) → i < n → p i ≡ false) → any p n ≡ false
unfolding any
none_any p zero h = refl
none_any p (suc n) h = ap (λ (b : Bool). b || p n) (none_any p n (λ i l. h i (omega arith))) ∙ h n (omega arith)

pub any-more : (p : ℕ → Bool) (n : ℕ) → any p (n + 1) ≡ (any p n || p n)
unfolding any
any-more p n = ap (any p) (add-one n)

pub any-zero : (p : ℕ → Bool) → any p 0 ≡ false
unfolding any
any-zero p = refl
