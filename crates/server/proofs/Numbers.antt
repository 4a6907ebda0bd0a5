-- One number more is used.
use Rattle.std.proofs.Common.{◌≡◌, ℕ, suc, ◌≤◌, Bool, true, false, cond, ◌&&◌, eqb, ltb, leb, List, [], ◌∷◌, ◌++◌, sym, refl, ap, ◌∙◌, arith}
use Rattle.std.proofs.lemmas.Bool.{eq-eqb, cond-true}
use Rattle.std.proofs.lemmas.Bool.Decides.{nat_tests}
use Rattle.model.specs.Keyed.{is_in, above}
use Rattle.server.specs.Stands.{Uses, Used}
use Rattle.desk.specs.Events.{marked}

turn-over : (a b : ℕ) → eqb a b ≡ eqb b a
turn-over a b = grind (arith, nat_tests)

swapped : (b c r : Bool) → cond b true (cond c true r) ≡ cond c true (cond b true r)
swapped true true r = refl
swapped true false r = refl
swapped false true r = refl
swapped false false r = refl

pub in-more : (u t : ℕ) (xs : List ℕ) → is_in u (xs ++ t ∷ []) ≡ cond (eqb u t) true (is_in u xs)
unfolding is_in
in-more u t [] = ap (λ b. cond b true false) (turn-over t u)
in-more u t (x ∷ xs) = ap (λ b. cond (eqb x u) true b) (in-more u t xs) ∙ swapped (eqb x u) (eqb u t) (is_in u xs)

joined : (a b c : Bool) → (a && (b && c)) ≡ ((a && b) && c)
joined true b c = refl
joined false b c = refl

pub above_more : (u t : ℕ) (xs : List ℕ) → above u (xs ++ t ∷ []) ≡ (above u xs && ltb t u)
unfolding above
above_more u t [] = go (ltb t u)
  where
    go : (b : Bool) → (b && true) ≡ b
    go true = refl
    go false = refl
above_more u t (x ∷ xs) = ap (λ b. ltb x u && b) (above_more u t xs) ∙ joined (ltb x u) (above u xs) (ltb t u)

pub uses-more : (next t : ℕ) (h : ℕ → Bool) (used : List ℕ) → next ≤ t → Uses next h used → Uses (suc t) (marked t h) (used ++ t ∷ [])
uses-more next t h used l s = record {
  known = λ u q. ap (λ b. cond (eqb u t) true b) (s.known u q) ∙ sym (in-more u t used);
  free = λ u. above_more u t used ∙ (ap (λ b. b && ltb t u) (s.free u) ∙ after u);
}
  where
    after : (u : ℕ) → (leb next u && leb (suc t) u) ≡ leb (suc t) u
    after u = grind (arith, nat_tests)

pub good_more : (next t : ℕ) (used : List ℕ) → next ≤ t → (n : ℕ) → Used next used n → Used (suc t) (used ++ t ∷ []) n
good_more next t used l n g = let a = g.0 in (omega arith, in-more n t used ∙ (ap (λ b. cond (eqb n t) true b) g.1 ∙ go (eqb n t)))
  where
    go : (b : Bool) → cond b true true ≡ true
    go true = refl
    go false = refl

pub good_new : (t : ℕ) (used : List ℕ) → Used (suc t) (used ++ t ∷ []) t
good_new t used = (omega arith, in-more t t used ∙ cond-true (eqb t t) true (is_in t used) (eq-eqb t t refl))
