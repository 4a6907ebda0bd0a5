-- Of two lists whose numbers rise the one has no more than the other, if for each of the one there is one of the other. Assumes nothing.
use Rattle.std.proofs.Common.{◌≡◌, ℕ, suc, ◌+◌, ◌<◌, ◌≤◌, Bool, true, false, cond, eqb, ◌⊎◌, List, [], ◌∷◌, length, Some, sym, refl, ap, ◌∙◌, inl, inr, arith}
use Rattle.std.proofs.lemmas.Bool.{true≢false, eqb-true, cases_eq, ne_eqb}
use Rattle.std.proofs.lemmas.Bool.Decides.{nat_tests}
use Rattle.model.specs.Keyed.{find, numbers, count, is_in, Rising}
use Rattle.model.proofs.Finds.{rising-tail, rising-first, eqb_same}

-- the numbers of those that pass a test
unfoldable picked : {X : Type 0} → (X → ℕ) → (X → Bool) → List X → List ℕ
picked key p [] = []
picked key p (x ∷ xs) = cond (p x) (key x ∷ picked key p xs) (picked key p xs)

rising-cons : (x : ℕ) (ys : List ℕ) → ((j : ℕ) → is_in j ys ≡ true → x < j) → Rising ys → Rising (x ∷ ys)
unfolding Rising is_in
rising-cons x [] h r = tt
rising-cons x (y ∷ ys) h r = (h y (ap (λ b. cond b true (is_in y ys)) (eqb_same y)), r)

-- a list that rises within another is no longer
rising-within : (hs ks : List ℕ) → Rising ks → Rising hs → ((j : ℕ) → is_in j ks ≡ true → is_in j hs ≡ true) → length ks ≤ length hs
unfolding is_in
rising-within [] [] rk rh h = omega arith
rising-within [] (k ∷ ks) rk rh h = absurd (true≢false (sym (h k (ap (λ b. cond b true (is_in k ks)) (eqb_same k)))))
rising-within (y ∷ hs) [] rk rh h = omega arith
rising-within (y ∷ hs) (k ∷ ks) rk rh h = go (cases_eq y k) (rising-within hs ks (rising-tail k ks rk) (rising-tail y hs rh)) (rising-within hs (k ∷ ks) rk (rising-tail y hs rh))
  where
    later : (j : ℕ) → is_in j ks ≡ true → k < j
    later j i = rising-first k j ks rk i

    other : (j : ℕ) → (y ≡ j → ⊥) → cond (eqb y j) true (is_in j hs) ≡ true → is_in j hs ≡ true
    other j n i = ap (λ b. cond b true (is_in j hs)) (sym (ne_eqb y j n)) ∙ i

    first : cond (eqb k k) true (is_in k ks) ≡ true
    first = ap (λ b. cond b true (is_in k ks)) (eqb_same k)

    tail-in : (j : ℕ) → is_in j ks ≡ true → cond (eqb k j) true (is_in j ks) ≡ true
    tail-in j i = grind (arith, nat_tests)

    go : (y ≡ k) ⊎ (y ≡ k → ⊥) → (((j : ℕ) → is_in j ks ≡ true → is_in j hs ≡ true) → length ks ≤ length hs) → (((j : ℕ) → is_in j (k ∷ ks) ≡ true → is_in j hs ≡ true) → suc (length ks) ≤ length hs) → suc (length ks) ≤ suc (length hs)
    go (inl e) a b = let l = a (λ j i. other j (λ q. let m = later j i in omega arith) (h j (tail-in j i))) in omega arith
    go (inr n) a b = let l = b (λ j i. other j (λ q. go2 j i q) (h j i)) in omega arith
      where
        below : y < k
        below = rising-first y k hs rh (other k n (h k first))

        go2 : (j : ℕ) → cond (eqb k j) true (is_in j ks) ≡ true → y ≡ j → ⊥
        go2 j i q = test (eqb k j) refl i
          where
            test : (b : Bool) → eqb k j ≡ b → cond b true (is_in j ks) ≡ true → ⊥
            test true e c = let z = eqb-true k j e in let l = below in omega arith
            test false e c = let m = later j c in let l = below in omega arith

module _ {X : Type 0} (key : X → ℕ) (p : X → Bool) where
  length-picked : (xs : List X) → length (picked key p xs) ≡ count p xs
  unfolding picked count
  length-picked [] = refl
  length-picked (x ∷ xs) = go (p x) (length-picked xs)
    where
      go : (b : Bool) → length (picked key p xs) ≡ count p xs → length (cond b (key x ∷ picked key p xs) (picked key p xs)) ≡ cond b 1 0 + count p xs
      go true ih = omega arith
      go false ih = omega arith

  picked-in : (j : ℕ) (xs : List X) → is_in j (picked key p xs) ≡ true → is_in j (numbers key xs) ≡ true
  unfolding picked is_in numbers
  picked-in j [] i = i
  picked-in j (x ∷ xs) i = go (p x) (picked-in j xs) i
    where
      go : (b : Bool) → (is_in j (picked key p xs) ≡ true → is_in j (numbers key xs) ≡ true) → is_in j (cond b (key x ∷ picked key p xs) (picked key p xs)) ≡ true → cond (eqb (key x) j) true (is_in j (numbers key xs)) ≡ true
      go true ih k = grind (arith, nat_tests)
      go false ih k = let z = ih k in grind (arith, nat_tests)

  picked-rising : (xs : List X) → Rising (numbers key xs) → Rising (picked key p xs)
  unfolding picked numbers Rising
  picked-rising [] r = tt
  picked-rising (x ∷ xs) r = go (p x) (picked-rising xs (rising-tail (key x) (numbers key xs) r))
    where
      go : (b : Bool) → Rising (picked key p xs) → Rising (cond b (key x ∷ picked key p xs) (picked key p xs))
      go true ih = rising-cons (key x) (picked key p xs) (λ j i. rising-first (key x) j (numbers key xs) r (picked-in j xs i)) ih
      go false ih = ih

  picked-find : (j : ℕ) (xs : List X) → Rising (numbers key xs) → is_in j (picked key p xs) ≡ true → (x : X) × (find key j xs ≡ Some x) × (p x ≡ true)
  unfolding picked is_in find numbers
  picked-find j [] r i = absurd (true≢false (sym i))
  picked-find j (x ∷ xs) r i = go (eqb (key x) j) refl (p x) refl i (picked-find j xs (rising-tail (key x) (numbers key xs) r))
    where
      go : (c : Bool) → eqb (key x) j ≡ c → (b : Bool) → p x ≡ b → is_in j (cond b (key x ∷ picked key p xs) (picked key p xs)) ≡ true → (is_in j (picked key p xs) ≡ true → (y : X) × (find key j xs ≡ Some y) × (p y ≡ true)) → (y : X) × (cond c (Some x) (find key j xs) ≡ Some y) × (p y ≡ true)
      go true e true q k ih = (x, refl, q)
      go true e false q k ih = absurd (let l = rising-first (key x) j (numbers key xs) r (picked-in j xs k) in let z = eqb-true (key x) j e in omega arith)
      go false e true q k ih = ih (ap (λ b. cond b true (is_in j (picked key p xs))) (sym e) ∙ k)
      go false e false q k ih = ih k

  find-picked : (j : ℕ) (xs : List X) (x : X) → find key j xs ≡ Some x → p x ≡ true → is_in j (picked key p xs) ≡ true
  unfolding picked is_in find
  find-picked j [] x e q = absurd (let z : ◌≡◌ {A = ℕ} 0 1 = cc in omega arith)
  find-picked j (y ∷ ys) x e q = go (eqb (key y) j) refl e (p y) refl (find-picked j ys x)
    where
      go : (c : Bool) → eqb (key y) j ≡ c → cond c (Some y) (find key j ys) ≡ Some x → (b : Bool) → p y ≡ b → (find key j ys ≡ Some x → p x ≡ true → is_in j (picked key p ys) ≡ true) → is_in j (cond b (key y ∷ picked key p ys) (picked key p ys)) ≡ true
      go true i k true o ih = ap (λ b. cond b true (is_in j (picked key p ys))) i
      go true i k false o ih = absurd (true≢false (sym q ∙ (let z : x ≡ y = cc in ap p z) ∙ o))
      go false i k true o ih = ap (λ b. cond b true (is_in j (picked key p ys))) i ∙ ih k q
      go false i k false o ih = ih k q

pub count-within : {X Y : Type 0} (key : X → ℕ) (p : X → Bool) (xs : List X) (key2 : Y → ℕ) (p2 : Y → Bool) (ys : List Y) → Rising (numbers key xs) → Rising (numbers key2 ys) →
    ((j : ℕ) (x : X) → find key j xs ≡ Some x → p x ≡ true → (y : Y) × (find key2 j ys ≡ Some y) × (p2 y ≡ true)) → count p xs ≤ count p2 ys
count-within key p xs key2 p2 ys rx ry h =
    let a = length-picked key p xs in
    let b = length-picked key2 p2 ys in
    let c = rising-within (picked key2 p2 ys) (picked key p xs) (picked-rising key p xs rx) (picked-rising key2 p2 ys ry)
    (λ j i. let z = picked-find key p j xs rx i in let y = h j z.0 z.1 z.2 in find-picked key2 p2 j ys y.0 y.1 y.2) in
    omega arith
