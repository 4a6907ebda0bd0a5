-- Finding, changing and gathering in lists of things that have a number. Assumes nothing.
use Rattle.std.proofs.Common.{◌≡◌, ℕ, ◌<◌, Bool, true, false, cond, ◌&&◌, ◌||◌, eqb, ltb, ◌⊎◌, List, [], ◌∷◌, ◌++◌, Some, None, Option, sym, refl, ap, ◌∙◌, inl, inr, arith}
use mathlib.Core.List.Memᴰ
use mathlib.Core.List.{Memᴰ}
use Rattle.std.proofs.lemmas.Bool.{eqb-true, eq-eqb, ne_eqb, ltb-true, lt-ltb, and_parts, and_from, true≢false}
use Rattle.std.proofs.lemmas.Bool.Decides.{nat_tests}
use Rattle.std.specs.Option.{option_map}
use Rattle.model.specs.Keyed.{find, change, numbers, is_in, above, Rising, each}

pub eqb_same : (t : ℕ) → eqb t t ≡ true
eqb_same t = eq-eqb t t refl

module _ {X : Type 0} (key : X → ℕ) where
  -- what is found has that number
  pub find-key : (t : ℕ) (xs : List X) (x : X) → find key t xs ≡ Some x → key x ≡ t
  unfolding find
  find-key t [] x h = absurd (let z : ◌≡◌ {A = ℕ} 0 1 = cc in omega arith)
  find-key t (y ∷ ys) x h = go (eqb (key y) t) refl h (find-key t ys x)
    where
      go : (b : Bool) → eqb (key y) t ≡ b → cond b (Some y) (find key t ys) ≡ Some x → (find key t ys ≡ Some x → key x ≡ t) → key x ≡ t
      go true e q ih = let z : y ≡ x = cc in ap key (sym z) ∙ eqb-true (key y) t e
      go false e q ih = ih q

  pub find-each : (f : X → X) → ((x : X) → key (f x) ≡ key x) → (t : ℕ) (xs : List X) → find key t (each f xs) ≡ option_map f (find key t xs)
  unfolding find each
  find-each f k t [] = refl
  find-each f k t (x ∷ xs) = ap (λ n. cond (eqb n t) (Some (f x)) (find key t (each f xs))) (k x) ∙ go (eqb (key x) t) (find-each f k t xs)
    where
      go : (b : Bool) → find key t (each f xs) ≡ option_map f (find key t xs) → cond b (Some (f x)) (find key t (each f xs)) ≡ option_map f (cond b (Some x) (find key t xs))
      go true ih = refl
      go false ih = ih

  pub find-change : (k : ℕ) (f : X → X) → ((x : X) → key x ≡ k → key (f x) ≡ k) → (t : ℕ) (xs : List X) → find key t (change key k f xs) ≡ cond (eqb k t) (option_map f (find key t xs)) (find key t xs)
  unfolding find change
  find-change k f h t [] = go (eqb k t)
    where
      go : (b : Bool) → ◌≡◌ {A = Option X} None (cond b None None)
      go true = refl
      go false = refl
  find-change k f h t (x ∷ xs) = let ih = find-change k f h t xs in let hx = h x in grind (arith, nat_tests)

  pub find_none : (t : ℕ) (xs : List X) → is_in t (numbers key xs) ≡ false → find key t xs ≡ None
  unfolding find numbers is_in
  find_none t [] h = refl
  find_none t (x ∷ xs) h = let ih = find_none t xs in grind (arith, nat_tests)

  pub find-in : (t : ℕ) (xs : List X) → is_in t (numbers key xs) ≡ true → (x : X) × (find key t xs ≡ Some x)
  unfolding find numbers is_in
  find-in t [] h = absurd (true≢false (sym h))
  find-in t (x ∷ xs) h = go (eqb (key x) t) h (find-in t xs)
    where
      go : (b : Bool) → cond b true (is_in t (numbers key xs)) ≡ true → (is_in t (numbers key xs) ≡ true → (y : X) × (find key t xs ≡ Some y)) → (y : X) × (cond b (Some x) (find key t xs) ≡ Some y)
      go true q ih = (x, refl)
      go false q ih = ih q

  pub in-find : (t : ℕ) (xs : List X) (x : X) → find key t xs ≡ Some x → is_in t (numbers key xs) ≡ true
  unfolding find numbers is_in
  in-find t [] x h = absurd (let z : ◌≡◌ {A = ℕ} 0 1 = cc in omega arith)
  in-find t (y ∷ ys) x h = go (eqb (key y) t) h (in-find t ys x)
    where
      go : (b : Bool) → cond b (Some y) (find key t ys) ≡ Some x → (find key t ys ≡ Some x → is_in t (numbers key ys) ≡ true) → cond b true (is_in t (numbers key ys)) ≡ true
      go true q ih = refl
      go false q ih = ih q

  pub find-append : (t : ℕ) (xs : List X) (y : X) → is_in (key y) (numbers key xs) ≡ false → find key t (xs ++ y ∷ []) ≡ cond (eqb (key y) t) (Some y) (find key t xs)
  unfolding find numbers is_in
  find-append t [] y h = refl
  find-append t (x ∷ xs) y h = let ih = find-append t xs y in grind (arith, nat_tests)

  pub numbers-each : (f : X → X) → ((x : X) → key (f x) ≡ key x) → (xs : List X) → numbers key (each f xs) ≡ numbers key xs
  unfolding numbers each
  numbers-each f k [] = refl
  numbers-each f k (x ∷ xs) = let ih = numbers-each f k xs in let e = k x in cc

  pub numbers-change : (k : ℕ) (f : X → X) → ((x : X) → key x ≡ k → key (f x) ≡ k) → (xs : List X) → numbers key (change key k f xs) ≡ numbers key xs
  unfolding numbers change
  numbers-change k f h [] = refl
  numbers-change k f h (x ∷ xs) = let ih = numbers-change k f h xs in let hx = h x in grind (arith, nat_tests)

  pub numbers-append : (xs ys : List X) → numbers key (xs ++ ys) ≡ numbers key xs ++ numbers key ys
  unfolding numbers
  numbers-append [] ys = refl
  numbers-append (x ∷ xs) ys = ap (λ l. key x ∷ l) (numbers-append xs ys)

  pub in-numbers : (x : X) (xs : List X) → Memᴰ x xs → is_in (key x) (numbers key xs) ≡ true
  unfolding numbers is_in
  in-numbers x [] m = absurd (Memᴰ.not-nil m)
  in-numbers x (y ∷ ys) m = go (Memᴰ.cases_cons m) (in-numbers x ys)
    where
      go : (x ≡ y) ⊎ Memᴰ x ys → (Memᴰ x ys → is_in (key x) (numbers key ys) ≡ true) → cond (eqb (key y) (key x)) true (is_in (key x) (numbers key ys)) ≡ true
      go (inl e) ih = let k = ap key e in grind (arith, nat_tests)
      go (inr n) ih = let k = ih n in grind (arith, nat_tests)

  pub find-mem : (t : ℕ) (xs : List X) (x : X) → find key t xs ≡ Some x → Memᴰ x xs
  unfolding find
  find-mem t [] x h = absurd (let z : ◌≡◌ {A = ℕ} 0 1 = cc in omega arith)
  find-mem t (y ∷ ys) x h = go (eqb (key y) t) h (find-mem t ys x)
    where
      go : (b : Bool) → cond b (Some y) (find key t ys) ≡ Some x → (find key t ys ≡ Some x → Memᴰ x ys) → Memᴰ x (y ∷ ys)
      go true q ih = let z : x ≡ y = cc in Memᴰ.head z
      go false q ih = Memᴰ.tail (ih q)

-- whether a number is larger than all in a list
pub above_in : (t n : ℕ) (xs : List ℕ) → above t xs ≡ true → is_in n xs ≡ true → n < t
unfolding above is_in
above_in t n [] h i = absurd (true≢false (sym i))
above_in t n (x ∷ xs) h i = let ih = above_in t n xs in grind (arith, nat_tests)

pub above-not-in : (t : ℕ) (xs : List ℕ) → above t xs ≡ true → is_in t xs ≡ false
above-not-in t xs h = go (is_in t xs) refl
  where
    go : (b : Bool) → is_in t xs ≡ b → b ≡ false
    go true e = absurd (let l = above_in t t xs h e in omega arith)
    go false e = refl

pub above-append : (t : ℕ) (xs ys : List ℕ) → above t (xs ++ ys) ≡ (above t xs && above t ys)
unfolding above
above-append t [] ys = refl
above-append t (x ∷ xs) ys = let ih = above-append t xs ys in grind (arith, nat_tests)

pub in-append : (t : ℕ) (xs ys : List ℕ) → is_in t (xs ++ ys) ≡ (is_in t xs || is_in t ys)
unfolding is_in
in-append t [] ys = refl
in-append t (x ∷ xs) ys = let ih = in-append t xs ys in grind (arith, nat_tests)

pub rising-tail : (x : ℕ) (xs : List ℕ) → Rising (x ∷ xs) → Rising xs
unfolding Rising
rising-tail x [] h = tt
rising-tail x (y ∷ ys) h = h.1

-- the first of a list that rises is smaller than all the others
pub rising-first : (x n : ℕ) (xs : List ℕ) → Rising (x ∷ xs) → is_in n xs ≡ true → x < n
unfolding Rising is_in
rising-first x n [] h i = absurd (true≢false (sym i))
rising-first x n (y ∷ ys) h i = go (eqb y n) refl i (rising-first y n ys h.1)
  where
    go : (b : Bool) → eqb y n ≡ b → cond b true (is_in n ys) ≡ true → (is_in n ys ≡ true → y < n) → x < n
    go true e q ih = let l = h.0 in let f = eqb-true y n e in omega arith
    go false e q ih = let l = h.0 in let g = ih q in omega arith

pub rising-append : (xs : List ℕ) (t : ℕ) → Rising xs → above t xs ≡ true → Rising (xs ++ t ∷ [])
unfolding Rising above
rising-append [] t h a = tt
rising-append (x ∷ []) t h a = (ltb-true x t (and_parts (ltb x t) true a).0, tt)
rising-append (x ∷ (y ∷ ys)) t h a = (h.0, rising-append (y ∷ ys) t h.1 (and_parts (ltb x t) (above t (y ∷ ys)) a).1)

pub in-middle : (t : ℕ) (xs ys : List ℕ) → is_in t (xs ++ t ∷ ys) ≡ true
unfolding is_in
in-middle t [] ys = grind (arith, nat_tests)
in-middle t (x ∷ xs) ys = let ih = in-middle t xs ys in grind (arith, nat_tests)

-- in a list that rises a later one is larger than all before
pub rising-above : (xs : List ℕ) (t : ℕ) (ys : List ℕ) → Rising (xs ++ t ∷ ys) → above t xs ≡ true
unfolding above
rising-above [] t ys h = refl
rising-above (x ∷ xs) t ys h = and_from (ltb x t) (above t xs) (lt-ltb x t (rising-first x t (xs ++ t ∷ ys) h (in-middle t xs ys))) (rising-above xs t ys (rising-tail x (xs ++ t ∷ ys) h))

-- what is in a list whose numbers rise is found
pub found : {X : Type 0} (key : X → ℕ) (x : X) (xs : List X) → Rising (numbers key xs) → Memᴰ x xs → find key (key x) xs ≡ Some x
unfolding find numbers
found key x [] h m = absurd (Memᴰ.not-nil m)
found key x (y ∷ ys) h m = go (Memᴰ.cases_cons m) (found key x ys (rising-tail (key y) (numbers key ys) h))
  where
    go : (x ≡ y) ⊎ Memᴰ x ys → (Memᴰ x ys → find key (key x) ys ≡ Some x) → cond (eqb (key y) (key x)) (Some y) (find key (key x) ys) ≡ Some x
    go (inl e) ih = let k = ap key e in ap (λ b. cond b (Some y) (find key (key x) ys)) (eq-eqb (key y) (key x) (sym k)) ∙ ap Some (sym e)
    go (inr n) ih = let l = rising-first (key y) (key x) (numbers key ys) h (in-numbers key x ys n) in let f : eqb (key y) (key x) ≡ false = ne_eqb (key y) (key x) (λ e. omega arith) in ap (λ b. cond b (Some y) (find key (key x) ys)) f ∙ ih n
