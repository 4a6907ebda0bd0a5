-- What is known of keyed lists: members after a change, found members, tests on every member. Assumes nothing.
use Rattle.std.proofs.Common.{◌≡◌, ℕ, ◌<◌, Bool, true, false, cond, ◌&&◌, eqb, ◌⊎◌, List, [], ◌∷◌, ◌++◌, Some, None, sym, refl, ap, ◌∙◌, subst, inl, inr, arith}
use mathlib.Core.List.Memᴰ
use mathlib.Core.List.{Memᴰ}
use Rattle.std.proofs.lemmas.Bool.{eqb-true, eqb-false, eq-eqb, ne_eqb, and_parts}
use Rattle.std.specs.Option.{option_map}
use Rattle.model.specs.Keyed.{find, change, numbers, every, is_in, above, gather, each}
use Rattle.model.proofs.Finds

module _ {X : Type 0} where
  -- what holds of every member
  abbrev pub All : (X → Type 0) → List X → Type 0
  All P xs = (x : X) → Memᴰ x xs → P x

  pub all_none : (P : X → Type 0) → All P []
  all_none P x m = absurd (Memᴰ.not-nil m)

  pub all_end : (P : X → Type 0) (xs : List X) (y : X) → All P xs → P y → All P (xs ++ y ∷ [])
  all_end P xs y h k x m = go (Memᴰ.append_cases xs m)
    where
      go : Memᴰ x xs ⊎ Memᴰ x (y ∷ []) → P x
      go (inl a) = h x a
      go (inr b) = subst P (sym (Memᴰ.eq_of_singleton b)) k

  pub mem-each : (f : X → X) {y : X} (xs : List X) → Memᴰ y (each f xs) → (x : X) × Memᴰ x xs × (y ≡ f x)
  unfolding each
  mem-each f [] m = absurd (Memᴰ.not-nil m)
  mem-each f (x ∷ xs) (Memᴰ.head e) = (x, Memᴰ.head refl, e)
  mem-each f (x ∷ xs) (Memᴰ.tail m) = let (z, k, e) = mem-each f xs m in (z, Memᴰ.tail k, e)

  pub all-each : (P Q : X → Type 0) (f : X → X) (xs : List X) → ((x : X) → Memᴰ x xs → P x → Q (f x)) → All P xs → All Q (each f xs)
  all-each P Q f xs g h y m = let (x, k, e) = mem-each f xs m in subst Q (sym e) (g x k (h x k))

  pub every-each : (p : X → Bool) (f : X → X) (xs : List X) → ((x : X) → p (f x) ≡ true) → every p (each f xs) ≡ true
  unfolding every each
  every-each p f [] h = refl
  every-each p f (x ∷ xs) h = ap (λ b. b && every p (each f xs)) (h x) ∙ every-each p f xs h

  pub every-all : (p : X → Bool) (xs : List X) → every p xs ≡ true → All (λ x. p x ≡ true) xs
  unfolding every
  every-all p [] e x m = absurd (Memᴰ.not-nil m)
  every-all p (y ∷ xs) e x (Memᴰ.head a) = ap p a ∙ (and_parts (p y) (every p xs) e).0
  every-all p (y ∷ xs) e x (Memᴰ.tail m) = every-all p xs (and_parts (p y) (every p xs) e).1 x m

module _ {X : Type 0} (key : X → ℕ) where
  -- a member after a change is one of before with another number, or a changed one
  pub mem-change : (t : ℕ) (f : X → X) {y : X} (xs : List X) → Memᴰ y (change key t f xs) → (Memᴰ y xs × (eqb (key y) t ≡ false)) ⊎ ((x : X) × Memᴰ x xs × (key x ≡ t) × (y ≡ f x))
  unfolding change
  mem-change t f [] m = absurd (Memᴰ.not-nil m)
  mem-change t f {y} (x ∷ xs) (Memᴰ.head e) = go (eqb (key x) t) refl e
    where
      go : (b : Bool) → eqb (key x) t ≡ b → y ≡ cond b (f x) x → (Memᴰ y (x ∷ xs) × (eqb (key y) t ≡ false)) ⊎ ((z : X) × Memᴰ z (x ∷ xs) × (key z ≡ t) × (y ≡ f z))
      go true b d = inr (x, Memᴰ.head refl, eqb-true (key x) t b, d)
      go false b d = inl (Memᴰ.head d, ap (λ z. eqb (key z) t) d ∙ b)
  mem-change t f {y} (x ∷ xs) (Memᴰ.tail m) = go (mem-change t f xs m)
    where
      go : (Memᴰ y xs × (eqb (key y) t ≡ false)) ⊎ ((z : X) × Memᴰ z xs × (key z ≡ t) × (y ≡ f z)) → (Memᴰ y (x ∷ xs) × (eqb (key y) t ≡ false)) ⊎ ((z : X) × Memᴰ z (x ∷ xs) × (key z ≡ t) × (y ≡ f z))
      go (inl a) = inl (Memᴰ.tail a.0, a.1)
      go (inr b) = inr (b.0, Memᴰ.tail b.1, b.2, b.3)

  pub all-change : (P Q : X → Type 0) (t : ℕ) (f : X → X) (xs : List X) → ((x : X) → Memᴰ x xs → eqb (key x) t ≡ false → P x → Q x) → ((x : X) → Memᴰ x xs → key x ≡ t → P x → Q (f x)) → All P xs → All Q (change key t f xs)
  all-change P Q t f xs old new h y m = go (mem-change t f xs m)
    where
      go : (Memᴰ y xs × (eqb (key y) t ≡ false)) ⊎ ((x : X) × Memᴰ x xs × (key x ≡ t) × (y ≡ f x)) → Q y
      go (inl a) = old y a.0 a.1 (h y a.0)
      go (inr b) = subst Q (sym b.3) (new b.0 b.1 b.2 (h b.0 b.1))

  pub find-mem : (t : ℕ) (xs : List X) (x : X) → find key t xs ≡ Some x → Memᴰ x xs × (key x ≡ t)
  find-mem t xs x e = (Finds.find-mem key t xs x e, Finds.find-key key t xs x e)

  -- numbers
  pub numbers-each : (f : X → X) (xs : List X) → ((x : X) → key (f x) ≡ key x) → numbers key (each f xs) ≡ numbers key xs
  numbers-each f xs h = Finds.numbers-each key f h xs

  pub numbers-change : (t : ℕ) (f : X → X) (xs : List X) → ((x : X) → key x ≡ t → key (f x) ≡ t) → numbers key (change key t f xs) ≡ numbers key xs
  numbers-change t f xs h = Finds.numbers-change key t f h xs

  pub numbers-end : (xs : List X) (y : X) → numbers key (xs ++ y ∷ []) ≡ numbers key xs ++ key y ∷ []
  unfolding numbers
  numbers-end xs y = Finds.numbers-append key xs (y ∷ [])

  -- what is found
  pub find_none : (t : ℕ) (xs : List X) → All (λ x. key x ≡ t → ⊥) xs → find key t xs ≡ None
  unfolding find
  find_none t [] h = refl
  find_none t (x ∷ xs) h = ap (λ b. cond b (Some x) (find key t xs)) (ne_eqb (key x) t (h x (Memᴰ.head refl))) ∙ find_none t xs (λ y m. h y (Memᴰ.tail m))

  pub find-each : (f : X → X) → ((x : X) → key (f x) ≡ key x) → (t : ℕ) (xs : List X) (x : X) → find key t xs ≡ Some x → find key t (each f xs) ≡ Some (f x)
  find-each f h t xs x e = Finds.find-each key f h t xs ∙ ap (option_map f) e

  pub find-change-same : (t : ℕ) (f : X → X) → ((z : X) → key z ≡ t → key (f z) ≡ t) → (xs : List X) (x : X) → find key t xs ≡ Some x → find key t (change key t f xs) ≡ Some (f x)
  find-change-same t f h xs x e = Finds.find-change key t f h t xs ∙ ap (λ b. cond b (option_map f (find key t xs)) (find key t xs)) (eq-eqb t t refl) ∙ ap (option_map f) e

  pub find-change-other : (t u : ℕ) (f : X → X) → ((z : X) → key z ≡ t → key (f z) ≡ t) → eqb u t ≡ false → (xs : List X) → find key u (change key t f xs) ≡ find key u xs
  find-change-other t u f h n xs = Finds.find-change key t f h u xs ∙ ap (λ b. cond b (option_map f (find key u xs)) (find key u xs)) (ne_eqb t u (λ q. eqb-false u t n (sym q)))

  pub find-end-some : (t : ℕ) (xs ys : List X) (x : X) → find key t xs ≡ Some x → find key t (xs ++ ys) ≡ Some x
  unfolding find
  find-end-some t [] ys x e = absurd (let z : ◌≡◌ {A = ℕ} 0 1 = cc in omega arith)
  find-end-some t (z ∷ xs) ys x e = go (eqb (key z) t) e (find-end-some t xs ys x)
    where
      go : (b : Bool) → cond b (Some z) (find key t xs) ≡ Some x → (find key t xs ≡ Some x → find key t (xs ++ ys) ≡ Some x) → cond b (Some z) (find key t (xs ++ ys)) ≡ Some x
      go true a ih = a
      go false a ih = ih a

  pub find-end-none : (t : ℕ) (xs ys : List X) → find key t xs ≡ None → find key t (xs ++ ys) ≡ find key t ys
  unfolding find
  find-end-none t [] ys e = refl
  find-end-none t (z ∷ xs) ys e = go (eqb (key z) t) e (find-end-none t xs ys)
    where
      go : (b : Bool) → cond b (Some z) (find key t xs) ≡ None → (find key t xs ≡ None → find key t (xs ++ ys) ≡ find key t ys) → cond b (Some z) (find key t (xs ++ ys)) ≡ find key t ys
      go true a ih = absurd (let z : ◌≡◌ {A = ℕ} 0 1 = cc in omega arith)
      go false a ih = ih a

  pub find-one : (x : X) (xs : List X) → find key (key x) (x ∷ xs) ≡ Some x
  unfolding find
  find-one x xs = ap (λ b. cond b (Some x) (find key (key x) xs)) (eq-eqb (key x) (key x) refl)

  -- each member is found by its number, so that no two have the same
  abbrev pub Found : List X → Type 0
  Found xs = (x : X) → Memᴰ x xs → find key (key x) xs ≡ Some x

  pub found-each : (f : X → X) → ((x : X) → key (f x) ≡ key x) → (xs : List X) → Found xs → Found (each f xs)
  found-each f h xs a y m =
      let (x, k, e) = mem-each f xs m in
      ap (λ t. find key t (each f xs)) (ap key e ∙ h x) ∙ (find-each f h (key x) xs x (a x k) ∙ ap Some (sym e))

  pub found-change : (t : ℕ) (f : X → X) → ((z : X) → key z ≡ t → key (f z) ≡ t) → (xs : List X) → Found xs → Found (change key t f xs)
  found-change t f h xs a z m = go (mem-change t f xs m)
    where
      go : (Memᴰ z xs × (eqb (key z) t ≡ false)) ⊎ ((x : X) × Memᴰ x xs × (key x ≡ t) × (z ≡ f x)) → find key (key z) (change key t f xs) ≡ Some z
      go (inl b) = find-change-other t (key z) f h b.1 xs ∙ a z b.0
      go (inr b) =
          let (x, k, e, d) = b in
          ap (λ n. find key n (change key t f xs)) (ap key d ∙ h x e) ∙ (find-change-same t f h xs x (ap (λ n. find key n xs) (sym e) ∙ a x k) ∙ ap Some (sym d))

  pub found-end : (xs : List X) (y : X) → find key (key y) xs ≡ None → Found xs → Found (xs ++ y ∷ [])
  found-end xs y n a = all_end (λ x. find key (key x) (xs ++ y ∷ []) ≡ Some x) xs y (λ x m. find-end-some (key x) xs (y ∷ []) x (a x m)) (find-end-none (key y) xs (y ∷ []) n ∙ find-one y [])

-- for each its own list
pub mem-gather : {X M : Type 0} (f : X → List M) {y : M} (xs : List X) → Memᴰ y (gather f xs) → (x : X) × Memᴰ x xs × Memᴰ y (f x)
unfolding gather
mem-gather f [] m = absurd (Memᴰ.not-nil m)
mem-gather {X} {M} f {y} (x ∷ xs) m = go (Memᴰ.append_cases (f x) m) (λ k. mem-gather f xs k)
  where
    go : Memᴰ y (f x) ⊎ Memᴰ y (gather f xs) → (Memᴰ y (gather f xs) → (z : X) × Memᴰ z xs × Memᴰ y (f z)) → (z : X) × Memᴰ z (x ∷ xs) × Memᴰ y (f z)
    go (inl a) ih = (x, Memᴰ.head refl, a)
    go (inr a) ih = let (z, k, l) = ih a in (z, Memᴰ.tail k, l)

-- numbers that were used
pub used-below : (m t : ℕ) (ns : List ℕ) → is_in m ns ≡ true → above t ns ≡ true → m < t
used-below m t ns a b = Finds.above_in t m ns b a

pub used-end : (t : ℕ) (ns : List ℕ) → is_in t (ns ++ t ∷ []) ≡ true
used-end t ns = Finds.in-middle t ns []

module _ {X : Type 0} (key : X → ℕ) where
  pub mem-number : {x : X} (xs : List X) → Memᴰ x xs → is_in (key x) (numbers key xs) ≡ true
  mem-number {x} xs m = Finds.in-numbers key x xs m

  -- a number above all is not found
  pub above-none : (t : ℕ) (xs : List X) → above t (numbers key xs) ≡ true → find key t xs ≡ None
  above-none t xs h = find_none key t xs (λ x m e. let l = used-below (key x) t (numbers key xs) (mem-number xs m) h in omega arith)
