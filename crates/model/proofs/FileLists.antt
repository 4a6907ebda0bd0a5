-- Lists of blocks, of names and of puts: what is in them, and what a write or a removal leaves. Assumes nothing.
use Rattle.std.proofs.Common.{◌≡◌, ℕ, zero, suc, ◌≤◌, Bool, true, false, cond, eqb, ◌⊎◌, List, [], ◌∷◌, ◌++◌, take, Some, None, Option, sym, refl, ap, ◌∙◌, subst, inl, inr, append_assoc, arith}
use Rattle.std.proofs.lemmas.Bool.{true≢false, both_ways, eqb-true, eq-eqb, ne_eqb}
use Rattle.model.specs.Keyed.{find, is_in, gather}
use Rattle.model.specs.Messages.{is_some}
use Rattle.model.proofs.Finds.{find-key}
use Rattle.model.specs.Files.{same, is_named, keep, up_from, without, write}

pub none-some : {A : Type 0} {x : A} → None ≡ Some x → ⊥
none-some e = true≢false (sym (ap is_some e))

pub some_inj : {A : Type 0} {x y : A} → Some x ≡ Some y → x ≡ y
some_inj {A} {x} {y} e = ap (from x) e
  where
    from : A → Option A → A
    from d None = d
    from d (Some a) = a

-- removal, and what is found
module _ {X : Type 0} (key : X → ℕ) where
  pub find-without-same : (t : ℕ) (xs : List X) → find key t (without key t xs) ≡ None
  unfolding find without
  find-without-same t [] = refl
  find-without-same t (x ∷ xs) = go (eqb (key x) t) refl (find-without-same t xs)
    where
      go : (b : Bool) → eqb (key x) t ≡ b → find key t (without key t xs) ≡ None → find key t (cond b (without key t xs) (x ∷ without key t xs)) ≡ None
      go true e ih = ih
      go false e ih = ap (λ c. cond c (Some x) (find key t (without key t xs))) e ∙ ih

  pub find-without-other : (t u : ℕ) (xs : List X) → eqb t u ≡ false → find key u (without key t xs) ≡ find key u xs
  unfolding find without
  find-without-other t u [] ne = refl
  find-without-other t u (x ∷ xs) ne = go (eqb (key x) t) refl (find-without-other t u xs ne)
    where
      go : (b : Bool) → eqb (key x) t ≡ b → find key u (without key t xs) ≡ find key u xs → find key u (cond b (without key t xs) (x ∷ without key t xs)) ≡ cond (eqb (key x) u) (Some x) (find key u xs)
      go true e ih = ih ∙ ap (λ c. cond c (Some x) (find key u xs)) (sym (ap (λ j. eqb j u) (eqb-true (key x) t e) ∙ ne))
      go false e ih = ap (cond (eqb (key x) u) (Some x)) ih

  -- what is found after a removal was there, under another number
  pub found-without : (t u : ℕ) (xs : List X) (x : X) → find key u (without key t xs) ≡ Some x → (eqb t u ≡ false) × (find key u xs ≡ Some x)
  found-without t u xs x e = go (eqb t u) refl
    where
      go : (b : Bool) → eqb t u ≡ b → (eqb t u ≡ false) × (find key u xs ≡ Some x)
      go true q = absurd (none-some (sym (find-without-same t xs) ∙ ap (λ j. find key j (without key t xs)) (eqb-true t u q) ∙ e))
      go false q = (q, sym (find-without-other t u xs q) ∙ e)

  pub found_number : (t : ℕ) (xs : List X) (x : X) → find key t xs ≡ Some x → key x ≡ t
  found_number t xs x e = find-key key t xs x e

pub in_left : (b : ℕ) (xs ys : List ℕ) → is_in b xs ≡ true → is_in b (xs ++ ys) ≡ true
unfolding is_in
in_left b [] ys e = absurd (true≢false (sym e))
in_left b (x ∷ xs) ys e = go (eqb x b) e (in_left b xs ys)
  where
    go : (t : Bool) → cond t true (is_in b xs) ≡ true → (is_in b xs ≡ true → is_in b (xs ++ ys) ≡ true) → cond t true (is_in b (xs ++ ys)) ≡ true
    go true e ih = refl
    go false e ih = ih e

pub in_right : (b : ℕ) (xs ys : List ℕ) → is_in b ys ≡ true → is_in b (xs ++ ys) ≡ true
unfolding is_in
in_right b [] ys e = e
in_right b (x ∷ xs) ys e = go (eqb x b) (in_right b xs ys e)
  where
    go : (t : Bool) → is_in b (xs ++ ys) ≡ true → cond t true (is_in b (xs ++ ys)) ≡ true
    go true ih = refl
    go false ih = ih

pub in_either : (b : ℕ) (xs ys : List ℕ) → is_in b (xs ++ ys) ≡ true → (is_in b xs ≡ true) ⊎ (is_in b ys ≡ true)
unfolding is_in
in_either b [] ys e = inr e
in_either b (x ∷ xs) ys e = go (eqb x b) e (in_either b xs ys)
  where
    go : (t : Bool) → cond t true (is_in b (xs ++ ys)) ≡ true → (is_in b (xs ++ ys) ≡ true → (is_in b xs ≡ true) ⊎ (is_in b ys ≡ true)) → (cond t true (is_in b xs) ≡ true) ⊎ (is_in b ys ≡ true)
    go true e ih = inl refl
    go false e ih = ih e

pub in-none : (b : ℕ) → is_in b [] ≡ true → ⊥
unfolding is_in
in-none b e = true≢false (sym e)

-- what one of the members has, all have together
pub found-gather : {X : Type 0} (key : X → ℕ) (f : X → List ℕ) (t b : ℕ) (xs : List X) (x : X) → find key t xs ≡ Some x → is_in b (f x) ≡ true → is_in b (gather f xs) ≡ true
unfolding find gather
found-gather key f t b [] x e h = absurd (none-some e)
found-gather {X} key f t b (y ∷ ys) x e h = go (eqb (key y) t) e (λ q. found-gather key f t b ys x q h)
  where
    go : (c : Bool) → cond c (Some y) (find key t ys) ≡ Some x → (find key t ys ≡ Some x → is_in b (gather f ys) ≡ true) → is_in b (f y ++ gather f ys) ≡ true
    go true e ih = in_left b (f y) (gather f ys) (subst (λ z. is_in b (f z) ≡ true) (sym (some_inj e)) h)
    go false e ih = in_right b (f y) (gather f ys) (ih e)

-- names
pub same-eq : (m n : List ℕ) → same m n ≡ true → m ≡ n
unfolding same
same-eq [] [] e = refl
same-eq [] (y ∷ ys) e = absurd (true≢false (sym e))
same-eq (x ∷ xs) [] e = absurd (true≢false (sym e))
same-eq (x ∷ xs) (y ∷ ys) e = go (eqb x y) refl e (same-eq xs ys)
  where
    go : (b : Bool) → eqb x y ≡ b → cond b (same xs ys) false ≡ true → (same xs ys ≡ true → xs ≡ ys) → x ∷ xs ≡ y ∷ ys
    go true q e ih = λ i. eqb-true x y q i ∷ ih e i
    go false q e ih = absurd (true≢false (sym e))

pub same_refl : (n : List ℕ) → same n n ≡ true
unfolding same
same_refl [] = refl
same_refl (x ∷ xs) = ap (λ b. cond b (same xs xs) false) (eq-eqb x x refl) ∙ same_refl xs

pub named-gather : (f : List ℕ → List ℕ) (n : List ℕ) (b : ℕ) (ns : List (List ℕ)) → is_named n ns ≡ true → is_in b (f n) ≡ true → is_in b (gather f ns) ≡ true
unfolding is_named gather
named-gather f n b [] e h = absurd (true≢false (sym e))
named-gather f n b (m ∷ ms) e h = go (same m n) refl e (λ q. named-gather f n b ms q h)
  where
    go : (c : Bool) → same m n ≡ c → cond c true (is_named n ms) ≡ true → (is_named n ms ≡ true → is_in b (gather f ms) ≡ true) → is_in b (f m ++ gather f ms) ≡ true
    go true q e ih = in_left b (f m) (gather f ms) (subst (λ z. is_in b (f z) ≡ true) (sym (same-eq m n q)) h)
    go false q e ih = in_right b (f m) (gather f ms) (ih e)

-- free blocks
pub in-keep : (p : ℕ → Bool) (b : ℕ) (xs : List ℕ) → is_in b (keep p xs) ≡ true → (p b ≡ true) × (is_in b xs ≡ true)
unfolding is_in keep
in-keep p b [] e = absurd (true≢false (sym e))
in-keep p b (x ∷ xs) e = go (p x) refl e (in-keep p b xs)
  where
    here : (t : Bool) → eqb x b ≡ t → p x ≡ true → cond t true (is_in b (keep p xs)) ≡ true → (is_in b (keep p xs) ≡ true → (p b ≡ true) × (is_in b xs ≡ true)) → (p b ≡ true) × (cond t true (is_in b xs) ≡ true)
    here true q h e ih = (ap p (sym (eqb-true x b q)) ∙ h, refl)
    here false q h e ih = ih e

    later : (t : Bool) → (p b ≡ true) × (is_in b xs ≡ true) → (p b ≡ true) × (cond t true (is_in b xs) ≡ true)
    later true ih = (ih.0, refl)
    later false ih = ih

    go : (c : Bool) → p x ≡ c → is_in b (cond c (x ∷ keep p xs) (keep p xs)) ≡ true → (is_in b (keep p xs) ≡ true → (p b ≡ true) × (is_in b xs ≡ true)) → (p b ≡ true) × (cond (eqb x b) true (is_in b xs) ≡ true)
    go true q e ih = here (eqb x b) refl q e ih
    go false q e ih = later (eqb x b) (ih e)

pub in_take : (m b : ℕ) (xs : List ℕ) → is_in b (take m xs) ≡ true → is_in b xs ≡ true
unfolding is_in
in_take zero b xs e = absurd (true≢false (sym e))
in_take (suc m) b [] e = e
in_take (suc m) b (x ∷ xs) e = go (eqb x b) e (in_take m b xs)
  where
    go : (t : Bool) → cond t true (is_in b (take m xs)) ≡ true → (is_in b (take m xs) ≡ true → is_in b xs ≡ true) → cond t true (is_in b xs) ≡ true
    go true e ih = refl
    go false e ih = ih e

-- no block twice
unfoldable pub Distinct : List ℕ → Type 0
Distinct [] = Unit {0}
Distinct (x ∷ xs) = (is_in x xs ≡ true → ⊥) × Distinct xs

pub distinct-keep : (p : ℕ → Bool) (xs : List ℕ) → Distinct xs → Distinct (keep p xs)
unfolding Distinct keep
distinct-keep p [] d = tt
distinct-keep p (x ∷ xs) d = go (p x) (distinct-keep p xs d.1)
  where
    go : (c : Bool) → Distinct (keep p xs) → Distinct (cond c (x ∷ keep p xs) (keep p xs))
    go true ih = ((λ e. d.0 (in-keep p x xs e).1), ih)
    go false ih = ih

pub distinct-take : (m : ℕ) (xs : List ℕ) → Distinct xs → Distinct (take m xs)
unfolding Distinct
distinct-take zero xs d = tt
distinct-take (suc m) [] d = tt
distinct-take (suc m) (x ∷ xs) d = ((λ e. d.0 (in_take m x xs e)), distinct-take m xs d.1)

pub in-up_from : (b a n : ℕ) → is_in b (up_from a n) ≡ true → a ≤ b
unfolding is_in up_from
in-up_from b a zero e = absurd (true≢false (sym e))
in-up_from b a (suc n) e = go (eqb a b) refl e (in-up_from b (suc a) n)
  where
    go : (t : Bool) → eqb a b ≡ t → cond t true (is_in b (up_from (suc a) n)) ≡ true → (is_in b (up_from (suc a) n) ≡ true → suc a ≤ b) → a ≤ b
    go true q e ih = let r = eqb-true a b q in omega arith
    go false q e ih = let r = ih e in omega arith

pub distinct-up_from : (a n : ℕ) → Distinct (up_from a n)
unfolding Distinct up_from
distinct-up_from a zero = tt
distinct-up_from a (suc n) = ((λ e. let r = in-up_from a (suc a) n e in omega arith), distinct-up_from (suc a) n)

-- what a write leaves
pub gather-write : (b : ℕ) (bs : List ℕ) (block : ℕ → List ℕ) (xs : List ℕ) → (is_in b xs ≡ true → ⊥) → gather (write b bs block) xs ≡ gather block xs
unfolding is_in gather
gather-write b bs block [] h = refl
gather-write b bs block (x ∷ xs) h = go (eqb b x) refl (gather-write b bs block xs)
  where
    other : eqb b x ≡ false → is_in b xs ≡ true → cond (eqb x b) true (is_in b xs) ≡ true
    other q e = ap (λ c. cond c true (is_in b xs)) (ne_eqb x b (λ r. both_ways (eqb b x) q (eq-eqb b x (sym r)))) ∙ e

    go : (c : Bool) → eqb b x ≡ c → ((is_in b xs ≡ true → ⊥) → gather (write b bs block) xs ≡ gather block xs) → cond c bs (block x) ++ gather (write b bs block) xs ≡ block x ++ gather block xs
    go true q ih = absurd (h (ap (λ c. cond c true (is_in b xs)) (eq-eqb x b (sym (eqb-true b x q)))))
    go false q ih = ap (λ r. block x ++ r) (ih (λ e. h (other q e)))

pub gather_append : {X : Type 0} (f : X → List ℕ) (xs ys : List X) → gather f (xs ++ ys) ≡ gather f xs ++ gather f ys
unfolding gather
gather_append f [] ys = refl
gather_append f (x ∷ xs) ys = ap (λ r. f x ++ r) (gather_append f xs ys) ∙ sym (append_assoc (f x) (gather f xs) (gather f ys))
