-- A name's two slots: what holds after a record, junk or the old bytes went into the one that does not hold. Assumes nothing.
use Rattle.std.proofs.Common.{◌≡◌, ℕ, ◌<◌, Bool, true, false, cond, not, ltb, List, ◌∷◌, Some, Option, refl, ap, ◌∙◌, subst, arith}
use Rattle.std.proofs.lemmas.Bool.{lt-ltb, le-ltb}
use Rattle.model.specs.Files.{Entry, Slot, Junk, Fits, Slots, Put, same, is_named, holding, first_holds, held, count_in, entry, in_place, not_holding, in_slot, add_name}
use Rattle.model.proofs.FileLists.{same-eq, same_refl}

abbrev pub held_in : Slots → Option Entry
held_in two = holding two.first two.second

abbrev pub put : Slot → Slots → Slots
put x two = in_place (first_holds two.first two.second) x two

pub holds-new : (a b : Slot) (x : Entry) → count_in (holding a b) < x.count → held_in (put (Fits x) (record { first = a; second = b })) ≡ Some x
holds-new Junk Junk x h = refl
holds-new Junk (Fits b) x h = ap (λ t. cond t (Some b) (Some x)) (le-ltb x.count b.count (omega arith))
holds-new (Fits a) Junk x h = ap (λ t. cond t (Some x) (Some a)) (lt-ltb a.count x.count h)
holds-new (Fits a) (Fits b) x h = go (ltb a.count b.count) h
  where
    go : (t : Bool) → count_in (cond t (Some b) (Some a)) < x.count → held_in (in_place (not t) (Fits x) (record { first = Fits a; second = Fits b })) ≡ Some x
    go true h = ap (λ t. cond t (Some b) (Some x)) (le-ltb x.count b.count (omega arith))
    go false h = ap (λ t. cond t (Some x) (Some a)) (lt-ltb a.count x.count h)

pub holds-still : (a b : Slot) → held_in (put Junk (record { first = a; second = b })) ≡ holding a b
holds-still Junk Junk = refl
holds-still Junk (Fits b) = refl
holds-still (Fits a) Junk = refl
holds-still (Fits a) (Fits b) = go (ltb a.count b.count)
  where
    go : (t : Bool) → held_in (in_place (not t) Junk (record { first = Fits a; second = Fits b })) ≡ cond t (Some b) (Some a)
    go true = refl
    go false = refl

pub same-slots : (two : Slots) → put (not_holding two) two ≡ two
same-slots two = go (first_holds two.first two.second)
  where
    go : (t : Bool) → in_place t (cond t two.second two.first) two ≡ two
    go true = refl
    go false = refl

-- what holds of a name m when something went into a slot of n
pub held-other : (x : Slot) (n m : List ℕ) (slots : List ℕ → Slots) → same n m ≡ false → held (in_slot x n slots) m ≡ held slots m
held-other x n m slots e = ap (λ t. held_in (cond t (put x (slots n)) (slots m))) e

pub held_same : (x : Slot) (n m : List ℕ) (slots : List ℕ → Slots) → same n m ≡ true → held (in_slot x n slots) m ≡ held_in (put x (slots n))
held_same x n m slots e = ap (λ t. held_in (cond t (put x (slots n)) (slots m))) e

pub held_new : (p : Put) (m : List ℕ) (slots : List ℕ → Slots) → same p.name m ≡ true → held (in_slot (Fits (entry slots p)) p.name slots) m ≡ Some (entry slots p)
held_new p m slots e = held_same (Fits (entry slots p)) p.name m slots e ∙ holds-new (slots p.name).first (slots p.name).second (entry slots p) (omega arith)

-- a crash that does not leave the new record leaves what holds
pub held-spoilt : (n m : List ℕ) (slots : List ℕ → Slots) → held (in_slot Junk n slots) m ≡ held slots m
held-spoilt n m slots = go (same n m) refl
  where
    go : (t : Bool) → same n m ≡ t → held (in_slot Junk n slots) m ≡ held slots m
    go true e = held_same Junk n m slots e ∙ holds-still (slots n).first (slots n).second ∙ ap (held slots) (same-eq n m e)
    go false e = held-other Junk n m slots e

pub held-old : (n m : List ℕ) (slots : List ℕ → Slots) → held (in_slot (not_holding (slots n)) n slots) m ≡ held slots m
held-old n m slots = go (same n m) refl
  where
    go : (t : Bool) → same n m ≡ t → held (in_slot (not_holding (slots n)) n slots) m ≡ held slots m
    go true e = held_same (not_holding (slots n)) n m slots e ∙ ap held_in (same-slots (slots n)) ∙ ap (held slots) (same-eq n m e)
    go false e = held-other (not_holding (slots n)) n m slots e

pub named-now : (n m : List ℕ) (ns : List (List ℕ)) → same n m ≡ true → is_named m (add_name n ns) ≡ true
unfolding is_named
named-now n m ns e = subst (λ k. is_named k (add_name n ns) ≡ true) (same-eq n m e) (go (is_named n ns) refl)
  where
    go : (t : Bool) → is_named n ns ≡ t → is_named n (cond t ns (n ∷ ns)) ≡ true
    go true q = q
    go false q = ap (λ t. cond t true (is_named n ns)) (same_refl n)

pub named-still : (n m : List ℕ) (ns : List (List ℕ)) → is_named m ns ≡ true → is_named m (add_name n ns) ≡ true
unfolding is_named
named-still n m ns e = go (is_named n ns)
  where
    in-cons : (t : Bool) → cond t true (is_named m ns) ≡ true
    in-cons true = refl
    in-cons false = e

    go : (t : Bool) → is_named m (cond t ns (n ∷ ns)) ≡ true
    go true = e
    go false = in-cons (same n m)
