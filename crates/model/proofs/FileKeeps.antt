-- What holds of files after every event: each name has the file that was put last, and the blocks of a put are its own. Assumes nothing.
use Rattle.std.proofs.Common.{◌≡◌, ℕ, Bool, true, false, cond, eqb, List, [], ◌∷◌, Some, Option, sym, refl, ap, ◌∙◌, subst}
use Rattle.std.proofs.lemmas.Bool.{both_ways, eqb-true, eq-eqb, ne_eqb}
use Rattle.model.specs.Keyed.{find, is_in, gather}
use Rattle.model.specs.Files.{Entry, Slots, Put, Get, without, is_named, put_number, get_number, held, blocks_in, bytes_in, blocks_of_put, with_put}
use Rattle.model.specs.FilePromises.{Apart}
use Rattle.model.proofs.FileLists.{none-some, some_inj, found-without, Distinct}

-- each name has the file that is wanted, and who has blocks is named
pub record Kept (block : ℕ → List ℕ) (slots : List ℕ → Slots) (names : List (List ℕ)) (want : List ℕ → Option (List ℕ)) : Type 0 where
  pub whole : (n : List ℕ) → bytes_in block (held slots n) ≡ want n
  pub named : (n : List ℕ) (b : ℕ) → is_in b (blocks_in (held slots n)) ≡ true → is_named n names ≡ true

-- a put has written what it was given, and its blocks are its own
pub record Own (block : ℕ → List ℕ) (slots : List ℕ → Slots) (puts : List Put) (gets : List Get) (k : ℕ) (p : Put) : Type 0 where
  pub given : gather block p.done ≡ p.given
  pub once : Distinct p.left
  pub ahead : Apart p.left p.done
  pub records : (n : List ℕ) → Apart (blocks_of_put p) (blocks_in (held slots n))
  pub others : (j : ℕ) (q : Put) → eqb k j ≡ false → find put_number j puts ≡ Some q → Apart (blocks_of_put p) (blocks_of_put q)
  pub readers : (g : ℕ) (x : Get) → find get_number g gets ≡ Some x → Apart (blocks_of_put p) x.blocks

pub record Inv (block : ℕ → List ℕ) (slots : List ℕ → Slots) (names : List (List ℕ)) (puts : List Put) (gets : List Get) (want : List ℕ → Option (List ℕ)) : Type 0 where
  pub kept : Kept block slots names want
  pub own : (k : ℕ) (p : Put) → find put_number k puts ≡ Some p → Own block slots puts gets k p

flip : (k j : ℕ) → eqb k j ≡ false → eqb j k ≡ false
flip k j e = ne_eqb j k (λ q. both_ways (eqb k j) e (eq-eqb k j (sym q)))

-- nothing under way
pub alone : (block : ℕ → List ℕ) (slots : List ℕ → Slots) (names : List (List ℕ)) (want : List ℕ → Option (List ℕ)) → Kept block slots names want → Inv block slots names [] [] want
unfolding find
alone block slots names want h = record { kept = h; own = λ k p e. absurd (none-some e) }

-- a put taken away
pub put-away : (block : ℕ → List ℕ) (slots : List ℕ → Slots) (names : List (List ℕ)) (puts : List Put) (gets : List Get) (want : List ℕ → Option (List ℕ)) (k : ℕ) →
    Inv block slots names puts gets want → Inv block slots names (without put_number k puts) gets want
put-away block slots names puts gets want k h =
    record {
      kept = h.kept;
      own = λ j q e.
          let o = h.own j q (found-without put_number k j puts q e).1 in
          record { given = o.given; once = o.once; ahead = o.ahead; records = o.records; others = λ i r ne f. o.others i r ne (found-without put_number k i puts r f).1; readers = o.readers };
    }

-- a get taken away
pub get-away : (block : ℕ → List ℕ) (slots : List ℕ → Slots) (names : List (List ℕ)) (puts : List Put) (gets : List Get) (want : List ℕ → Option (List ℕ)) (g : ℕ) →
    Inv block slots names puts gets want → Inv block slots names puts (without get_number g gets) want
get-away block slots names puts gets want g h =
    record {
      kept = h.kept;
      own = λ j q e.
          let o = h.own j q e in
          record { given = o.given; once = o.once; ahead = o.ahead; records = o.records; others = o.others; readers = λ i x f. o.readers i x (found-without get_number g i gets x f).1 };
    }

-- a get more, with the blocks of a record that holds
pub get-more : (block : ℕ → List ℕ) (slots : List ℕ → Slots) (names : List (List ℕ)) (puts : List Put) (gets : List Get) (want : List ℕ → Option (List ℕ)) (g : ℕ) (n : List ℕ) (x : Entry) →
    held slots n ≡ Some x → Inv block slots names puts gets want → Inv block slots names puts (record { number = g; blocks = x.blocks } ∷ gets) want
unfolding find
get-more block slots names puts gets want g n x s h =
    record {
      kept = h.kept;
      own = λ j q e. record { given = (h.own j q e).given; once = (h.own j q e).once; ahead = (h.own j q e).ahead; records = (h.own j q e).records; others = (h.own j q e).others; readers = λ i y f. go j q e i y (eqb g i) f };
    }
  where
    go : (j : ℕ) (q : Put) → find put_number j puts ≡ Some q → (i : ℕ) (y : Get) (t : Bool) → cond t (Some (record { number = g; blocks = x.blocks })) (find get_number i gets) ≡ Some y → Apart (blocks_of_put q) y.blocks
    go j q e i y true f b a c = (h.own j q e).records n b a (ap (λ o. is_in b (blocks_in o)) s ∙ ap (λ (z : Get). is_in b z.blocks) (some_inj f) ∙ c)
    go j q e i y false f b a c = (h.own j q e).readers i y f b a c

-- a put as it then is, in place of what it was
pub put-now : (block : ℕ → List ℕ) (slots : List ℕ → Slots) (names : List (List ℕ)) (puts : List Put) (gets : List Get) (want : List ℕ → Option (List ℕ)) (p : Put) →
    Kept block slots names want → Own block slots puts gets p.number p → ((j : ℕ) (q : Put) → eqb p.number j ≡ false → find put_number j puts ≡ Some q → Own block slots puts gets j q) →
    Inv block slots names (with_put p puts) gets want
unfolding find
put-now block slots names puts gets want p kept new old = record { kept = kept; own = λ j q e. go j q (eqb p.number j) refl e }
  where
    -- what is found besides j, for a put r that is apart from p and from all that were there besides j
    apart : (j : ℕ) (r : Put) → ((i : ℕ) (q : Put) → eqb p.number i ≡ false → eqb j i ≡ false → find put_number i puts ≡ Some q → Apart (blocks_of_put r) (blocks_of_put q)) →
        (eqb j p.number ≡ false → Apart (blocks_of_put r) (blocks_of_put p)) →
        (i : ℕ) (q : Put) (t : Bool) → eqb p.number i ≡ t → eqb j i ≡ false → cond t (Some p) (find put_number i (without put_number p.number puts)) ≡ Some q → Apart (blocks_of_put r) (blocks_of_put q)
    apart j r rest this i q true e ne f = subst (λ z. Apart (blocks_of_put r) (blocks_of_put z)) (some_inj f) (this (subst (λ m. eqb j m ≡ false) (sym (eqb-true p.number i e)) ne))
    apart j r rest this i q false e ne f = rest i q e ne (found-without put_number p.number i puts q f).1

    self : (j : ℕ) → p.number ≡ j → Own block slots (with_put p puts) gets j p
    self j s =
        record {
          given = new.given;
          once = new.once;
          ahead = new.ahead;
          records = new.records;
          others = λ i q ne f. apart j p (λ a r e _ k. new.others a r e k) (λ w. absurd (both_ways (eqb j p.number) w (eq-eqb j p.number (sym s)))) i q (eqb p.number i) refl ne f;
          readers = new.readers;
        }

    other : (j : ℕ) (q : Put) → eqb p.number j ≡ false → find put_number j puts ≡ Some q → Own block slots (with_put p puts) gets j q
    other j q e f =
        let o = old j q e f in
        record {
          given = o.given;
          once = o.once;
          ahead = o.ahead;
          records = o.records;
          others = λ i r ne k. apart j q (λ a z _ w k. o.others a z w k) (λ _ b x y. new.others j q e f b y x) i r (eqb p.number i) refl ne k;
          readers = o.readers;
        }

    go : (j : ℕ) (q : Put) (t : Bool) → eqb p.number j ≡ t → cond t (Some p) (find put_number j (without put_number p.number puts)) ≡ Some q → Own block slots (with_put p puts) gets j q
    go j q true e f = subst (Own block slots (with_put p puts) gets j) (some_inj f) (self j (eqb-true p.number j e))
    go j q false e f = other j q e (found-without put_number p.number j puts q f).1
