-- One place of the table changed: the blocks of puts stay with them alone.
use Rattle.std.proofs.Common.{◌≡◌, ℕ, zero, suc, ◌+◌, ◌-◌, ◌<◌, Bool, true, false, cond, not, leb, List, length, set, replicate, Some, None, Option, MatchOption, sym, refl, ap, ◌∙◌, subst, ⊎_elim, arith}
use Rattle.std.specs.List.{AllWithin, HoldsAt}
use Rattle.std.proofs.lemmas.List.{get_or-set_same, get_or-set_other, length-set, set_past, get_or-replicate, length-replicate}
use Rattle.std.proofs.lemmas.Bool.{both_ways, cases_Bool, cases_eq, cases_lt, or_parts}
use Rattle.blocks.specs.Sets.{has, first, lowest, tally, is_free}
use Rattle.blocks.specs.declared.Set.{Set}
use Rattle.blocks.proofs.Member.{lowest-free, lowest-alike, tally-alike, free-alike, first_found}
use Rattle.blocks.proofs.Chains.{first-is}
use Rattle.record.specs.declared.record.Record.{Record}
use Rattle.disk.specs.Disks.{Blocks}
use Rattle.opened.specs.Opened.{in_file, held, has_in, record_of, held_at, place}
use Rattle.opened.proofs.First.{any_none}
use Rattle.opened.proofs.Kept.{place_found}
use Rattle.store.specs.Leases.{Table, lease, is_nothing, lease_has, in_lease, used, unused, free_count, Alone, Sound, put_place, put_set}
use Rattle.store.specs.declared.lease.Lease.{Lease}
use Rattle.store.specs.declared.lease.Lease.TheVariants.{Put, Get}

nothing-is-no-put : (s : Set) → ◌≡◌ {A = Option Lease} None (Some (Put s)) → ⊥
nothing-is-no-put s e = let z : ◌≡◌ {A = ℕ} 0 1 = cc in omega arith

get-is-no-put : (r s : Set) → Some (Get r) ≡ Some (Put s) → ⊥
get-is-no-put r s e = let z : ◌≡◌ {A = ℕ} 0 1 = cc in omega arith

same-put : (r s : Set) → Some (Put r) ≡ Some (Put s) → r ≡ s
same-put r s e = cc

-- the first place with nothing under way
pub first-place : (ls : Table) → length ls ≡ 16 → (r : Option ℕ)
    → MatchOption r (AllWithin (λ x. is_nothing x ≡ false) ls 0 (length ls)) (λ i. (i < length ls) × HoldsAt (λ x. is_nothing x ≡ true) ls i × AllWithin (λ x. is_nothing x ≡ false) ls 0 i)
    → r ≡ unused ls
first-place ls l None h = first-is (λ t. is_nothing (lease ls t)) 16 16 0 refl None (λ j a b. h j None (omega arith) (omega arith))
first-place ls l (Some i) h = first-is (λ t. is_nothing (lease ls t)) 16 16 0 refl (Some i) (omega arith, omega (arith, h.0), h.1 None, λ j a b. h.2 j None a b)

pub unused-below : (ls : Table) (t : ℕ) → Some t ≡ unused ls → t < 16
unused-below ls t e = let f = first_found (λ k. is_nothing (lease ls k)) 16 0 t (sym e) in omega (arith, f.below)

pub sound_none : (f : Blocks) → Sound f (replicate {A = Option Lease} 16 None)
sound_none f =
    record {
      places = length-replicate {A = Option Lease} 16 None;
      alone = λ t s h e. absurd (nothing-is-no-put s (sym (get_or-replicate 16 t None None h) ∙ e));
    }

-- a new entry x at t that no put has a block of, alone if it is a put itself
module _ (f : Blocks) (ls : Table) (t : ℕ) (x : Option Lease) (ok : Sound f ls) where
  at_other : (u : ℕ) → (u ≡ t → ⊥) → lease (set ls t x) u ≡ lease ls u
  at_other u n = get_or-set_other ls t u x None n

  pub sound-set : t < 16 → ((u : ℕ) (s : Set) → u < 16 → (u ≡ t → ⊥) → lease ls u ≡ Some (Put s) → (b : ℕ) → has s.bits b ≡ true → lease_has x b ≡ false)
      → ((s : Set) → x ≡ Some (Put s) → Alone f ls t s) → Sound f (set ls t x)
  sound-set h clear own =
      let here : lease (set ls t x) t ≡ x = get_or-set_same ls t x None (let l = ok.places in omega arith) in
      record {
        places = length-set ls t x ∙ ok.places;
        alone = λ u s l e.
            ⊎_elim
            (λ (q : u ≡ t).
            let a = own s (sym here ∙ ap (lease (set ls t x)) (sym q) ∙ e) in
            record {
              files = a.files;
              others = λ v b m n z. ap (λ (y : Option Lease). lease_has y b) (at_other v (λ w. n (w ∙ sym q))) ∙ a.others v b m (λ w. n (w ∙ sym q)) z;
            })
            (λ (q : u ≡ t → ⊥).
            let p : lease ls u ≡ Some (Put s) = sym (at_other u q) ∙ e in
            let a = ok.alone u s l p in
            record {
              files = a.files;
              others = λ v b m n z.
                  ⊎_elim (λ (w : v ≡ t). ap (λ (y : ℕ). lease_has (lease (set ls t x) y) b) w ∙ ap (λ (y : Option Lease). lease_has y b) here ∙ clear u s l q p b z)
                  (λ (w : v ≡ t → ⊥). ap (λ (y : Option Lease). lease_has y b) (at_other v w) ∙ a.others v b m n z)
                  (cases_eq v t);
            })
            (cases_eq u t);
      }

pub sound-release : (f : Blocks) (ls : Table) (t : ℕ) → Sound f ls → Sound f (set ls t None)
sound-release f ls t ok =
    ⊎_elim (λ h. sound-set f ls t None ok h (λ u s l n e b z. refl) (λ s e. absurd (nothing-is-no-put s e)))
    (λ h. subst (Sound f) (sym (set_past ls t None (let l = ok.places in omega arith))) ok)
    (cases_lt t 16)

pub sound-put : (f : Blocks) (ls : Table) (t many : ℕ) → Sound f ls → t < 16 → Sound f (set ls t (Some (Put (put_set f ls many))))
sound-put f ls t many ok h =
    let free : (b : ℕ) → has (put_set f ls many).bits b ≡ true → used f ls b ≡ false = λ b e. (lowest-free (used f ls) many 2048 (omega arith) b e).unused in
    sound-set f ls t (Some (Put (put_set f ls many))) ok h
    (λ u s l n e b z.
    ⊎_elim
    (λ (q : has (put_set f ls many).bits b ≡ true).
    absurd (both_ways (has s.bits b)
    (ap (λ (y : Option Lease). lease_has y b) (sym e) ∙ any_none (λ v. lease_has (lease ls v) b) 16 (or_parts (in_file f b) (in_lease ls b) (free b q)).1 u l) z))
    (λ q. q)
    (cases_Bool (has (put_set f ls many).bits b)))
    (λ s e.
    let q : put_set f ls many ≡ s = same-put (put_set f ls many) s e in
    subst (Alone f ls t) q
    (record {
      files = λ b z. (or_parts (in_file f b) (in_lease ls b) (free b z)).0;
      others = λ v b m n z. any_none (λ w. lease_has (lease ls w) b) 16 (or_parts (in_file f b) (in_lease ls b) (free b z)).1 v m;
    }))

-- the blocks of a record that holds are in a file
pub in-file : (f : Blocks) (i b : ℕ) → i < 64 → has_in (held f i) b ≡ true → in_file f b ≡ true
in-file f i b l e = ⊎_elim (λ q. q) (λ q. absurd (both_ways (has_in (held f i) b) (any_none (λ j. has_in (held f j) b) 64 q i l) e)) (cases_Bool (in_file f b))

pub sound-get : (f : Blocks) (ls : Table) (t i : ℕ) (r : Record) → Sound f ls → t < 16 → i < 64 → held f i ≡ Some r → Sound f (set ls t (Some (Get r.blocks)))
sound-get f ls t i r ok h li er =
    sound-set f ls t (Some (Get r.blocks)) ok h
    (λ u s l n e b z.
    ⊎_elim
    (λ (q : has r.blocks.bits b ≡ true).
    absurd (both_ways (in_file f b) ((ok.alone u s l e).files b z) (in-file f i b li (ap (λ (o : Option Record). has_in o b) er ∙ q))))
    (λ q. q)
    (cases_Bool (has r.blocks.bits b)))
    (λ s e. absurd (get-is-no-put r.blocks s e))

pub sound-blocks : (f g : Blocks) (ls : Table) → Sound f ls → ((b : ℕ) → in_file g b ≡ in_file f b) → Sound g ls
sound-blocks f g ls ok e =
    record { places = ok.places; alone = λ t s h q. let a = ok.alone t s h q in record { files = λ b z. e b ∙ a.files b z; others = a.others } }

-- what is used and what is free make all
pub used-and-free : (p : ℕ → Bool) (n : ℕ) → tally (is_free p) n + tally p n ≡ n
unfolding tally
used-and-free p zero = refl
used-and-free p (suc n) = both (p n) (used-and-free p n)
  where
    both : (b : Bool) → tally (is_free p) n + tally p n ≡ n → (tally (is_free p) n + cond (not b) 1 0) + (tally p n + cond b 1 0) ≡ suc n
    both true e = omega arith
    both false e = omega arith

pub next-below : (p : ℕ → Bool) (from b : ℕ) → first p (2048 - from) from ≡ Some b → b < 2048
next-below p from b e = let w = first_found p (2048 - from) from b e in omega (arith, w.from, w.below)

-- a set that has what is used says how much is free, and which is lowest
module _ (f : Blocks) (ls : Table) (u : Set) (h : (b : ℕ) → b < 2048 → has u.bits b ≡ used f ls b) where
  pub free-is : tally (is_free (has u.bits)) 2048 ≡ free_count f ls
  free-is = tally-alike (is_free (has u.bits)) (is_free (used f ls)) 2048 (free-alike (has u.bits) (used f ls) 2048 h)

  pub set_is : (many : ℕ) → record { bits = lowest (has u.bits) many 2048 } ≡ put_set f ls many
  set_is many = let wrap : List ℕ → Set = λ s. record { bits = s } in ap wrap (lowest-alike (has u.bits) (used f ls) many 2048 h)

  abbrev lent : ℕ → Bool → Option Set
  lent many v = cond v (Some (record { bits = lowest (has u.bits) many 2048 })) None

  lent_none : (many : ℕ) (v : Bool) → lent many v ≡ None → v ≡ false
  lent_none many true e = absurd (let z : ◌≡◌ {A = ℕ} 0 1 = cc in omega arith)
  lent_none many false e = refl

  lent-some : (many : ℕ) (v : Bool) (s : Set) → lent many v ≡ Some s → (v ≡ true) × (s ≡ record { bits = lowest (has u.bits) many 2048 })
  lent-some many true s e = (refl, cc)
  lent-some many false s e = absurd (let z : ◌≡◌ {A = ℕ} 0 1 = cc in omega arith)

  pub short-of : (many : ℕ) → lent many (leb many (tally (is_free (has u.bits)) 2048)) ≡ None → None ≡ put_place f ls many
  short-of many e =
      let pick : Bool → Option ℕ = λ v. cond v (unused ls) None in
      sym (ap pick (ap (leb many) (sym free-is) ∙ lent_none many (leb many (tally (is_free (has u.bits)) 2048)) e))

  pub enough : (many t : ℕ) (s : Set) → lent many (leb many (tally (is_free (has u.bits)) 2048)) ≡ Some s → Some t ≡ unused ls → (Some t ≡ put_place f ls many) × (s ≡ put_set f ls many)
  enough many t s e q =
      let w = lent-some many (leb many (tally (is_free (has u.bits)) 2048)) s e in
      let pick : Bool → Option ℕ = λ v. cond v (unused ls) None in
      (q ∙ sym (ap pick (ap (leb many) (sym free-is) ∙ w.0)), w.1 ∙ set_is many)

-- the pair that a name's record holds in
pub record HeldIn (f : Blocks) (r : Record) : Type 0 where
  pub pair : ℕ
  pub below : pair < 64
  pub holds : held f pair ≡ Some r

pub record-held : (f : Blocks) (n : List ℕ) (r : Record) → record_of f n ≡ Some r → HeldIn f r
record-held f n r e = go (place f n) refl e
  where
    go : (o : Option ℕ) → place f n ≡ o → held_at f o ≡ Some r → HeldIn f r
    go None q z = absurd (let w : ◌≡◌ {A = ℕ} 0 1 = cc in omega arith)
    go (Some i) q z = record { pair = i; below = omega (arith, (place_found f n i q).below); holds = z }
