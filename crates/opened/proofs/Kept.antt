-- Which files a change of the blocks leaves: a write to a data block that is in no file, and a write to the slot that does not hold, whole or torn.
use Rattle.std.proofs.Common.{◌≡◌, ℕ, zero, suc, ◌+◌, ◌*◌, ◌<◌, Bool, true, false, cond, List, [], ◌++◌, take, Some, None, Option, sym, refl, ap, ◌∙◌, ⊎_elim, arith}
use Rattle.std.specs.Option.{option_map}
use Rattle.std.proofs.lemmas.Bool.{both_ways, cases_Bool, cases_eq, false≢true}
use Rattle.model.specs.Files.{same}
use Rattle.blocks.specs.Sets.{has}
use Rattle.blocks.proofs.Member.{Found, first_found, first-nothing}
use Rattle.record.specs.Names.{name_of}
use Rattle.record.specs.declared.record.Record.{Record}
use Rattle.record.proofs.Same.{same-eq, eq-same}
use Rattle.disk.specs.Disks.{Blocks}
use Rattle.opened.specs.Opened.{held, other_slot, is_of, is_vacant, has_in, place, vacant, or_else, in_file, joined, content, held_at, record_of, opened, Same, Changed}
use Rattle.opened.proofs.First.{first_alike, first-is, any_none}
use Rattle.opened.proofs.Slots.{But, held-is, slot-bounds, held-elsewhere}

-- the data of a set is the same where its blocks are
pub joined_same : (f g : Blocks) (s : List ℕ) (n : ℕ) → ((k : ℕ) → k < n → has s k ≡ true → g (128 + k) ≡ f (128 + k)) → joined g s n ≡ joined f s n
unfolding joined
joined_same f g s zero h = refl
joined_same f g s (suc n) h =
    ap (λ (v : List ℕ). v ++ cond (has s n) (g (128 + n)) []) (joined_same f g s n (λ k l t. h k (omega arith) t))
    ∙ ap (λ (v : List ℕ). joined f s n ++ v) (one (has s n) (h n (omega arith)))
  where
    one : (b : Bool) → (b ≡ true → g (128 + n) ≡ f (128 + n)) → cond b (g (128 + n)) [] ≡ cond b (f (128 + n)) []
    one true k = k refl
    one false k = refl

-- the file of a record stays
abbrev pub Stays : Blocks → Blocks → Record → Type 0
Stays f g r = (k : ℕ) → k < 2048 → has r.blocks.bits k ≡ true → g (128 + k) ≡ f (128 + k)

pub content-same : (f g : Blocks) (r : Record) → Stays f g r → content g r ≡ content f r
content-same f g r h = ap (take r.size) (joined_same f g r.blocks.bits 2048 h)

-- the pair that a name is at
pub place_found : (f : Blocks) (n : List ℕ) (i : ℕ) → place f n ≡ Some i → Found (λ j. is_of n (held f j)) 64 0 i
place_found f n i e = first_found (λ j. is_of n (held f j)) 64 0 i e

module _ (f g : Blocks) where
  held_at-same : (o : Option ℕ) → ((i : ℕ) → o ≡ Some i → held g i ≡ held f i) → held_at g o ≡ held_at f o
  held_at-same None h = refl
  held_at-same (Some i) h = h i refl

  mapped-same : (o : Option Record) → ((r : Record) → o ≡ Some r → content g r ≡ content f r) → option_map (content g) o ≡ option_map (content f) o
  mapped-same None h = refl
  mapped-same (Some r) h = ap (λ (v : List ℕ). Some v) (h r refl)

  -- a name whose pair and file are as they were
  opened-same : (n : List ℕ) → place g n ≡ place f n → ((i : ℕ) → place f n ≡ Some i → held g i ≡ held f i)
      → ((i : ℕ) (r : Record) → i < 64 → held f i ≡ Some r → Stays f g r) → opened g n ≡ opened f n
  unfolding opened
  opened-same n p h k =
      let e : record_of g n ≡ record_of f n = ap (held_at g) p ∙ held_at-same (place f n) h in
      ap (option_map (content g)) e ∙ mapped-same (record_of f n) (λ r q. at (place f n) refl r q)
    where
      at : (o : Option ℕ) → place f n ≡ o → (r : Record) → held_at f o ≡ Some r → content g r ≡ content f r
      at None z r q = absurd (let w : ◌≡◌ {A = ℕ} 0 1 = cc in omega arith)
      at (Some i) z r q = content-same f g r (k i r (let b = (place_found f n i z).below in omega arith) q)

  pub all_same : ((i : ℕ) → i < 64 → held g i ≡ held f i) → ((i : ℕ) (r : Record) → i < 64 → held f i ≡ Some r → Stays f g r) → Same f g
  all_same h k n =
      opened-same n (first_alike (λ i. is_of n (held g i)) (λ i. is_of n (held f i)) 64 0 (λ j a b. ap (is_of n) (h j (omega arith))))
      (λ i e. h i (let b = (place_found f n i e).below in omega arith)) k

  -- a data block that is in no file
  pub data-held : (b i : ℕ) → i < 64 → But f (128 + b) g → held g i ≡ held f i
  data-held b i l o = held-is f g i (o (2 * i) (λ e. omega arith)) (o (2 * i + 1) (λ e. omega arith))

  pub data-kept : (b : ℕ) → in_file f b ≡ false → But f (128 + b) g → Same f g
  data-kept b u o =
      all_same (λ i l. data-held b i l o)
      (λ i r l e k m t.
      o (128 + k) (λ q.
      let s : k ≡ b = omega arith in
      both_ways (has r.blocks.bits b) (ap (λ (x : Option Record). has_in x b) (sym e) ∙ any_none (λ j. has_in (held f j) b) 64 u i l) (ap (has r.blocks.bits) (sym s) ∙ t)))

-- a pair that a put of a name may go to: no other name is there, and it is at none before
pub record Goes (f : Blocks) (n : List ℕ) (i : ℕ) : Type 0 where
  pub below : i < 64
  pub alone : (m : List ℕ) → same m n ≡ false → is_of m (held f i) ≡ false
  pub before : (j : ℕ) → j < i → is_of n (held f j) ≡ false

other_name : (a n m : List ℕ) → same a n ≡ true → same m n ≡ false → same a m ≡ false
other_name a n m e d =
    ⊎_elim (λ t. absurd (both_ways (same m n) d (eq-same m n (sym (same-eq a m t) ∙ same-eq a n e)))) (λ t. t) (cases_Bool (same a m))

alone_of : (o : Option Record) (n : List ℕ) → is_of n o ≡ true → (m : List ℕ) → same m n ≡ false → is_of m o ≡ false
alone_of None n e m d = absurd (false≢true e)
alone_of (Some r) n e m d = other_name (name_of r.name) n m e d

alone-vacant : (o : Option Record) → is_vacant o ≡ true → (m : List ℕ) → is_of m o ≡ false
alone-vacant None e m = refl
alone-vacant (Some r) e m = absurd (false≢true e)

pub goes : (f : Blocks) (n : List ℕ) (i : ℕ) → or_else (place f n) (vacant f) ≡ Some i → Goes f n i
goes f n i e = go (place f n) refl e
  where
    go : (o : Option ℕ) → place f n ≡ o → or_else o (vacant f) ≡ Some i → Goes f n i
    go None z q =
        let v = first_found (λ j. is_vacant (held f j)) 64 0 i q in
        record {
          below = omega (arith, v.below);
          alone = λ m d. alone-vacant (held f i) v.passes m;
          before = λ j l. first-nothing (λ k. is_of n (held f k)) 64 0 z j (omega arith) (let b = v.below in omega arith);
        }
    go (Some j) z q =
        let s : j ≡ i = cc in
        let v = place_found f n i (z ∙ q) in
        record { below = omega (arith, v.below); alone = λ m d. alone_of (held f i) n v.passes m d; before = λ k l. v.before k (omega arith) l }

-- a write to the slot of that pair that does not hold
module _ (f g : Blocks) (n : List ℕ) (i : ℕ) (w : Goes f n i) (o : But f (other_slot f i) g) where
  data-stays : (r : Record) → Stays f g r
  data-stays r k l t = let b = slot-bounds f i in let m = w.below in o (128 + k) (λ e. omega (arith, b.1, m))

  pub slot_kept : held g i ≡ held f i → Same f g
  slot_kept e =
      all_same f g (λ j l. ⊎_elim (λ q. ap (held g) q ∙ e ∙ ap (held f) (sym q)) (held-elsewhere f g i j o) (cases_eq j i)) (λ j r l q. data-stays r)

  pub slot-new : (r : Record) → name_of r.name ≡ n → held g i ≡ Some r → Changed f n (content f r) g
  unfolding opened
  slot-new r en e =
      let here : is_of n (held g i) ≡ true = ap (is_of n) e ∙ eq-same (name_of r.name) n en in
      let at : place g n ≡ Some i =
      first-is (λ j. is_of n (held g j)) 64 0 i (omega arith) (let b = w.below in omega arith) here
      (λ j a l. ap (is_of n) (held-elsewhere f g i j o (λ q. omega arith)) ∙ w.before j l) in
      record {
        new = ap (λ (p : Option ℕ). option_map (content g) (held_at g p)) at ∙ ap (option_map (content g)) e ∙ ap (λ (v : List ℕ). Some v) (content-same f g r (data-stays r));
        others = λ m d.
            let there : is_of m (held g i) ≡ is_of m (held f i) =
            ap (is_of m) e ∙ other_name (name_of r.name) n m (eq-same (name_of r.name) n en) d ∙ sym (w.alone m d) in
            opened-same f g m
            (first_alike (λ j. is_of m (held g j)) (λ j. is_of m (held f j)) 64 0
            (λ j a b. ⊎_elim (λ q. ap (λ (x : ℕ). is_of m (held g x)) q ∙ there ∙ ap (λ (x : ℕ). is_of m (held f x)) (sym q))
            (λ q. ap (is_of m) (held-elsewhere f g i j o q)) (cases_eq j i)))
            (λ j z.
            held-elsewhere f g i j o (λ q.
            both_ways (is_of m (held f i)) (w.alone m d) (ap (λ (x : ℕ). is_of m (held f x)) (sym q) ∙ (place_found f m j z).passes)))
            (λ j x l q. data-stays x);
      }
