-- What the writes of a put leave, whole or torn.
use Rattle.std.proofs.Common.{◌≡◌, ℕ, suc, ◌+◌, ◌-◌, ◌*◌, ◌^◌, ◌<◌, Bool, true, false, cond, ◌&&◌, ltb, List, length, set, Some, None, Option, sym, refl, ap, ◌∙◌, subst, inl, inr, ⊎_elim, arith}
use Rattle.std.specs.Option.{option_map}
use Rattle.std.proofs.lemmas.List.{get_or_past, get_or-set_same, get_or-set_other}
use Rattle.std.proofs.lemmas.Bool.{both_ways, and_parts, ltb-true, cases_lt, cases_eq, cases_Bool}
use Rattle.blocks.specs.Sets.{has, first}
use Rattle.blocks.specs.declared.Set.{Set}
use Rattle.blocks.proofs.Member.{has-none, first_found}
use Rattle.record.specs.Names.{name_of}
use Rattle.record.specs.Records.{decode, encode, makes_sense, Whole}
use Rattle.record.specs.declared.name.Name.{Name}
use Rattle.record.specs.declared.record.Record.{Record}
use Rattle.record.proofs.Coding.{decode-encode}
use Rattle.disk.specs.Disks.{Blocks, Wrote}
use Rattle.opened.specs.Opened.{held, has_in, other_slot, count_in, place, vacant, or_else, target_at, joined, content, Changed}
use Rattle.opened.proofs.First.{any_none, none_any, any-alike}
use Rattle.opened.proofs.Slots.{But, held-is, held-elsewhere, held-junk, held_new, held-old, slot-bounds}
use Rattle.opened.proofs.Kept.{all_same, data-held, data-kept, joined_same, Goes, goes, slot_kept, slot-new}
use Rattle.store.specs.Leases.{Table, lease, lease_has, Alone, Sound}
use Rattle.store.specs.Stores.{lease_bits, WroteNext, Kept, new_record, prepare_at, prepared, Outcome}
use Rattle.store.specs.declared.lease.Lease.{Lease}
use Rattle.store.specs.declared.lease.Lease.TheVariants.{Put, Get}
use Rattle.store.specs.declared.store.Prepared.{Prepared}
use Rattle.store.proofs.Tables.{sound-blocks, sound-release}

bits-have : (x : Option Lease) (b : ℕ) → has (lease_bits x) b ≡ lease_has x b
bits-have None b = has-none 256 b
bits-have (Some x) b = refl

no-nothing-put : (s : Set) → ◌≡◌ {A = Option Lease} None (Some (Put s)) → ⊥
no-nothing-put s e = let z : ◌≡◌ {A = ℕ} 0 1 = cc in omega arith

-- a put is in the table
pub put-within : (ls : Table) (t : ℕ) (s : Set) → length ls ≡ 16 → lease ls t ≡ Some (Put s) → t < 16
put-within ls t s l e =
    ⊎_elim (λ h. h) (λ h. absurd (no-nothing-put s (sym (get_or_past ls t None (omega arith)) ∙ e))) (cases_lt t 16)

-- A block of data: no file and nothing of others under way changes.
pub write_kept : (f g : Blocks) (ls : Table) (t b : ℕ) (s : Set) (x : List ℕ) (up : Bool)
    → Sound f ls → lease ls t ≡ Some (Put s) → has s.bits b ≡ true → Wrote f (128 + b) x up g → Kept f ls t g
write_kept f g ls t b s x up ok e h w =
    let l : t < 16 = put-within ls t s ok.places e in
    let a : Alone f ls t s = ok.alone t s l e in
    record {
      same = data-kept f g b (a.files b h) w.others;
      sound = sound-blocks f g ls ok (λ c. any-alike (λ i. has_in (held g i) c) (λ i. has_in (held f i) c) 64
          (λ i m. ap (λ (o : Option Record). has_in o c) (data-held f g b i m w.others)));
      others = λ u k m n.
          joined_same f g (lease_bits (lease ls u)) k (λ j lj z.
          w.others (128 + j) (λ q.
          let same : j ≡ b = omega arith in
          both_ways (lease_has (lease ls u) b) (a.others u b m n h) (sym (bits-have (lease ls u) b) ∙ ap (has (lease_bits (lease ls u))) (sym same) ∙ z)));
    }

pub kept-none : (f g : Blocks) (ls : Table) (t : ℕ) → ((a : ℕ) → g a ≡ f a) → Sound f ls → Kept f ls t g
kept-none f g ls t e ok =
    let h : (i : ℕ) → held g i ≡ held f i = λ i. held-is f g i (e (2 * i)) (e (2 * i + 1)) in
    record {
      same = all_same f g (λ i l. h i) (λ i r l q k m z. e (128 + k));
      sound = sound-blocks f g ls ok (λ c. any-alike (λ i. has_in (held g i) c) (λ i. has_in (held f i) c) 64 (λ i m. ap (λ (o : Option Record). has_in o c) (h i)));
      others = λ u k m n. joined_same f g (lease_bits (lease ls u)) k (λ j lj z. e (128 + j));
    }

-- the next block of a put, or none
pub next-kept : (f g : Blocks) (ls : Table) (t from : ℕ) (s : Set) (x : List ℕ) (up : Bool) → lease ls t ≡ Some (Put s)
    → WroteNext f (first (has s.bits) (2048 - from) from) x up g → Sound f ls → Kept f ls t g
next-kept f g ls t from s x up e w ok = go (first (has s.bits) (2048 - from) from) refl w
  where
    go : (o : Option ℕ) → first (has s.bits) (2048 - from) from ≡ o → WroteNext f o x up g → Kept f ls t g
    go None q v = kept-none f g ls t v ok
    go (Some b) q v = write_kept f g ls t b s x up ok e (first_found (has s.bits) (2048 - from) from b q).passes v

-- what is known of a record that is to be written
pub record Ready (f : Blocks) (n : List ℕ) (size : ℕ) (x : Option Lease) (p : Prepared) : Type 0 where
  pub set : Set
  pub put : x ≡ Some (Put set)
  pub pair : ℕ
  pub goes : Goes f n pair
  pub slot : p.slot ≡ other_slot f pair
  pub count : p.entry.count ≡ suc (count_in (held f pair))
  pub most : p.entry.count < 2 ^ 64
  pub sense : makes_sense p.entry ≡ true
  pub name : name_of p.entry.name ≡ n
  pub blocks : p.entry.blocks ≡ set
  pub length : p.entry.size ≡ size

ready_at : (f : Blocks) (s : Set) (n : Name) (size : ℕ) (p : Prepared) (i : ℕ) (v : Bool) → or_else (place f (name_of n)) (vacant f) ≡ Some i
    → (ltb (target_at f i).count 18446744073709551615 && makes_sense (new_record s n size (target_at f i))) ≡ v
    → cond v (Some (record { slot = (target_at f i).slot; entry = new_record s n size (target_at f i) })) None ≡ Some p → Ready f (name_of n) size (Some (Put s)) p
ready_at f s n size p i true eo ev q =
    let parts = and_parts (ltb (target_at f i).count 18446744073709551615) (makes_sense (new_record s n size (target_at f i))) ev in
    let e : record { slot = (target_at f i).slot; entry = new_record s n size (target_at f i) } ≡ p = cc in
    let m : count_in (held f i) < 18446744073709551615 = ltb-true (count_in (held f i)) 18446744073709551615 parts.0 in
    let one : count_in (held f i) + 1 ≡ suc (count_in (held f i)) = omega arith in
    record {
      set = s;
      put = refl;
      pair = i;
      goes = goes f (name_of n) i eo;
      slot = ap (λ (y : Prepared). y.slot) (sym e);
      count = ap (λ (y : Prepared). y.entry.count) (sym e) ∙ one;
      most = subst (λ (y : Prepared). y.entry.count < 2 ^ 64) e (omega arith);
      sense = ap (λ (y : Prepared). makes_sense y.entry) (sym e) ∙ parts.1;
      name = ap (λ (y : Prepared). name_of y.entry.name) (sym e);
      blocks = ap (λ (y : Prepared). y.entry.blocks) (sym e);
      length = ap (λ (y : Prepared). y.entry.size) (sym e);
    }
ready_at f s n size p i false eo ev q = absurd (let z : ◌≡◌ {A = ℕ} 0 1 = cc in omega arith)

pub ready : (f : Blocks) (x : Option Lease) (n : Name) (size : ℕ) (p : Prepared) → prepared f x n size ≡ Some p → Ready f (name_of n) size x p
ready f None n size p e = absurd (let z : ◌≡◌ {A = ℕ} 0 1 = cc in omega arith)
ready f (Some (Get s)) n size p e = absurd (let z : ◌≡◌ {A = ℕ} 0 1 = cc in omega arith)
ready f (Some (Put s)) n size p e = go (or_else (place f (name_of n)) (vacant f)) refl e
  where
    go : (o : Option ℕ) → or_else (place f (name_of n)) (vacant f) ≡ o → prepare_at s n size (option_map (target_at f) o) ≡ Some p → Ready f (name_of n) size (Some (Put s)) p
    go None eo q = absurd (let z : ◌≡◌ {A = ℕ} 0 1 = cc in omega arith)
    go (Some i) eo q = ready_at f s n size p i (ltb (target_at f i).count 18446744073709551615 && makes_sense (new_record s n size (target_at f i))) eo refl q

-- The record: whole, torn or junk.
module _ (f g : Blocks) (n : List ℕ) (size : ℕ) (x : Option Lease) (p : Prepared) (r : Ready f n size x p) where
  but : (up : Bool) → Wrote f p.slot (encode p.entry) up g → But f (other_slot f r.pair) g
  but up w = subst (λ (s : ℕ). But f s g) r.slot w.others

  new-held : (up : Bool) → Wrote f p.slot (encode p.entry) up g → Whole p.entry → g p.slot ≡ encode p.entry → held g r.pair ≡ Some p.entry
  new-held up w whole e =
      held_new f g r.pair p.entry (but up w) (ap (λ (s : ℕ). decode (g s)) (sym r.slot) ∙ ap decode e ∙ decode-encode p.entry whole r.sense) r.count

  changed : (up : Bool) → Wrote f p.slot (encode p.entry) up g → Whole p.entry → g p.slot ≡ encode p.entry → Changed f n (content f p.entry) g
  changed up w whole e = slot-new f g n r.pair r.goes (but up w) p.entry r.name (new-held up w whole e)

  pub outcome : (up : Bool) → Wrote f p.slot (encode p.entry) up g → Whole p.entry → Outcome f n (Some p) up g
  outcome true w whole = changed true w whole w.here
  outcome false w whole =
      ⊎_elim
      (λ (o : g p.slot ≡ f p.slot).
      inl (slot_kept f g n r.pair r.goes (but false w) (held-old f g r.pair (but false w) (subst (λ (s : ℕ). g s ≡ f s) r.slot o))))
      (⊎_elim (λ (e : g p.slot ≡ encode p.entry). inr (changed false w whole e))
      (λ (z : decode (g p.slot) ≡ None).
      inl (slot_kept f g n r.pair r.goes (but false w) (held-junk f g r.pair (but false w) (subst (λ (s : ℕ). decode (g s) ≡ None) r.slot z)))))
      w.here

  -- the blocks of other puts stay with them alone
  pub commit-sound : (ls : Table) (t : ℕ) → Sound f ls → lease ls t ≡ x → Wrote f p.slot (encode p.entry) true g → Whole p.entry → Sound g (set ls t None)
  commit-sound ls t ok e w whole =
      let l : t < 16 = put-within ls t r.set ok.places (e ∙ r.put) in
      let a : Alone f ls t r.set = ok.alone t r.set l (e ∙ r.put) in
      let after : Sound f (set ls t None) = sound-release f ls t ok in
      let new : held g r.pair ≡ Some p.entry = new-held true w whole w.here in
      record {
        places = after.places;
        alone = λ u s m q.
            let b' : Alone f (set ls t None) u s = after.alone u s m q in
            record {
              files = λ b z.
                  none_any (λ i. has_in (held g i) b) 64 (λ i li.
                  ⊎_elim
                  (λ (w' : i ≡ r.pair).
                  ap (λ (y : ℕ). has_in (held g y) b) w' ∙ ap (λ (o : Option Record). has_in o b) new ∙ ap (λ (y : Set). has y.bits b) r.blocks
                  ∙ mine ls t u s b ok a l m q z)
                  (λ w'. ap (λ (o : Option Record). has_in o b) (held-elsewhere f g r.pair i (but true w) w') ∙ any_none (λ j. has_in (held f j) b) 64 (b'.files b z) i li)
                  (cases_eq i r.pair));
              others = b'.others;
            };
      }
    where
      mine : (ls : Table) (t u : ℕ) (s : Set) (b : ℕ) → Sound f ls → Alone f ls t r.set → t < 16 → u < 16 → lease (set ls t None) u ≡ Some (Put s) → has s.bits b ≡ true → has r.set.bits b ≡ false
      mine ls t u s b ok a l m q z =
          ⊎_elim
          (λ (same : u ≡ t).
          absurd (no-nothing-put s (sym (get_or-set_same ls t None None (let k = ok.places in omega arith)) ∙ ap (lease (set ls t None)) (sym same) ∙ q)))
          (λ (other : u ≡ t → ⊥).
          let p' : lease ls u ≡ Some (Put s) = sym (get_or-set_other ls t u None None other) ∙ q in
          ⊎_elim (λ y. absurd (both_ways (has s.bits b) (ap (λ (v : Option Lease). lease_has v b) (sym p') ∙ a.others u b m other y) z)) (λ y. y) (cases_Bool (has r.set.bits b)))
          (cases_eq u t)

  -- no data changes
  pub commit-data : (up : Bool) → Wrote f p.slot (encode p.entry) up g → (s : List ℕ) (k : ℕ) → joined g s k ≡ joined f s k
  commit-data up w s k =
      joined_same f g s k (λ j lj z. let b = slot-bounds f r.pair in let m = r.goes.below in but up w (128 + j) (λ q. omega (arith, b.1, m)))

-- what is written is whole
pub whole-entry : (f : Blocks) (n : List ℕ) (size : ℕ) (x : Option Lease) (p : Prepared) → Ready f n size x p → length p.entry.name.bytes ≡ 32 → length p.entry.blocks.bits ≡ 256 → size < 2 ^ 32
    → Whole p.entry
whole-entry f n size x p r ln lb ls = record { name = ln; blocks = lb; count = r.most; size = subst (λ (m : ℕ). m < 2 ^ 32) (sym r.length) ls }
