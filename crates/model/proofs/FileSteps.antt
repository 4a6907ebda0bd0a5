-- Each event keeps what holds of files. Assumes nothing.
use Rattle.std.proofs.Common.{◌≡◌, ℕ, Bool, true, false, cond, eqb, List, [], ◌∷◌, ◌++◌, take, Some, None, Option, sym, refl, ap, ◌∙◌, subst, ⊎_elim, append_assoc, append-nil}
use Rattle.std.proofs.lemmas.Bool.{true≢false, both_ways, not-true, eqb-true, eq-eqb}
use Rattle.model.specs.Keyed.{find, is_in, gather}
use Rattle.model.specs.Files.{Limits, Entry, Fits, Slots, Put, Files, up_from, is_named, same, put_number, get_number, held, blocks_in, bytes_in, blocks_of_put, blocks_of_get, is_free, free, taken, files, can_begin, needed, new_put, with_put, begun, write, wrote, entry, in_slot, add_name, newer}
use Rattle.model.specs.FilePromises.{Apart}
use Rattle.model.proofs.FileLists.{found_number, in_left, in_right, in_either, in-none, found-gather, named-gather, in-keep, in_take, Distinct, distinct-keep, distinct-take, distinct-up_from, gather-write, gather_append}
use Rattle.model.proofs.FileSlots.{held-other, held_new, named-now, named-still}
use Rattle.model.proofs.FileKeeps.{Kept, Own, Inv, put-now}

abbrev pub Good : Files → (List ℕ → Option (List ℕ)) → Type 0
Good s want = Inv s.block s.slots s.names s.puts s.gets want

-- a write into a block that no record that holds has
bytes-write : (block : ℕ → List ℕ) (b : ℕ) (x : List ℕ) (o : Option Entry) → (is_in b (blocks_in o) ≡ true → ⊥) → bytes_in (write b x block) o ≡ bytes_in block o
bytes-write block b x None h = refl
bytes-write block b x (Some y) h = ap Some (gather-write b x block y.blocks h)

pub kept-write : (block : ℕ → List ℕ) (slots : List ℕ → Slots) (names : List (List ℕ)) (want : List ℕ → Option (List ℕ)) (b : ℕ) (x : List ℕ) →
    ((n : List ℕ) → is_in b (blocks_in (held slots n)) ≡ true → ⊥) → Kept block slots names want → Kept (write b x block) slots names want
kept-write block slots names want b x h k = record { whole = λ n. bytes-write block b x (held slots n) (h n) ∙ k.whole n; named = k.named }

-- other slots in which the same holds
pub kept-slots : (block : ℕ → List ℕ) (slots other : List ℕ → Slots) (names : List (List ℕ)) (want : List ℕ → Option (List ℕ)) (m : List ℕ) →
    ((n : List ℕ) → held other n ≡ held slots n) → Kept block slots names want → Kept block other (add_name m names) want
kept-slots block slots other names want m e k =
    record { whole = λ n. ap (bytes_in block) (e n) ∙ k.whole n; named = λ n b h. named-still m n names (k.named n b (ap (λ o. is_in b (blocks_in o)) (sym (e n)) ∙ h)) }

-- a put's record in the slot that did not hold
pub kept_new : (block : ℕ → List ℕ) (slots : List ℕ → Slots) (names : List (List ℕ)) (want : List ℕ → Option (List ℕ)) (p : Put) → gather block p.done ≡ p.given → Kept block slots names want →
    Kept block (in_slot (Fits (entry slots p)) p.name slots) (add_name p.name names) (λ n. newer n (Some p) (want n))
kept_new block slots names want p g k = record { whole = λ n. whole n (same p.name n) refl; named = λ n b h. named n b (same p.name n) refl h }
  where
    whole : (n : List ℕ) (t : Bool) → same p.name n ≡ t → bytes_in block (held (in_slot (Fits (entry slots p)) p.name slots) n) ≡ cond t (Some p.given) (want n)
    whole n true e = ap (bytes_in block) (held_new p n slots e) ∙ ap Some g
    whole n false e = ap (bytes_in block) (held-other (Fits (entry slots p)) p.name n slots e) ∙ k.whole n

    named : (n : List ℕ) (b : ℕ) (t : Bool) → same p.name n ≡ t → is_in b (blocks_in (held (in_slot (Fits (entry slots p)) p.name slots) n)) ≡ true → is_named n (add_name p.name names) ≡ true
    named n b true e h = named-now p.name n names e
    named n b false e h = named-still p.name n names (k.named n b (ap (λ o. is_in b (blocks_in o)) (sym (held-other (Fits (entry slots p)) p.name n slots e)) ∙ h))

-- A put begins.
pub begin-good : (l : Limits) (k : ℕ) (n : List ℕ) (m : ℕ) (s : Files) (want : List ℕ → Option (List ℕ)) → Good s want → Good (begun l k n m s) want
unfolding gather
begin-good l k n m s want h = go (can_begin l k m s)
  where
    bs : List ℕ
    bs = take (needed l m) (free l s)

    not_taken : (b : ℕ) → is_in b bs ≡ true → is_in b (taken s) ≡ true → ⊥
    not_taken b e t = both_ways (is_in b (taken s)) (not-true (is_in b (taken s)) (in-keep (is_free s) b (up_from 0 l.blocks) (in_take (needed l m) b (free l s) e)).0) t

    of-records : (b : ℕ) → is_in b (gather (λ x. blocks_in (held s.slots x)) s.names) ≡ true → is_in b (taken s) ≡ true
    of-records b e = in_left b (gather (λ x. blocks_in (held s.slots x)) s.names) (gather blocks_of_put s.puts ++ gather blocks_of_get s.gets) e

    of-puts : (b : ℕ) → is_in b (gather blocks_of_put s.puts) ≡ true → is_in b (taken s) ≡ true
    of-puts b e = in_right b (gather (λ x. blocks_in (held s.slots x)) s.names) (gather blocks_of_put s.puts ++ gather blocks_of_get s.gets) (in_left b (gather blocks_of_put s.puts) (gather blocks_of_get s.gets) e)

    of-gets : (b : ℕ) → is_in b (gather blocks_of_get s.gets) ≡ true → is_in b (taken s) ≡ true
    of-gets b e = in_right b (gather (λ x. blocks_in (held s.slots x)) s.names) (gather blocks_of_put s.puts ++ gather blocks_of_get s.gets) (in_right b (gather blocks_of_put s.puts) (gather blocks_of_get s.gets) e)

    new : Own s.block s.slots s.puts s.gets k (new_put k n m bs)
    new =
        record {
          given = refl;
          once = distinct-take (needed l m) (free l s) (distinct-keep (is_free s) (up_from 0 l.blocks) (distinct-up_from 0 l.blocks));
          ahead = λ b _ e. in-none b e;
          records = λ x b e f. not_taken b e (of-records b (named-gather (λ y. blocks_in (held s.slots y)) x b s.names (h.kept.named x b f) f));
          others = λ j q _ f b e i. not_taken b e (of-puts b (found-gather put_number blocks_of_put j b s.puts q f i));
          readers = λ g x f b e i. not_taken b e (of-gets b (found-gather get_number blocks_of_get g b s.gets x f i));
        }

    go : (t : Bool) → Good (cond t (files s.block s.slots s.names (with_put (new_put k n m bs) s.puts) s.gets) s) want
    go true = put-now s.block s.slots s.names s.puts s.gets want (new_put k n m bs) h.kept new (λ j q _ f. h.own j q f)
    go false = h

-- A put writes its next block.
pub write-own : (s : Files) (want : List ℕ → Option (List ℕ)) (k : ℕ) (p : Put) (bs : List ℕ) (b : ℕ) (rest : List ℕ) → p.left ≡ b ∷ rest → Good s want → find put_number k s.puts ≡ Some p →
    Good (files (write b bs s.block) s.slots s.names (with_put (wrote bs b rest p) s.puts) s.gets) want
unfolding Distinct gather is_in
write-own s want k p bs b rest le h f =
    put-now (write b bs s.block) s.slots s.names s.puts s.gets want (wrote bs b rest p)
    (kept-write s.block s.slots s.names want b bs (λ n. o.records n b mine) h.kept) new others
  where
    o : Own s.block s.slots s.puts s.gets k p
    o = h.own k p f

    is-k : p.number ≡ k
    is-k = found_number put_number k s.puts p f

    once : Distinct (b ∷ rest)
    once = subst Distinct le o.once

    in_rest : (a : ℕ) → is_in a (b ∷ rest) ≡ true → is_in a p.left ≡ true
    in_rest a e = ap (is_in a) le ∙ e

    later : (t : Bool) (xs : List ℕ) (a : ℕ) → is_in a xs ≡ true → cond t true (is_in a xs) ≡ true
    later true xs a e = refl
    later false xs a e = e

    head : is_in b (b ∷ rest) ≡ true
    head = ap (λ t. cond t true (is_in b rest)) (eq-eqb b b refl)

    mine : is_in b (blocks_of_put p) ≡ true
    mine = in_right b p.done p.left (in_rest b head)

    -- its blocks are the same as before
    before : (a : ℕ) → is_in a (blocks_of_put (wrote bs b rest p)) ≡ true → is_in a (blocks_of_put p) ≡ true
    before a e = ap (is_in a) (ap (λ r. p.done ++ r) le ∙ sym (append_assoc p.done (b ∷ []) rest)) ∙ e

    one : (a : ℕ) → is_in a (b ∷ []) ≡ true → b ≡ a
    one a e = go (eqb b a) refl e
      where
        go : (t : Bool) → eqb b a ≡ t → cond t true false ≡ true → b ≡ a
        go true q _ = eqb-true b a q
        go false q w = absurd (true≢false (sym w))

    ahead : Apart rest (p.done ++ b ∷ [])
    ahead a e i = ⊎_elim (λ d. o.ahead a (in_rest a (later (eqb b a) rest a e)) d) (λ d. once.0 (subst (λ c. is_in c rest ≡ true) (sym (one a d)) e)) (in_either a p.done (b ∷ []) i)

    last : write b bs s.block b ++ [] ≡ bs
    last = ap (λ t. cond t bs (s.block b) ++ []) (eq-eqb b b refl) ∙ append-nil bs

    given : gather (write b bs s.block) (p.done ++ b ∷ []) ≡ p.given ++ bs
    given =
        gather_append (write b bs s.block) p.done (b ∷ []) ∙
        ap (λ r. r ++ (write b bs s.block b ++ [])) (gather-write b bs s.block p.done (λ d. o.ahead b (in_rest b head) d) ∙ o.given) ∙ ap (λ r. p.given ++ r) last

    new : Own (write b bs s.block) s.slots s.puts s.gets p.number (wrote bs b rest p)
    new =
        record {
          given = given;
          once = once.1;
          ahead = ahead;
          records = λ n a e. o.records n a (before a e);
          others = λ j q ne w a e. o.others j q (subst (λ c. eqb c j ≡ false) is-k ne) w a (before a e);
          readers = λ g x w a e. o.readers g x w a (before a e);
        }

    others : (j : ℕ) (q : Put) → eqb p.number j ≡ false → find put_number j s.puts ≡ Some q → Own (write b bs s.block) s.slots s.puts s.gets j q
    others j q ne w =
        let r = h.own j q w in
        record {
          given = gather-write b bs s.block q.done (λ d. o.others j q (subst (λ c. eqb c j ≡ false) is-k ne) w b mine (in_left b q.done q.left d)) ∙ r.given;
          once = r.once;
          ahead = r.ahead;
          records = r.records;
          others = r.others;
          readers = r.readers;
        }
