-- A put from its beginning to its commit, whatever other puts and gets do meanwhile. Assumes nothing.
use Rattle.std.proofs.Common.{◌≡◌, ℕ, zero, suc, ◌+◌, ◌-◌, ◌/◌, ◌<◌, ◌≤◌, min, Bool, true, false, cond, not, ◌&&◌, eqb, leb, List, [], ◌∷◌, ◌++◌, length, take, Some, None, Option, sym, refl, ap, ◌∙◌, subst, ⊎_elim, append-nil, arith, length-append, length-take}
use native.Mathlib.Nat.{div-eq_of_lt, div-eq-sub-div}
use Rattle.std.proofs.lemmas.Bool.{true≢false, not-true, and_parts, and_from, eqb-true, eq-eqb, leb-true, cases_lt}
use Rattle.model.specs.Keyed.{find}
use Rattle.model.specs.Messages.{is_some}
use Rattle.model.specs.Files.{Limits, Entry, Put, Files, Event, Begin, Write, Commit, GiveUp, BeginGet, EndGet, CrashInWrite, CrashInCommit, Crash, without, same, put_number, get_number, held, files, free, can_begin, needed, new_put, with_put, begun, is_next, write, wrote, wrote_in, wrote_by, can_commit, room_for_name, committing, committed, get_begun, step, newer, after, last_put}
use Rattle.model.specs.FilePromises.{spares_put, given_by, given_to, is_block, put_goes_on, PutGoesThrough}
use Rattle.model.proofs.FileLists.{find-without-other, found_number, same_refl}
use Rattle.model.proofs.FileHistory.{files-whole, may-commit}

-- how many blocks so many bytes need
none_needed : (l : Limits) → 0 < l.block → needed l 0 ≡ 0
none_needed l h = div-eq_of_lt (omega arith)

one_less : (l : Limits) → 0 < l.block → (x : ℕ) → 0 < x → needed l x ≡ needed l (x - min l.block x) + 1
one_less l h x p = div-eq-sub-div h (omega arith) ∙ ap (λ n. n + 1) (⊎_elim small large (cases_lt x l.block))
  where
    small : x < l.block → (x + (l.block - 1) - l.block) / l.block ≡ needed l (x - min l.block x)
    small q = div-eq_of_lt (omega arith) ∙ sym (none_needed l h) ∙ ap (needed l) (omega arith)

    large : l.block ≤ x → (x + (l.block - 1) - l.block) / l.block ≡ needed l (x - min l.block x)
    large q = ap (λ n. n / l.block) (omega arith)

-- a put under way, with what it was given
pub record Under (l : Limits) (k : ℕ) (n : List ℕ) (m : ℕ) (bytes : List ℕ) (puts : List Put) : Type 0 where
  pub put : Put
  pub found : find put_number k puts ≡ Some put
  pub name : put.name ≡ n
  pub size : put.size ≡ m
  pub given : put.given ≡ bytes
  pub blocks : length put.left ≡ needed l (m - length bytes)

module _ (l : Limits) (pos : 0 < l.block) (k : ℕ) (n : List ℕ) (m : ℕ) (bytes : List ℕ) where
  -- another put, or none, in the place of another number
  under-other : (q : Put) (puts : List Put) → eqb q.number k ≡ false → Under l k n m bytes puts → Under l k n m bytes (with_put q puts)
  unfolding find
  under-other q puts ne u =
      record {
        put = u.put;
        found = ap (λ b. cond b (Some q) (find put_number k (without put_number q.number puts))) ne ∙ find-without-other put_number q.number k puts ne ∙ u.found;
        name = u.name;
        size = u.size;
        given = u.given;
        blocks = u.blocks;
      }

  under-without : (j : ℕ) (puts : List Put) → eqb j k ≡ false → Under l k n m bytes puts → Under l k n m bytes (without put_number j puts)
  under-without j puts ne u = record { put = u.put; found = find-without-other put_number j k puts ne ∙ u.found; name = u.name; size = u.size; given = u.given; blocks = u.blocks }

  -- a number in use is refused
  under-begin : (j : ℕ) (a : List ℕ) (b : ℕ) (s : Files) → Under l k n m bytes s.puts → Under l k n m bytes (begun l j a b s).puts
  under-begin j a b s u = go (can_begin l j b s) refl
    where
      same_number : (t : Bool) → eqb j k ≡ t → can_begin l j b s ≡ true → eqb j k ≡ false
      same_number false e c = e
      same_number true e c =
          absurd (true≢false (sym (ap is_some (ap (λ i. find put_number i s.puts) (eqb-true j k e) ∙ u.found)) ∙ not-true (is_some (find put_number j s.puts)) (and_parts (not (is_some (find put_number j s.puts))) (leb (needed l b) (length (free l s))) c).0))

      go : (t : Bool) → can_begin l j b s ≡ t → Under l k n m bytes (cond t (files s.block s.slots s.names (with_put (new_put j a b (take (needed l b) (free l s))) s.puts) s.gets) s).puts
      go true c = under-other (new_put j a b (take (needed l b) (free l s))) s.puts (same_number (eqb j k) refl c) u
      go false c = u

  under-write-other : (j : ℕ) (bs : List ℕ) (s : Files) → eqb j k ≡ false → Under l k n m bytes s.puts → Under l k n m bytes (wrote_by l bs (find put_number j s.puts) s).puts
  under-write-other j bs s ne u = go (find put_number j s.puts) refl
    where
      first : (q : Put) (xs : List ℕ) → find put_number j s.puts ≡ Some q → Under l k n m bytes (wrote_in l bs xs q s).puts
      first q [] f = u
      first q (b ∷ rest) f = fits (is_next l bs q)
        where
          fits : (t : Bool) → Under l k n m bytes (cond t (files (write b bs s.block) s.slots s.names (with_put (wrote bs b rest q) s.puts) s.gets) s).puts
          fits true = under-other (wrote bs b rest q) s.puts (ap (λ i. eqb i k) (found_number put_number j s.puts q f) ∙ ne) u
          fits false = u

      go : (o : Option Put) → find put_number j s.puts ≡ o → Under l k n m bytes (wrote_by l bs o s).puts
      go None f = u
      go (Some q) f = first q q.left f

  under-commit : (j : ℕ) (o : Option Put) (s : Files) → ((q : Put) → o ≡ Some q → find put_number j s.puts ≡ Some q) → eqb j k ≡ false → Under l k n m bytes s.puts → Under l k n m bytes (committed o s).puts
  under-commit j None s f ne u = u
  under-commit j (Some q) s f ne u = under-without q.number s.puts (ap (λ i. eqb i k) (found_number put_number j s.puts q (f q refl)) ∙ ne) u

  under-get : (g : ℕ) (t : Bool) (o : Option Entry) (s : Files) → Under l k n m bytes s.puts → Under l k n m bytes (get_begun g t o s).puts
  under-get g t None s u = u
  under-get g true (Some x) s u = u
  under-get g false (Some x) s u = u

  -- its own write
  none_left : (bs : List ℕ) → length bs ≡ 0 → bs ≡ []
  none_left [] e = refl
  none_left (x ∷ xs) e = absurd (let z : suc (length xs) ≡ 0 = e in omega arith)

  under-write : (bs : List ℕ) (s : Files) → length bs ≡ min l.block (m - length bytes) → Under l k n m bytes s.puts → Under l k n m (bytes ++ bs) (wrote_by l bs (find put_number k s.puts) s).puts
  unfolding find
  under-write bs s e u = subst (λ o. Under l k n m (bytes ++ bs) (wrote_by l bs o s).puts) (sym u.found) (first u.put.left refl)
    where
      first : (xs : List ℕ) → u.put.left ≡ xs → Under l k n m (bytes ++ bs) (wrote_in l bs xs u.put s).puts
      first [] q = subst (λ r. Under l k n m r s.puts) (sym (ap (λ r. bytes ++ r) (none_left bs (go (m - length bytes) refl)) ∙ append-nil bytes)) u
        where
          go : (x : ℕ) → m - length bytes ≡ x → length bs ≡ 0
          go zero z = omega arith
          go (suc x) z = absurd (let w : needed l (suc x) ≡ 0 = ap (needed l) (sym z) ∙ sym u.blocks ∙ ap length q in let v = one_less l pos (suc x) (omega arith) in omega arith)
      first (b ∷ rest) q = subst (λ t. Under l k n m (bytes ++ bs) (cond t (files (write b bs s.block) s.slots s.names (with_put (wrote bs b rest u.put) s.puts) s.gets) s).puts) (sym next) now
        where
          next : is_next l bs u.put ≡ true
          next = eq-eqb (length bs) (min l.block (u.put.size - length u.put.given)) (e ∙ ap (λ x. min l.block x) (ap (λ x. x - length bytes) (sym u.size) ∙ ap (λ r. u.put.size - length r) (sym u.given)))

          left : suc (length rest) ≡ needed l (m - length bytes)
          left = sym (ap length q) ∙ u.blocks

          some : (x : ℕ) → m - length bytes ≡ x → 0 < m - length bytes
          some zero z = absurd (let w : needed l (m - length bytes) ≡ 0 = ap (needed l) z ∙ none_needed l pos in omega (arith, left))
          some (suc x) z = omega arith

          fewer : length rest ≡ needed l (m - length (bytes ++ bs))
          fewer =
              let f = one_less l pos (m - length bytes) (some (m - length bytes) refl) in
              let g : length rest ≡ needed l (m - length bytes - min l.block (m - length bytes)) = omega (arith, left) in
              g ∙ ap (needed l) (ap (λ x. m - length bytes - x) (sym e) ∙ (let h = length-append bytes bs in omega arith))

          now : Under l k n m (bytes ++ bs) (with_put (wrote bs b rest u.put) s.puts)
          now =
              record {
                put = wrote bs b rest u.put;
                found = ap (λ t. cond t (Some (wrote bs b rest u.put)) (find put_number k (without put_number u.put.number s.puts))) (eq-eqb u.put.number k (found_number put_number k s.puts u.put u.found));
                name = u.name;
                size = u.size;
                given = ap (λ r. r ++ bs) u.given;
                blocks = fewer;
              }

  -- any event that spares it
  under-step : (v : Event) (s : Files) → spares_put k v ≡ true → is_block l m (length bytes) k v ≡ true → Under l k n m bytes s.puts → Under l k n m (bytes ++ given_by k v) (step l v s).puts
  under-step (Begin j a b) s e w u = more (begun l j a b s).puts (under-begin j a b s u)
    where
      more : (puts : List Put) → Under l k n m bytes puts → Under l k n m (bytes ++ []) puts
      more puts x = subst (λ r. Under l k n m r puts) (sym (append-nil bytes)) x
  under-step (Write j bs) s e w u = go (eqb j k) refl w
    where
      go : (t : Bool) → eqb j k ≡ t → cond t (eqb (length bs) (min l.block (m - length bytes))) true ≡ true → Under l k n m (bytes ++ cond t bs []) (wrote_by l bs (find put_number j s.puts) s).puts
      go true q w = subst (λ i. Under l k n m (bytes ++ bs) (wrote_by l bs (find put_number i s.puts) s).puts) (sym (eqb-true j k q)) (under-write bs s (eqb-true (length bs) (min l.block (m - length bytes)) w) u)
      go false q w = subst (λ r. Under l k n m r (wrote_by l bs (find put_number j s.puts) s).puts) (sym (append-nil bytes)) (under-write-other j bs s q u)
  under-step (Commit j) s e w u =
      subst (λ r. Under l k n m r (committed (committing l (find put_number j s.puts) s) s).puts) (sym (append-nil bytes))
      (under-commit j (committing l (find put_number j s.puts) s) s (λ q f. (may-commit l (find put_number j s.puts) s q f).0) (not-true (eqb j k) e) u)
  under-step (GiveUp j) s e w u = subst (λ r. Under l k n m r (without put_number j s.puts)) (sym (append-nil bytes)) (under-without j s.puts (not-true (eqb j k) e) u)
  under-step (BeginGet g a) s e w u =
      subst (λ r. Under l k n m r (step l (BeginGet g a) s).puts) (sym (append-nil bytes)) (under-get g (is_some (find get_number g s.gets)) (held s.slots a) s u)
  under-step (EndGet g) s e w u = subst (λ r. Under l k n m r s.puts) (sym (append-nil bytes)) u
  under-step (CrashInWrite j bs t) s e w u = absurd (true≢false (sym e))
  under-step (CrashInCommit j t) s e w u = absurd (true≢false (sym e))
  under-step Crash s e w u = absurd (true≢false (sym e))

-- when it begins
begins : (l : Limits) (s : Files) (k : ℕ) (n : List ℕ) (m : ℕ) → can_begin l k m s ≡ true → Under l k n m [] (begun l k n m s).puts
unfolding find
begins l s k n m c = subst (λ t. Under l k n m [] (cond t (files s.block s.slots s.names (with_put new s.puts) s.gets) s).puts) (sym c) now
  where
    new : Put
    new = new_put k n m (take (needed l m) (free l s))

    enough : needed l m ≤ length (free l s)
    enough = leb-true (needed l m) (length (free l s)) (and_parts (not (is_some (find put_number k s.puts))) (leb (needed l m) (length (free l s))) c).1

    now : Under l k n m [] (with_put new s.puts)
    now =
        record {
          put = new;
          found = ap (λ t. cond t (Some new) (find put_number k (without put_number k s.puts))) (eq-eqb k k refl);
          name = refl;
          size = refl;
          given = refl;
          blocks = length-take (needed l m) (free l s) ∙ (let e = enough in omega arith) ∙ ap (needed l) (let z : m ≡ m - 0 = omega arith in z);
        }

goes_on : (l : Limits) → 0 < l.block → (d : ℕ → List ℕ) (vs fs : List Event) (k : ℕ) (n : List ℕ) (m : ℕ) → can_begin l k m (after l d vs) ≡ true → put_goes_on l m k fs ≡ true →
    Under l k n m (given_to k fs) (after l d (fs ++ (Begin k n m ∷ vs))).puts
unfolding after given_to put_goes_on
goes_on l pos d vs [] k n m c g = begins l (after l d vs) k n m c
goes_on l pos d vs (v ∷ fs) k n m c g =
    let q = and_parts (spares_put k v && is_block l m (length (given_to k fs)) k v) (put_goes_on l m k fs) g in
    let z = and_parts (spares_put k v) (is_block l m (length (given_to k fs)) k v) q.0 in
    under-step l pos k n m (given_to k fs) v (after l d (fs ++ (Begin k n m ∷ vs))) z.0 z.1 (goes_on l pos d vs fs k n m c q.1)

pub put-goes-through : PutGoesThrough
unfolding last_put
put-goes-through l pos d vs fs k n m c g whole room =
    files-whole l d (Commit k ∷ (fs ++ (Begin k n m ∷ vs))) n ∙
    ap (λ o. newer n o (last_put l d n (fs ++ (Begin k n m ∷ vs)))) (ap (λ o. committing l o s) u.found ∙ ap (λ b. cond b (Some u.put) None) may) ∙
    ap (λ b. cond b (Some u.put.given) (last_put l d n (fs ++ (Begin k n m ∷ vs)))) (ap (λ a. same a n) u.name ∙ same_refl n) ∙ ap Some u.given
  where
    s : Files
    s = after l d (fs ++ (Begin k n m ∷ vs))

    u : Under l k n m (given_to k fs) (after l d (fs ++ (Begin k n m ∷ vs))).puts
    u = goes_on l pos d vs fs k n m c g

    all : length u.put.left ≡ 0
    all = u.blocks ∙ ap (needed l) (let z : m - length (given_to k fs) ≡ 0 = omega arith in z) ∙ none_needed l pos

    may : can_commit l u.put s ≡ true
    may =
        and_from (eqb (length u.put.left) 0) (eqb (length u.put.given) u.put.size && room_for_name l u.put.name s) (eq-eqb (length u.put.left) 0 all)
        (and_from (eqb (length u.put.given) u.put.size) (room_for_name l u.put.name s) (eq-eqb (length u.put.given) u.put.size (ap length u.given ∙ whole ∙ sym u.size))
        (ap (λ a. room_for_name l a s) u.name ∙ room))
