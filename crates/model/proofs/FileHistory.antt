-- Files over whole histories: each event keeps what holds, so each name has the file that was put last. Assumes nothing.
use Rattle.std.proofs.Common.{◌≡◌, ℕ, Bool, true, false, cond, eqb, ◌⊎◌, List, [], ◌∷◌, take, Some, None, Option, sym, refl, ap, ◌∙◌, subst, inl, inr}
use Rattle.std.proofs.lemmas.Bool.{true≢false, eq-eqb}
use Rattle.model.specs.Keyed.{find, is_in}
use Rattle.model.specs.Messages.{is_some}
use Rattle.model.specs.Files.{Limits, Entry, Junk, Fits, Put, Files, Left, Old, New, Other, Event, Begin, Write, Commit, GiveUp, BeginGet, EndGet, CrashInWrite, CrashInCommit, Crash, same, put_number, get_number, held, blocks_in, file_of, blocks_of_put, free, files, fresh, crashed, needed, new_put, with_put, is_next, write, wrote, wrote_in, wrote_by, left_of, torn_in, torn_by, can_commit, committing, committed, entry, not_holding, in_slot, torn_commit, add_name, get_begun, step, puts_by, newer, after, last_put}
use Rattle.model.specs.FilePromises.{Apart, FilesWhole, OldOrNew, IsCommitOf, PutsAlone, RefusedLeavesFiles}
use Rattle.model.proofs.FileLists.{none-some, some_inj, found-without, found_number, in_left, in_right, same-eq}
use Rattle.model.proofs.FileSlots.{held-other, held_new, held-spoilt, held-old}
use Rattle.model.proofs.FileKeeps.{Own, alone, put-away, get-away, get-more}
use Rattle.model.proofs.FileSteps.{Good, kept-write, kept-slots, kept_new, begin-good, write-own}

abbrev Wanted : Type 0
Wanted = List ℕ → Option (List ℕ)

crash-good : (s : Files) (want : Wanted) → Good s want → Good (crashed s.block s.slots s.names) want
crash-good s want h = alone s.block s.slots s.names want h.kept

write-good : (l : Limits) (k : ℕ) (bs : List ℕ) (s : Files) (want : Wanted) → Good s want → Good (wrote_by l bs (find put_number k s.puts) s) want
write-good l k bs s want h = go (find put_number k s.puts) refl
  where
    first : (p : Put) (xs : List ℕ) → p.left ≡ xs → find put_number k s.puts ≡ Some p → Good (wrote_in l bs xs p s) want
    first p [] e f = h
    first p (b ∷ rest) e f = fits (is_next l bs p)
      where
        fits : (t : Bool) → Good (cond t (files (write b bs s.block) s.slots s.names (with_put (wrote bs b rest p) s.puts) s.gets) s) want
        fits true = write-own s want k p bs b rest e h f
        fits false = h

    go : (o : Option Put) → find put_number k s.puts ≡ o → Good (wrote_by l bs o s) want
    go None f = h
    go (Some p) f = first p p.left refl f

torn-good : (l : Limits) (k : ℕ) (bs : List ℕ) (t : Left) (s : Files) (want : Wanted) → Good s want → Good (torn_by l bs t (find put_number k s.puts) s) want
unfolding is_in
torn-good l k bs t s want h = go (find put_number k s.puts) refl
  where
    first : (p : Put) (xs : List ℕ) → p.left ≡ xs → find put_number k s.puts ≡ Some p → Good (torn_in l bs t xs p s) want
    first p [] e f = crash-good s want h
    first p (b ∷ rest) e f = fits (is_next l bs p)
      where
        mine : is_in b (blocks_of_put p) ≡ true
        mine = in_right b p.done p.left (ap (is_in b) e ∙ ap (λ c. cond c true (is_in b rest)) (eq-eqb b b refl))

        fits : (c : Bool) → Good (cond c (crashed (write b (left_of t (s.block b) bs) s.block) s.slots s.names) (crashed s.block s.slots s.names)) want
        fits true = alone (write b (left_of t (s.block b) bs) s.block) s.slots s.names want (kept-write s.block s.slots s.names want b (left_of t (s.block b) bs) (λ n. (h.own k p f).records n b mine) h.kept)
        fits false = crash-good s want h

    go : (o : Option Put) → find put_number k s.puts ≡ o → Good (torn_by l bs t o s) want
    go None f = crash-good s want h
    go (Some p) f = first p p.left refl f

-- a put that may commit is one that is under way
pub may-commit : (l : Limits) (o : Option Put) (s : Files) (p : Put) → committing l o s ≡ Some p → (o ≡ Some p) × (can_commit l p s ≡ true)
may-commit l None s p e = absurd (none-some e)
may-commit l (Some q) s p e = go (can_commit l q s) refl e
  where
    go : (t : Bool) → can_commit l q s ≡ t → cond t (Some q) None ≡ Some p → (Some q ≡ Some p) × (can_commit l p s ≡ true)
    go true c w = (w, subst (λ z. can_commit l z s ≡ true) (some_inj w) c)
    go false c w = absurd (none-some w)

commit-good : (s : Files) (want : Wanted) (k : ℕ) (o : Option Put) → ((p : Put) → o ≡ Some p → find put_number k s.puts ≡ Some p) → Good s want → Good (committed o s) (λ n. newer n o (want n))
commit-good s want k None f h = h
commit-good s want k (Some p) f h =
    record {
      kept = kept_new s.block s.slots s.names want p mine.given h.kept;
      own = λ j q e.
          let r = found-without put_number p.number j s.puts q e in
          let o = h.own j q r.1 in
          record {
            given = o.given;
            once = o.once;
            ahead = o.ahead;
            records = λ n. records j q r.0 r.1 n (same p.name n) refl;
            others = λ i z ne w. o.others i z ne (found-without put_number p.number i s.puts z w).1;
            readers = o.readers;
          };
    }
  where
    found : find put_number k s.puts ≡ Some p
    found = f p refl

    mine : Own s.block s.slots s.puts s.gets k p
    mine = h.own k p found

    records : (j : ℕ) (q : Put) → eqb p.number j ≡ false → find put_number j s.puts ≡ Some q → (n : List ℕ) (t : Bool) → same p.name n ≡ t →
        Apart (blocks_of_put q) (blocks_in (held (in_slot (Fits (entry s.slots p)) p.name s.slots) n))
    records j q ne w n true e b a c =
        mine.others j q (subst (λ z. eqb z j ≡ false) (found_number put_number k s.puts p found) ne) w b (in_left b p.done p.left (ap (λ o. is_in b (blocks_in o)) (sym (held_new p n s.slots e)) ∙ c)) a
    records j q ne w n false e b a c = (h.own j q w).records n b a (ap (λ o. is_in b (blocks_in o)) (sym (held-other (Fits (entry s.slots p)) p.name n s.slots e)) ∙ c)

-- a crash in a commit: the put's record is whole only if the new one is left
abbrev whole_by : Left → Option Put → Option Put
whole_by Old o = None
whole_by New o = o
whole_by (Other bytes) o = None

torn-commit-good : (s : Files) (want : Wanted) (k : ℕ) (t : Left) (o : Option Put) → ((p : Put) → o ≡ Some p → find put_number k s.puts ≡ Some p) → Good s want → Good (torn_commit t o s) (λ n. newer n (whole_by t o) (want n))
torn-commit-good s want k Old None f h = crash-good s want h
torn-commit-good s want k New None f h = crash-good s want h
torn-commit-good s want k (Other bytes) None f h = crash-good s want h
torn-commit-good s want k Old (Some p) f h =
    alone s.block (in_slot (not_holding (s.slots p.name)) p.name s.slots) (add_name p.name s.names) want
    (kept-slots s.block s.slots (in_slot (not_holding (s.slots p.name)) p.name s.slots) s.names want p.name (λ n. held-old p.name n s.slots) h.kept)
torn-commit-good s want k New (Some p) f h =
    alone s.block (in_slot (Fits (entry s.slots p)) p.name s.slots) (add_name p.name s.names) (λ n. newer n (Some p) (want n))
    (kept_new s.block s.slots s.names want p (h.own k p (f p refl)).given h.kept)
torn-commit-good s want k (Other bytes) (Some p) f h =
    alone s.block (in_slot Junk p.name s.slots) (add_name p.name s.names) want
    (kept-slots s.block s.slots (in_slot Junk p.name s.slots) s.names want p.name (λ n. held-spoilt p.name n s.slots) h.kept)

get-good : (s : Files) (want : Wanted) (g : ℕ) (n : List ℕ) (t : Bool) (o : Option Entry) → held s.slots n ≡ o → Good s want → Good (get_begun g t o s) want
get-good s want g n t None e h = h
get-good s want g n true (Some x) e h = h
get-good s want g n false (Some x) e h = get-more s.block s.slots s.names s.puts s.gets want g n x e h

pub step-good : (l : Limits) (v : Event) (s : Files) (want : Wanted) → Good s want → Good (step l v s) (λ n. newer n (puts_by l v s) (want n))
step-good l (Begin k n m) s want h = begin-good l k n m s want h
step-good l (Write k bs) s want h = write-good l k bs s want h
step-good l (Commit k) s want h = commit-good s want k (committing l (find put_number k s.puts) s) (λ p e. (may-commit l (find put_number k s.puts) s p e).0) h
step-good l (GiveUp k) s want h = put-away s.block s.slots s.names s.puts s.gets want k h
step-good l (BeginGet g n) s want h = get-good s want g n (is_some (find get_number g s.gets)) (held s.slots n) refl h
step-good l (EndGet g) s want h = get-away s.block s.slots s.names s.puts s.gets want g h
step-good l (CrashInWrite k bs t) s want h = torn-good l k bs t s want h
step-good l (CrashInCommit k Old) s want h = torn-commit-good s want k Old (committing l (find put_number k s.puts) s) (λ p e. (may-commit l (find put_number k s.puts) s p e).0) h
step-good l (CrashInCommit k New) s want h = torn-commit-good s want k New (committing l (find put_number k s.puts) s) (λ p e. (may-commit l (find put_number k s.puts) s p e).0) h
step-good l (CrashInCommit k (Other bytes)) s want h = torn-commit-good s want k (Other bytes) (committing l (find put_number k s.puts) s) (λ p e. (may-commit l (find put_number k s.puts) s p e).0) h
step-good l Crash s want h = crash-good s want h

pub after-good : (l : Limits) (d : ℕ → List ℕ) (vs : List Event) → Good (after l d vs) (λ n. last_put l d n vs)
unfolding after last_put is_in
after-good l d [] = alone d (fresh d).slots [] (λ n. None) (record { whole = λ n. refl; named = λ n b e. absurd (true≢false (sym e)) })
after-good l d (v ∷ vs) = step-good l v (after l d vs) (λ n. last_put l d n vs) (after-good l d vs)

pub files-whole : FilesWhole
files-whole l d vs n = (after-good l d vs).kept.whole n

pub puts-alone : PutsAlone
puts-alone l d vs k p f = let o = (after-good l d vs).own k p f in record { records = o.records; puts = o.others; gets = o.readers }

-- by which event a put's record came to be whole
commits : (l : Limits) (v : Event) (s : Files) (p : Put) → puts_by l v s ≡ Some p → (k : ℕ) × IsCommitOf k v × (committing l (find put_number k s.puts) s ≡ Some p)
commits l (Begin k n m) s p e = absurd (none-some e)
commits l (Write k bs) s p e = absurd (none-some e)
commits l (Commit k) s p e = (k, inl refl, e)
commits l (GiveUp k) s p e = absurd (none-some e)
commits l (BeginGet g n) s p e = absurd (none-some e)
commits l (EndGet g) s p e = absurd (none-some e)
commits l (CrashInWrite k bs t) s p e = absurd (none-some e)
commits l (CrashInCommit k Old) s p e = absurd (none-some e)
commits l (CrashInCommit k New) s p e = (k, inr refl, e)
commits l (CrashInCommit k (Other bytes)) s p e = absurd (none-some e)
commits l Crash s p e = absurd (none-some e)

pub old-or-new : OldOrNew
unfolding last_put
old-or-new l d vs v n = go (puts_by l v (after l d vs)) refl (files-whole l d (v ∷ vs) n)
  where
    Which : Type 0
    Which =
        (file_of n (after l d (v ∷ vs)) ≡ file_of n (after l d vs)) ⊎
        ((k : ℕ) × (p : Put) × IsCommitOf k v × (find put_number k (after l d vs).puts ≡ Some p) × (can_commit l p (after l d vs) ≡ true) × (p.name ≡ n) × (file_of n (after l d (v ∷ vs)) ≡ Some p.given))

    named : (p : Put) → puts_by l v (after l d vs) ≡ Some p → (t : Bool) → same p.name n ≡ t → file_of n (after l d (v ∷ vs)) ≡ cond t (Some p.given) (last_put l d n vs) → Which
    named p e true q w =
        let c = commits l v (after l d vs) p e in
        let m = may-commit l (find put_number c.0 (after l d vs).puts) (after l d vs) p c.2 in
        inr (c.0, p, c.1, m.0, m.1, same-eq p.name n q, w)
    named p e false q w = inl (w ∙ sym (files-whole l d vs n))

    go : (o : Option Put) → puts_by l v (after l d vs) ≡ o → file_of n (after l d (v ∷ vs)) ≡ newer n o (last_put l d n vs) → Which
    go None e w = inl (w ∙ sym (files-whole l d vs n))
    go (Some p) e w = named p e (same p.name n) refl w

pub refused-leaves : RefusedLeavesFiles
unfolding after
refused-leaves l d vs k = (
  (λ n m c. ap (λ t. cond t (files (after l d vs).block (after l d vs).slots (after l d vs).names (with_put (new_put k n m (take (needed l m) (free l (after l d vs)))) (after l d vs).puts) (after l d vs).gets) (after l d vs)) c),
  (λ p f c. ap (λ o. committed o (after l d vs)) (ap (λ o. committing l o (after l d vs)) f ∙ ap (λ t. cond t (Some p) None) c)),
)
