-- A get under way keeps its file. Assumes nothing.
use Rattle.std.proofs.Common.{◌≡◌, ℕ, Bool, true, false, cond, eqb, List, [], ◌∷◌, ◌++◌, take, Some, None, Option, sym, refl, ap, ◌∙◌, subst}
use Rattle.std.proofs.lemmas.Bool.{true≢false, not-true, and_parts, eq-eqb, eqb-true}
use Rattle.model.specs.Keyed.{find, is_in, gather}
use Rattle.model.specs.Messages.{is_some}
use Rattle.model.specs.Files.{Limits, Entry, Put, Get, Files, Event, Begin, Write, Commit, GiveUp, BeginGet, EndGet, CrashInWrite, CrashInCommit, Crash, put_number, get_number, held, bytes_in, file_of, blocks_of_put, files, can_begin, new_put, with_put, needed, free, begun, is_next, write, wrote, wrote_in, wrote_by, committing, committed, get_begun, got_by, step, after, last_put}
use Rattle.model.specs.FilePromises.{spares, goes_on, GetKeepsItsFile}
use Rattle.model.proofs.FileLists.{none-some, some_inj, find-without-other, in_right, gather-write}
use Rattle.model.proofs.FileSteps.{Good}
use Rattle.model.proofs.FileHistory.{after-good}

-- the get is there, with those blocks, and they hold those bytes
pub record Has (g : ℕ) (x : Get) (bytes : List ℕ) (s : Files) : Type 0 where
  pub there : find get_number g s.gets ≡ Some x
  pub holds : gather s.block x.blocks ≡ bytes

module _ (g : ℕ) (x : Get) (bytes : List ℕ) where
  begin-has : (l : Limits) (k : ℕ) (n : List ℕ) (m : ℕ) (s : Files) → Has g x bytes s → Has g x bytes (begun l k n m s)
  begin-has l k n m s h = go (can_begin l k m s)
    where
      go : (t : Bool) → Has g x bytes (cond t (files s.block s.slots s.names (with_put (new_put k n m (take (needed l m) (free l s))) s.puts) s.gets) s)
      go true = record { there = h.there; holds = h.holds }
      go false = h

  write-has : (l : Limits) (k : ℕ) (bs : List ℕ) (s : Files) (want : List ℕ → Option (List ℕ)) → Good s want → Has g x bytes s → Has g x bytes (wrote_by l bs (find put_number k s.puts) s)
  unfolding is_in
  write-has l k bs s want i h = go (find put_number k s.puts) refl
    where
      first : (p : Put) (xs : List ℕ) → p.left ≡ xs → find put_number k s.puts ≡ Some p → Has g x bytes (wrote_in l bs xs p s)
      first p [] e f = h
      first p (b ∷ rest) e f = fits (is_next l bs p)
        where
          mine : is_in b (blocks_of_put p) ≡ true
          mine = in_right b p.done p.left (ap (is_in b) e ∙ ap (λ c. cond c true (is_in b rest)) (eq-eqb b b refl))

          fits : (t : Bool) → Has g x bytes (cond t (files (write b bs s.block) s.slots s.names (with_put (wrote bs b rest p) s.puts) s.gets) s)
          fits true = record { there = h.there; holds = gather-write b bs s.block x.blocks (λ d. (i.own k p f).readers g x h.there b mine d) ∙ h.holds }
          fits false = h

      go : (o : Option Put) → find put_number k s.puts ≡ o → Has g x bytes (wrote_by l bs o s)
      go None f = h
      go (Some p) f = first p p.left refl f

  commit-has : (o : Option Put) (s : Files) → Has g x bytes s → Has g x bytes (committed o s)
  commit-has None s h = h
  commit-has (Some p) s h = record { there = h.there; holds = h.holds }

  get_has : (j : ℕ) (o : Option Entry) (s : Files) → Has g x bytes s → Has g x bytes (get_begun j (is_some (find get_number j s.gets)) o s)
  unfolding find
  get_has j None s h = h
  get_has j (Some y) s h = go (is_some (find get_number j s.gets)) refl
    where
      -- a number in use is refused
      other : is_some (find get_number j s.gets) ≡ false → (t : Bool) → eqb j g ≡ t → cond t (Some (record { number = j; blocks = y.blocks })) (find get_number g s.gets) ≡ Some x
      other u true e = absurd (true≢false (sym (ap is_some (ap (λ a. find get_number a s.gets) (eqb-true j g e) ∙ h.there)) ∙ u))
      other u false e = h.there

      go : (t : Bool) → is_some (find get_number j s.gets) ≡ t → Has g x bytes (get_begun j t (Some y) s)
      go true u = h
      go false u = record { there = other u (eqb j g) refl; holds = h.holds }

  step-has : (l : Limits) (v : Event) (s : Files) (want : List ℕ → Option (List ℕ)) → spares g v ≡ true → Good s want → Has g x bytes s → Has g x bytes (step l v s)
  step-has l (Begin k n m) s want e i h = begin-has l k n m s h
  step-has l (Write k bs) s want e i h = write-has l k bs s want i h
  step-has l (Commit k) s want e i h = commit-has (committing l (find put_number k s.puts) s) s h
  step-has l (GiveUp k) s want e i h = record { there = h.there; holds = h.holds }
  step-has l (BeginGet j n) s want e i h = get_has j (held s.slots n) s h
  step-has l (EndGet j) s want e i h = record { there = find-without-other get_number j g s.gets (not-true (eqb j g) e) ∙ h.there; holds = h.holds }
  step-has l (CrashInWrite k bs t) s want e i h = absurd (true≢false (sym e))
  step-has l (CrashInCommit k t) s want e i h = absurd (true≢false (sym e))
  step-has l Crash s want e i h = absurd (true≢false (sym e))

  after-has : (l : Limits) (d : ℕ → List ℕ) (vs fs : List Event) → goes_on g fs ≡ true → Has g x bytes (after l d vs) → Has g x bytes (after l d (fs ++ vs))
  unfolding after goes_on
  after-has l d vs [] e h = h
  after-has l d vs (v ∷ fs) e h =
      let q = and_parts (spares g v) (goes_on g fs) e in
      step-has l v (after l d (fs ++ vs)) (λ n. last_put l d n (fs ++ vs)) q.0 (after-good l d (fs ++ vs)) (after-has l d vs fs q.1 h)

-- a get that begins has the file that holds
begins : (l : Limits) (d : ℕ → List ℕ) (vs : List Event) (g : ℕ) (n bytes : List ℕ) → find get_number g (after l d vs).gets ≡ None → file_of n (after l d vs) ≡ Some bytes →
    (x : Get) × Has g x bytes (after l d (BeginGet g n ∷ vs))
unfolding after find
begins l d vs g n bytes u e = go (held (after l d vs).slots n) e
  where
    go : (o : Option Entry) → bytes_in (after l d vs).block o ≡ Some bytes → (x : Get) × Has g x bytes (get_begun g (is_some (find get_number g (after l d vs).gets)) o (after l d vs))
    go None w = absurd (none-some w)
    go (Some y) w = (
      record { number = g; blocks = y.blocks },
      subst (λ t. Has g (record { number = g; blocks = y.blocks }) bytes (get_begun g t (Some y) (after l d vs))) (sym (ap is_some u))
          (record { there = ap (λ t. cond t (Some (record { number = g; blocks = y.blocks })) (find get_number g (after l d vs).gets)) (eq-eqb g g refl); holds = some_inj w }),
    )

pub get_keeps : GetKeepsItsFile
get_keeps l d vs fs g n bytes u e w =
    let b = begins l d vs g n bytes u e in
    let h = after-has g b.0 bytes l d (BeginGet g n ∷ vs) fs w b.1 in
    ap (got_by (after l d (fs ++ (BeginGet g n ∷ vs))).block) h.there ∙ ap Some h.holds
