-- What is promised of files after every list of puts, gets and crashes. Each is a type; a proof of it is the theorem. Assumes nothing.
use Rattle.std.specs.Prelude.{◌≡◌, ℕ, ◌-◌, ◌<◌, min, Bool, true, false, cond, not, ◌&&◌, ◌⊎◌, List, [], ◌∷◌, ◌++◌, length, Some, None, ◌==◌, ◌≢◌}
use Rattle.model.specs.Keyed.{find, is_in}
use Rattle.model.specs.Files.{Limits, Files, Put, Get, New, Event, Begin, Write, Commit, GiveUp, BeginGet, EndGet, CrashInWrite, CrashInCommit, Crash, put_number, get_number, held, blocks_in, blocks_of_put, file_of, reads, can_begin, can_commit, room_for_name, after, last_put}

-- 10. Each name has exactly the file of the last put of it whose record was whole on the device, whole; and none where none was.
abbrev pub FilesWhole : Type 0
FilesWhole = (l : Limits) (d : ℕ → List ℕ) (vs : List Event) (n : List ℕ) → file_of n (after l d vs) ≡ last_put l d n vs

-- the put commits by this event, or the machine crashes in its commit and the new record is left
abbrev pub IsCommitOf : ℕ → Event → Type 0
IsCommitOf k v = (v ≡ Commit k) ⊎ (v ≡ CrashInCommit k New)

-- Any one event, a crash at any write among them, leaves a name its file, or gives it the new one, whole, of a put of that name that could commit.
abbrev pub OldOrNew : Type 0
OldOrNew =
    (l : Limits) (d : ℕ → List ℕ) (vs : List Event) (v : Event) (n : List ℕ) →
    (file_of n (after l d (v ∷ vs)) ≡ file_of n (after l d vs)) ⊎
    ((k : ℕ) × (p : Put) × IsCommitOf k v × (find put_number k (after l d vs).puts ≡ Some p) × (can_commit l p (after l d vs) ≡ true) × (p.name ≡ n) × (file_of n (after l d (v ∷ vs)) ≡ Some p.given))

-- neither a crash nor the end of that get
abbrev pub spares : ℕ → Event → Bool
spares g (Begin k n m) = true
spares g (Write k bs) = true
spares g (Commit k) = true
spares g (GiveUp k) = true
spares g (BeginGet h n) = true
spares g (EndGet h) = not (h == g)
spares g (CrashInWrite k bs t) = false
spares g (CrashInCommit k t) = false
spares g Crash = false

unfoldable pub goes_on : ℕ → List Event → Bool
goes_on g [] = true
goes_on g (v ∷ vs) = spares g v && goes_on g vs

-- A get under way reads the file that its name had when it began, whatever is put meanwhile, until it ends or the machine crashes.
abbrev pub GetKeepsItsFile : Type 0
GetKeepsItsFile =
    (l : Limits) (d : ℕ → List ℕ) (vs fs : List Event) (g : ℕ) (n bytes : List ℕ) →
    find get_number g (after l d vs).gets ≡ None → file_of n (after l d vs) ≡ Some bytes → goes_on g fs ≡ true →
    reads g (after l d (fs ++ (BeginGet g n ∷ vs))) ≡ Some bytes

abbrev pub Apart : List ℕ → List ℕ → Type 0
Apart xs ys = (b : ℕ) → is_in b xs ≡ true → is_in b ys ≢ true

-- The blocks of a put under way are in no record that holds, in no other put and in no get.
pub record Alone (s : Files) (k : ℕ) (p : Put) : Type 0 where
  pub records : (n : List ℕ) → Apart (blocks_of_put p) (blocks_in (held s.slots n))
  pub puts : (j : ℕ) (q : Put) → (k == j) ≡ false → find put_number j s.puts ≡ Some q → Apart (blocks_of_put p) (blocks_of_put q)
  pub gets : (g : ℕ) (x : Get) → find get_number g s.gets ≡ Some x → Apart (blocks_of_put p) x.blocks

abbrev pub PutsAlone : Type 0
PutsAlone = (l : Limits) (d : ℕ → List ℕ) (vs : List Event) (k : ℕ) (p : Put) → find put_number k (after l d vs).puts ≡ Some p → Alone (after l d vs) k p

-- neither a crash nor the end of that put
abbrev pub spares_put : ℕ → Event → Bool
spares_put k (Begin j n m) = true
spares_put k (Write j bs) = true
spares_put k (Commit j) = not (j == k)
spares_put k (GiveUp j) = not (j == k)
spares_put k (BeginGet g n) = true
spares_put k (EndGet g) = true
spares_put k (CrashInWrite j bs t) = false
spares_put k (CrashInCommit j t) = false
spares_put k Crash = false

-- what an event gives to that put
abbrev pub given_by : ℕ → Event → List ℕ
given_by k (Begin j n m) = []
given_by k (Write j bs) = cond (j == k) bs []
given_by k (Commit j) = []
given_by k (GiveUp j) = []
given_by k (BeginGet g n) = []
given_by k (EndGet g) = []
given_by k (CrashInWrite j bs t) = []
given_by k (CrashInCommit j t) = []
given_by k Crash = []

unfoldable pub given_to : ℕ → List Event → List ℕ
given_to k [] = []
given_to k (v ∷ vs) = given_to k vs ++ given_by k v

-- whether what it writes is as long as a block, or the last of so many bytes, of which some were given
abbrev pub is_block : Limits → (size given put : ℕ) → Event → Bool
is_block l m n k (Begin j a b) = true
is_block l m n k (Write j bs) = cond (j == k) (length bs == min l.block (m - n)) true
is_block l m n k (Commit j) = true
is_block l m n k (GiveUp j) = true
is_block l m n k (BeginGet g a) = true
is_block l m n k (EndGet g) = true
is_block l m n k (CrashInWrite j bs t) = true
is_block l m n k (CrashInCommit j t) = true
is_block l m n k Crash = true

-- a put of so many bytes goes on by these events, block after block, whatever other puts and gets do meanwhile
unfoldable pub put_goes_on : Limits → (size put : ℕ) → List Event → Bool
put_goes_on l m k [] = true
put_goes_on l m k (v ∷ vs) = (spares_put k v && is_block l m (length (given_to k vs)) k v) && put_goes_on l m k vs

-- A put that could begin, was given so many bytes as it said, block after block, and finds room for its name, commits; and then its name has exactly the bytes that were given.
abbrev pub PutGoesThrough : Type 0
PutGoesThrough =
    (l : Limits) → 0 < l.block → (d : ℕ → List ℕ) (vs fs : List Event) (k : ℕ) (n : List ℕ) (m : ℕ) →
    can_begin l k m (after l d vs) ≡ true → put_goes_on l m k fs ≡ true → length (given_to k fs) ≡ m → room_for_name l n (after l d (fs ++ (Begin k n m ∷ vs))) ≡ true →
    file_of n (after l d (Commit k ∷ (fs ++ (Begin k n m ∷ vs)))) ≡ Some (given_to k fs)

-- A put that is refused, at its beginning or when it would commit, leaves everything as it was; one that would commit is still under way.
abbrev pub RefusedLeavesFiles : Type 0
RefusedLeavesFiles =
    (l : Limits) (d : ℕ → List ℕ) (vs : List Event) (k : ℕ) →
    ((n : List ℕ) (m : ℕ) → can_begin l k m (after l d vs) ≡ false → after l d (Begin k n m ∷ vs) ≡ after l d vs) ×
    ((p : Put) → find put_number k (after l d vs).puts ≡ Some p → can_commit l p (after l d vs) ≡ false → after l d (Commit k ∷ vs) ≡ after l d vs)
