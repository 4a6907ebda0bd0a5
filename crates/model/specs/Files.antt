-- Files: names with two slots each over data blocks, puts and gets under way, and a crash at any write. Assumes nothing.
use Rattle.std.specs.Prelude.{ℕ, zero, suc, ◌+◌, ◌-◌, ◌/◌, min, Bool, true, false, cond, not, ◌&&◌, ◌||◌, List, [], ◌∷◌, ◌++◌, length, take, Some, None, Option, ◌==◌, nat_le, nat_lt}
use Rattle.model.specs.Keyed.{find, count, is_in, gather}
use Rattle.model.specs.Messages.{is_some}

-- block: the most bytes of a data block; blocks: how many data blocks there are; names: how many names may have a file; counts: the greatest count of a record
pub record Limits : Type 0 where
  pub block : ℕ
  pub blocks : ℕ
  pub names : ℕ
  pub counts : ℕ

-- the real limits: 1 MiB of blocks
abbrev pub device : Limits
device = record { block = 512; blocks = 2048; names = 64; counts = 0xffff_ffff_ffff_ffff }

-- a record: how often its name was put, and the blocks of its file in order
pub record Entry : Type 0 where
  pub count : ℕ
  pub blocks : List ℕ

-- what stands in a slot: a record whose checksum fits, or anything else
pub data Slot : Type 0 where
  Junk : Slot
  Fits : Entry → Slot

pub record Slots : Type 0 where
  pub first : Slot
  pub second : Slot

-- number: by which it is known while it is under way; given: all bytes that it was given so far;
-- done, left: the blocks that it has taken and written, one after another, and those that it has not written yet
pub record Put : Type 0 where
  pub number : ℕ
  pub name : List ℕ
  pub size : ℕ
  pub given : List ℕ
  pub done : List ℕ
  pub left : List ℕ

-- blocks: those of the file that held when it began
pub record Get : Type 0 where
  pub number : ℕ
  pub blocks : List ℕ

-- block: what stands in each data block; slots: the two of each name; names: all names whose slots were ever written to; puts, gets: those under way
pub record Files : Type 0 where
  pub block : ℕ → List ℕ
  pub slots : List ℕ → Slots
  pub names : List (List ℕ)
  pub puts : List Put
  pub gets : List Get

-- what a crash leaves where something was being written: what was there, what was being written, or other bytes, which fit no checksum
pub data Left : Type 0 where
  Old : Left
  New : Left
  Other : List ℕ → Left

-- a put begins, writes its next block, commits, is given up; a get begins, ends; the machine crashes while a put writes a block, while it commits, or between writes
pub data Event : Type 0 where
  Begin : (put : ℕ) → (name : List ℕ) → (size : ℕ) → Event
  Write : (put : ℕ) → List ℕ → Event
  Commit : (put : ℕ) → Event
  GiveUp : (put : ℕ) → Event
  BeginGet : (get : ℕ) → (name : List ℕ) → Event
  EndGet : (get : ℕ) → Event
  CrashInWrite : (put : ℕ) → List ℕ → Left → Event
  CrashInCommit : (put : ℕ) → Left → Event
  Crash : Event

-- whether two names are one
unfoldable pub same : List ℕ → List ℕ → Bool
same [] [] = true
same [] (y ∷ ys) = false
same (x ∷ xs) [] = false
same (x ∷ xs) (y ∷ ys) = cond (x == y) (same xs ys) false

unfoldable pub is_named : List ℕ → List (List ℕ) → Bool
is_named n [] = false
is_named n (m ∷ ms) = cond (same m n) true (is_named n ms)

-- those that pass a test
unfoldable pub keep : (ℕ → Bool) → List ℕ → List ℕ
keep p [] = []
keep p (x ∷ xs) = cond (p x) (x ∷ keep p xs) (keep p xs)

-- so many numbers from the first on
unfoldable pub up_from : ℕ → ℕ → List ℕ
up_from a zero = []
up_from a (suc n) = a ∷ up_from (suc a) n

-- all but what has that number
unfoldable pub without : {X : Type 0} → (X → ℕ) → ℕ → List X → List X
without key t [] = []
without key t (x ∷ xs) = cond (key x == t) (without key t xs) (x ∷ without key t xs)

abbrev pub put_number : Put → ℕ
put_number p = p.number

abbrev pub get_number : Get → ℕ
get_number g = g.number

-- Of a name's two slots the one with the higher count whose checksum fits holds, the first among equals.
abbrev pub holding : Slot → Slot → Option Entry
holding Junk Junk = None
holding Junk (Fits b) = Some b
holding (Fits a) Junk = Some a
holding (Fits a) (Fits b) = cond (nat_lt a.count b.count) (Some b) (Some a)

abbrev pub first_holds : Slot → Slot → Bool
first_holds Junk b = false
first_holds (Fits a) Junk = true
first_holds (Fits a) (Fits b) = not (nat_lt a.count b.count)

abbrev pub held : (List ℕ → Slots) → List ℕ → Option Entry
held slots n = holding (slots n).first (slots n).second

abbrev pub blocks_in : Option Entry → List ℕ
blocks_in None = []
blocks_in (Some x) = x.blocks

abbrev pub count_in : Option Entry → ℕ
count_in None = 0
count_in (Some x) = x.count

abbrev pub bytes_in : (ℕ → List ℕ) → Option Entry → Option (List ℕ)
bytes_in block None = None
bytes_in block (Some x) = Some (gather block x.blocks)

-- the file that a name has, if it has one
abbrev pub file_of : List ℕ → Files → Option (List ℕ)
file_of n s = bytes_in s.block (held s.slots n)

-- Free is what no record that holds, no put and no get under way has.
abbrev pub blocks_of_put : Put → List ℕ
blocks_of_put p = p.done ++ p.left

abbrev pub blocks_of_get : Get → List ℕ
blocks_of_get g = g.blocks

abbrev pub taken : Files → List ℕ
taken s = gather (λ n. blocks_in (held s.slots n)) s.names ++ (gather blocks_of_put s.puts ++ gather blocks_of_get s.gets)

abbrev pub is_free : Files → ℕ → Bool
is_free s b = not (is_in b (taken s))

abbrev pub free : Limits → Files → List ℕ
free l s = keep (is_free s) (up_from 0 l.blocks)

abbrev pub files : (ℕ → List ℕ) → (List ℕ → Slots) → List (List ℕ) → List Put → List Get → Files
files b s n p g = record { block = b; slots = s; names = n; puts = p; gets = g }

-- a device on which no checksum fits
abbrev pub fresh : (ℕ → List ℕ) → Files
fresh block = files block (λ n. record { first = Junk; second = Junk }) [] [] []

-- after a crash nothing is under way
abbrev pub crashed : (ℕ → List ℕ) → (List ℕ → Slots) → List (List ℕ) → Files
crashed b s n = files b s n [] []

-- A put begins if its number is not in use and there are blocks enough; it takes the lowest.
abbrev pub needed : Limits → ℕ → ℕ
needed l m = (m + (l.block - 1)) / l.block

abbrev pub can_begin : Limits → (put size : ℕ) → Files → Bool
can_begin l k m s = not (is_some (find put_number k s.puts)) && nat_le (needed l m) (length (free l s))

abbrev pub new_put : ℕ → List ℕ → ℕ → List ℕ → Put
new_put k n m bs = record { number = k; name = n; size = m; given = []; done = []; left = bs }

-- with a put as it then is
abbrev pub with_put : Put → List Put → List Put
with_put p ps = p ∷ without put_number p.number ps

abbrev pub begun : Limits → ℕ → List ℕ → ℕ → Files → Files
begun l k n m s = cond (can_begin l k m s) (files s.block s.slots s.names (with_put (new_put k n m (take (needed l m) (free l s))) s.puts) s.gets) s

-- It writes its next block: as many bytes as a block has, or the last.
abbrev pub is_next : Limits → List ℕ → Put → Bool
is_next l bs p = length bs == min l.block (p.size - length p.given)

abbrev pub write : ℕ → List ℕ → (ℕ → List ℕ) → ℕ → List ℕ
write b bs block a = cond (b == a) bs (block a)

abbrev pub wrote : List ℕ → ℕ → List ℕ → Put → Put
wrote bs b rest p = record { number = p.number; name = p.name; size = p.size; given = p.given ++ bs; done = p.done ++ b ∷ []; left = rest }

-- what a write does to a put that is under way
abbrev pub wrote_in : Limits → List ℕ → List ℕ → Put → Files → Files
wrote_in l bs [] p s = s
wrote_in l bs (b ∷ rest) p s = cond (is_next l bs p) (files (write b bs s.block) s.slots s.names (with_put (wrote bs b rest p) s.puts) s.gets) s

abbrev pub wrote_by : Limits → List ℕ → Option Put → Files → Files
wrote_by l bs None s = s
wrote_by l bs (Some p) s = wrote_in l bs p.left p s

abbrev pub left_of : Left → (old new : List ℕ) → List ℕ
left_of Old old new = old
left_of New old new = new
left_of (Other bytes) old new = bytes

abbrev pub torn_in : Limits → List ℕ → Left → List ℕ → Put → Files → Files
torn_in l bs t [] p s = crashed s.block s.slots s.names
torn_in l bs t (b ∷ rest) p s = cond (is_next l bs p) (crashed (write b (left_of t (s.block b) bs) s.block) s.slots s.names) (crashed s.block s.slots s.names)

abbrev pub torn_by : Limits → List ℕ → Left → Option Put → Files → Files
torn_by l bs t None s = crashed s.block s.slots s.names
torn_by l bs t (Some p) s = torn_in l bs t p.left p s

-- It commits when all its blocks are written, all its bytes given, and its name has a file or may have one: its record goes into the slot that does not hold.
abbrev pub has_file : (List ℕ → Slots) → List ℕ → Bool
has_file slots n = is_some (held slots n)

abbrev pub room_for_name : Limits → List ℕ → Files → Bool
room_for_name l n s = (has_file s.slots n || nat_lt (count (has_file s.slots) s.names) l.names) && nat_lt (count_in (held s.slots n)) l.counts

abbrev pub can_commit : Limits → Put → Files → Bool
can_commit l p s = length p.left == 0 && (length p.given == p.size && room_for_name l p.name s)

-- the put, if it may commit
abbrev pub committing : Limits → Option Put → Files → Option Put
committing l None s = None
committing l (Some p) s = cond (can_commit l p s) (Some p) None

abbrev pub entry : (List ℕ → Slots) → Put → Entry
entry slots p = record { count = suc (count_in (held slots p.name)); blocks = p.done }

abbrev pub in_place : Bool → Slot → Slots → Slots
in_place true x two = record { first = two.first; second = x }
in_place false x two = record { first = x; second = two.second }

abbrev pub not_holding : Slots → Slot
not_holding two = cond (first_holds two.first two.second) two.second two.first

-- another record in the slot of a name that does not hold
abbrev pub in_slot : Slot → List ℕ → (List ℕ → Slots) → List ℕ → Slots
in_slot x n slots m = cond (same n m) (in_place (first_holds (slots n).first (slots n).second) x (slots n)) (slots m)

abbrev pub add_name : List ℕ → List (List ℕ) → List (List ℕ)
add_name n ns = cond (is_named n ns) ns (n ∷ ns)

abbrev pub committed : Option Put → Files → Files
committed None s = s
committed (Some p) s = files s.block (in_slot (Fits (entry s.slots p)) p.name s.slots) (add_name p.name s.names) (without put_number p.number s.puts) s.gets

abbrev pub left_in : Left → (old new : Slot) → Slot
left_in Old old new = old
left_in New old new = new
left_in (Other bytes) old new = Junk

abbrev pub torn_commit : Left → Option Put → Files → Files
torn_commit t None s = crashed s.block s.slots s.names
torn_commit t (Some p) s = crashed s.block (in_slot (left_in t (not_holding (s.slots p.name)) (Fits (entry s.slots p))) p.name s.slots) (add_name p.name s.names)

-- A get begins if its number is not in use and the name has a file.
abbrev pub get_begun : ℕ → Bool → Option Entry → Files → Files
get_begun g in_use None s = s
get_begun g in_use (Some x) s = cond in_use s (files s.block s.slots s.names s.puts (record { number = g; blocks = x.blocks } ∷ s.gets))

-- the bytes that a get under way reads from its blocks
abbrev pub got_by : (ℕ → List ℕ) → Option Get → Option (List ℕ)
got_by block None = None
got_by block (Some x) = Some (gather block x.blocks)

abbrev pub reads : ℕ → Files → Option (List ℕ)
reads g s = got_by s.block (find get_number g s.gets)

abbrev pub step : Limits → Event → Files → Files
step l (Begin k n m) s = begun l k n m s
step l (Write k bs) s = wrote_by l bs (find put_number k s.puts) s
step l (Commit k) s = committed (committing l (find put_number k s.puts) s) s
step l (GiveUp k) s = files s.block s.slots s.names (without put_number k s.puts) s.gets
step l (BeginGet g n) s = get_begun g (is_some (find get_number g s.gets)) (held s.slots n) s
step l (EndGet g) s = files s.block s.slots s.names s.puts (without get_number g s.gets)
step l (CrashInWrite k bs t) s = torn_by l bs t (find put_number k s.puts) s
step l (CrashInCommit k t) s = torn_commit t (committing l (find put_number k s.puts) s) s
step l Crash s = crashed s.block s.slots s.names

-- after events, the latest first, from a device that no file was put on
unfoldable pub after : Limits → (ℕ → List ℕ) → List Event → Files
after l d [] = fresh d
after l d (v ∷ vs) = step l v (after l d vs)

-- the put whose record is whole on the device by this event, if there is one
abbrev pub puts_by : Limits → Event → Files → Option Put
puts_by l (Begin k n m) s = None
puts_by l (Write k bs) s = None
puts_by l (Commit k) s = committing l (find put_number k s.puts) s
puts_by l (GiveUp k) s = None
puts_by l (BeginGet g n) s = None
puts_by l (EndGet g) s = None
puts_by l (CrashInWrite k bs t) s = None
puts_by l (CrashInCommit k Old) s = None
puts_by l (CrashInCommit k New) s = committing l (find put_number k s.puts) s
puts_by l (CrashInCommit k (Other bytes)) s = None
puts_by l Crash s = None

-- a name's file once that put's record is whole: all bytes that the put was given
abbrev pub newer : List ℕ → Option Put → Option (List ℕ) → Option (List ℕ)
newer n None old = old
newer n (Some p) old = cond (same p.name n) (Some p.given) old

-- the bytes of the last put of a name whose record was whole on the device, whether it committed or the machine crashed in it
unfoldable pub last_put : Limits → (ℕ → List ℕ) → List ℕ → List Event → Option (List ℕ)
last_put l d n [] = None
last_put l d n (v ∷ vs) = newer n (puts_by l v (after l d vs)) (last_put l d n vs)
