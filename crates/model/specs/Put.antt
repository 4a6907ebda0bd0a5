-- put and get: programs whose environment is the files, each change of which is an event of files. Assumes nothing.
use Rattle.std.specs.Prelude.{ℕ, zero, suc, ◌+◌, ◌-◌, ◌*◌, ◌/◌, ◌%◌, min, Bool, true, false, cond, ◌&&◌, ◌||◌, List, [], ◌∷◌, ◌++◌, length, Some, None, Option, ◌==◌, nat_le, nat_lt}
use Rattle.model.specs.Keyed.{find, every, numbers}
use Rattle.model.specs.Messages.{Does, Reads, Writes, Ends, Programs}
use Rattle.model.specs.Files.{Limits, Files, Put, Get, Event, Begin, Write, Commit, GiveUp, BeginGet, EndGet, step, same, put_number, get_number, file_of, reads, can_begin, can_commit}

-- how put and get end: all well; a bad name, or one that has no file; no room; a digest that does not fit, or input that ends early
pub data Ended : Type 0 where
  Well : Ended
  BadName : Ended
  NoRoom : Ended
  NotWhole : Ended

abbrev pub status_of : Ended → ℕ
status_of Well = 0
status_of BadName = 9
status_of NoRoom = 10
status_of NotWhole = 11

-- which of the two a program is
pub data Which : Type 0 where
  IsPut : Which
  IsGet : Which

-- What it is at: it reads the length of the name, then the name; a put then the length of the file, its bytes, block by block, with so many to come after the block, and the digest;
-- a get writes the length, the blocks that are left, and the digest.
pub data At : Type 0 where
  NameLength : Which → At
  Name : Which → At
  Size : (name : List ℕ) → At
  Block : (put : ℕ) → (rest : ℕ) → At
  Digest : (put : ℕ) → At
  Head : (get : ℕ) → At
  Body : (get : ℕ) → List ℕ → At
  Over : Ended → At

-- have: what has come of what it reads; want: how many bytes of it are missing
pub record Storing : Type 0 where
  pub at : At
  pub have : List ℕ
  pub want : ℕ

abbrev pub storing : At → ℕ → Storing
storing a n = record { at = a; have = []; want = n }

-- the state after a turn, and what happens to the files in it
pub record Told : Type 0 where
  pub state : Storing
  pub events : List Event

abbrev pub told : At → ℕ → List Event → Told
told a n vs = record { state = storing a n; events = vs }

abbrev pub over : Ended → List Event → Told
over x vs = told (Over x) 0 vs

-- small letters, digits and dots
abbrev pub is_name_byte : ℕ → Bool
is_name_byte b = (nat_le 97 b && nat_le b 122) || ((nat_le 48 b && nat_le b 57) || b == 46)

-- high byte first
unfoldable pub number : ℕ → List ℕ → ℕ
number n [] = n
number n (b ∷ bs) = number (n * 256 + b) bs

abbrev pub four_bytes : ℕ → List ℕ
four_bytes n = n / 16777216 % 256 ∷ (n / 65536 % 256 ∷ (n / 256 % 256 ∷ (n % 256 ∷ [])))

-- a number that is larger than all in a list
unfoldable pub unused : List ℕ → ℕ
unused [] = 0
unused (n ∷ ns) = cond (nat_le (unused ns) n) (suc n) (unused ns)

abbrev pub given_to : Option Put → List ℕ
given_to None = []
given_to (Some p) = p.given

abbrev pub or_none : Option (List ℕ) → List ℕ
or_none None = []
or_none (Some bytes) = bytes

abbrev pub blocks_of : Option Get → List ℕ
blocks_of None = []
blocks_of (Some x) = x.blocks

-- events, the first first
unfoldable pub play : Limits → List Event → Files → Files
play l [] s = s
play l (v ∷ vs) s = play l vs (step l v s)

abbrev pub if_some : Option (List ℕ) → Told → Told
if_some None x = over BadName []
if_some (Some bytes) x = x

module _ (l : Limits) (digest : List ℕ → List ℕ) where
  -- the next block of so many bytes that are to come, or the digest
  abbrev pub to_come : ℕ → ℕ → List Event → Told
  to_come k zero vs = told (Digest k) 32 vs
  to_come k (suc m) vs = told (Block k (suc m - l.block)) (min l.block (suc m)) vs

  abbrev pub named : Which → List ℕ → Files → Told
  named IsPut name s = told (Size name) 4 []
  named IsGet name s = if_some (file_of name s) (told (Head (unused (numbers get_number s.gets))) 0 (BeginGet (unused (numbers get_number s.gets)) name ∷ []))

  abbrev pub sized : (put : ℕ) → List ℕ → ℕ → Files → Told
  sized k name m s = cond (can_begin l k m s) (to_come k m (Begin k name m ∷ [])) (over NoRoom [])

  abbrev pub may_commit : Option Put → Files → Bool
  may_commit None s = false
  may_commit (Some p) s = can_commit l p s

  -- all has come
  abbrev pub closed : ℕ → List ℕ → Option Put → Files → Told
  closed k have p s = cond (may_commit p s) (cond (same (digest (given_to p)) have) (over Well (Commit k ∷ [])) (over NotWhole (GiveUp k ∷ []))) (over NoRoom (GiveUp k ∷ []))

  -- what it read has all come
  abbrev pub came : At → List ℕ → Files → Told
  came (NameLength w) have s = cond (nat_le 1 (number 0 have) && nat_le (number 0 have) 32) (told (Name w) (number 0 have) []) (over BadName [])
  came (Name w) have s = cond (every is_name_byte have) (named w have s) (over BadName [])
  came (Size name) have s = sized (unused (numbers put_number s.puts)) name (number 0 have) s
  came (Block k rest) have s = to_come k rest (Write k have ∷ [])
  came (Digest k) have s = closed k have (find put_number k s.puts) s
  came (Head g) have s = told (Body g (blocks_of (find get_number g s.gets))) 0 []
  came (Body g []) have s = over Well (EndGet g ∷ [])
  came (Body g (b ∷ bs)) have s = told (Body g bs) 0 []
  came (Over x) have s = over x []

  -- what is to be undone when it ends before its time
  abbrev pub undo : At → List Event
  undo (NameLength w) = []
  undo (Name w) = []
  undo (Size name) = []
  undo (Block k rest) = GiveUp k ∷ []
  undo (Digest k) = GiveUp k ∷ []
  undo (Head g) = EndGet g ∷ []
  undo (Body g bs) = EndGet g ∷ []
  undo (Over x) = []

  abbrev pub turned_by : Files → Storing → List ℕ → Bool → Told
  turned_by s x bs true = over NotWhole (undo x.at)
  turned_by s x bs false = cond (nat_lt (length bs) x.want) (record { state = record { at = x.at; have = x.have ++ bs; want = x.want - length bs }; events = [] }) (came x.at (x.have ++ bs) s)

  abbrev pub does_at : Files → At → ℕ → Does
  does_at s (NameLength w) n = Reads n
  does_at s (Name w) n = Reads n
  does_at s (Size name) n = Reads n
  does_at s (Block k rest) n = Reads (min 1024 n)
  does_at s (Digest k) n = Reads n
  does_at s (Head g) n = Writes (four_bytes (length (or_none (reads g s))))
  does_at s (Body g []) n = Writes (digest (or_none (reads g s)))
  does_at s (Body g (b ∷ bs)) n = Writes (s.block b)
  does_at s (Over x) n = Ends (status_of x)

  -- command 254 is put, any other is get
  abbrev pub storage : Programs Storing Files
  storage = record {
    first = λ s k. cond (k == 254) (storing (NameLength IsPut) 1) (storing (NameLength IsGet) 1);
    does = λ s x. does_at s x.at x.want;
    next = λ s x bs eof. (turned_by s x bs eof).state;
    after = λ s x bs eof. play l (turned_by s x bs eof).events s;
    release = λ s x. play l (undo x.at) s;
  }
