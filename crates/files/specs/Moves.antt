-- put and get turn by turn: what each reads, writes and does to the store. Assumes nothing.
use Rattle.std.specs.Prelude.{ℕ, ◌+◌, ◌-◌, min, Bool, true, false, cond, ◌&&◌, List, ◌++◌, length, take, drop, replicate, is_some, Some, None, Ok, Err, Option, Result, ◌==◌, nat_le, nat_lt, slice_index, slice_set}
use Rattle.model.specs.Files.{same}
use Rattle.model.specs.Messages.{Programs, Does, Reads, Writes, Ends}
use Rattle.sha256.specs.Message.{SHA256, Be32, Bytes32}
use Rattle.record.specs.Names.{name_of, is_name, named}
use Rattle.record.specs.Records.{needed}
use Rattle.record.specs.declared.name.Name.{Name}
use Rattle.disk.specs.Disks.{Blocks, Meaning}
use Rattle.opened.specs.Opened.{record_of, joined}
use Rattle.store.specs.Leases.{Table, lease, unused, put_place, put_set, with_lease}
use Rattle.store.specs.Stores.{lease_bits, put_next, get_next, piece_at, wrote_answer, wrote_disk, ready, commit_answer, commit_disk, commit_leases, get_answer, get_leases}
use Rattle.store.specs.declared.lease.Lease.TheVariants.{Put}
use Rattle.store.specs.declared.store.Store.{Store}
use Rattle.store.specs.declared.store.Prepared.{Prepared}
use Rattle.store.specs.declared.store.Piece.{Piece}
use Rattle.store.specs.declared.store.Getting.{Getting}
use Rattle.store.specs.declared.store.Unread.{Unread}
use Rattle.store.specs.declared.store.Unread.TheVariants.{NoFile, NoPlace}
use Rattle.store.specs.declared.store.Unwritten.{Unwritten}
use Rattle.store.specs.declared.store.Refused.{Refused}
use Rattle.files.specs.declared.files.Files.{Files}
use Rattle.files.specs.declared.transfer.Failure.{Failure}
use Rattle.files.specs.declared.transfer.Failure.TheVariants.{BadName, NoRoom, NotWhole}
use Rattle.files.specs.declared.transfer.Which.{Which}
use Rattle.files.specs.declared.transfer.Which.TheVariants.{IsPut, IsGet}
use Rattle.files.specs.declared.transfer.Putting.{Putting}
use Rattle.files.specs.declared.transfer.Reading.{Reading}
use Rattle.files.specs.declared.transfer.Transfer.{Transfer}
use Rattle.files.specs.declared.transfer.Phase.{Phase}
use Rattle.files.specs.declared.transfer.Phase.TheVariants.{NameLength, Naming, Sizing, Block, Digest, Head, Body, Tail, Over}

abbrev pub status : Result (Unit {0}) Failure → ℕ
status (Ok x) = 0
status (Err BadName) = 9
status (Err NoRoom) = 10
status (Err NotWhole) = 11

-- the phase that a step comes to, or how it fails
abbrev pub settled : Result Phase Failure → Phase
settled (Ok a) = a
settled (Err e) = Over (Err e)

-- how many bytes a phase reads
abbrev pub wanted : Phase → ℕ
wanted (NameLength w) = 1
wanted (Naming w n) = n
wanted (Sizing n) = 4
wanted (Block p) = min 512 p.rest
wanted (Digest p) = 32
wanted (Head r) = 0
wanted (Body r) = 0
wanted (Tail r) = 0
wanted (Over e) = 0

-- the next block of a put, or its digest
abbrev pub to_come : Putting → Phase
to_come p = cond (p.rest == 0) (Digest p) (Block p)

abbrev pub after_block : Putting → ℕ → Putting
after_block p next = record { name = p.name; size = p.size; place = p.place; from = next; rest = p.rest - min 512 p.rest }

abbrev pub begun_put : Name → ℕ → ℕ → Putting
begun_put name size t = record { name = name; size = size; place = t; from = 0; rest = size }

-- the body of a file, or its digest
abbrev pub to_write : Reading → Phase
to_write r = cond (r.left == 0) (Tail r) (Body r)

abbrev pub after_piece : Reading → ℕ → Reading
after_piece r next = record { place = r.place; size = r.size; from = next; left = r.left - min 512 r.left }

abbrev pub begun_get : Getting → Reading
begun_get g = record { place = g.place; size = g.size; from = 0; left = g.size }

abbrev pub sized_phase : Name → ℕ → Option ℕ → Phase
sized_phase name size None = Over (Err NoRoom)
sized_phase name size (Some t) = to_come (begun_put name size t)

abbrev pub length_phase : Which → ℕ → Phase
length_phase w n = cond (nat_le 1 n && nat_le n 32) (Naming w n) (Over (Err BadName))

-- a get of a name that has no file, or that finds no place
abbrev pub unread : Unread → Failure
unread NoFile = BadName
unread NoPlace = NoRoom

abbrev pub gotten_phase : Result Getting Unread → Phase
gotten_phase (Ok g) = Head (begun_get g)
gotten_phase (Err u) = Over (Err (unread u))

-- the place in the store's table that a phase has
abbrev pub place_of : Phase → Option ℕ
place_of (NameLength w) = None
place_of (Naming w n) = None
place_of (Sizing name) = None
place_of (Block p) = Some p.place
place_of (Digest p) = Some p.place
place_of (Head r) = Some r.place
place_of (Body r) = Some r.place
place_of (Tail r) = Some r.place
place_of (Over e) = None

abbrev pub started : Which → Transfer
started w = record { phase = NameLength w; have = replicate 512 0; count = 0 }

-- with what came
abbrev pub filled : Transfer → List ℕ → List ℕ
filled t bs = take t.count t.have ++ (bs ++ drop (t.count + length bs) t.have)

module _ {D : Type 0} (m : Meaning D) where
  -- the phase after a turn, and the store
  pub record Moved : Type 0 where
    pub phase : Phase
    pub store : Store D

  abbrev pub moved : Phase → Store D → Moved
  moved a s = record { phase = a; store = s }

  abbrev pub stored : D → Table → Store D
  stored d ls = record { disk = d; leases = ls }

  abbrev pub released : Store D → ℕ → Store D
  released s t = stored s.disk (slice_set s.leases t None)

  abbrev pub files : Store D → Blocks
  files s = m.block s.disk

  -- A get keeps the blocks of the file that its name has now.
  abbrev pub getting : Store D → Name → Moved
  getting s n =
      moved (gotten_phase (get_answer (record_of (files s) (name_of n)) (unused s.leases)))
      (stored s.disk (get_leases s.leases (record_of (files s) (name_of n)) (unused s.leases)))

  abbrev pub named_as : Store D → Which → List ℕ → Bool → Moved
  named_as s w bs false = moved (Over (Err BadName)) s
  named_as s IsPut bs true = moved (Sizing (named bs)) s
  named_as s IsGet bs true = getting s (named bs)

  -- A put takes its blocks when its length is known.
  abbrev pub sized : Store D → Name → ℕ → Moved
  sized s name size =
      moved (sized_phase name size (put_place (files s) s.leases (needed size)))
      (stored s.disk (with_lease s.leases (put_place (files s) s.leases (needed size)) (Some (Put (put_set (files s) s.leases (needed size))))))

  -- It writes a block as it comes.
  abbrev pub blocked_by : Store D → Putting → Result ℕ Unwritten → Moved
  blocked_by s p (Ok next) = moved (to_come (after_block p next)) s
  blocked_by s p (Err e) = moved (Over (Err NoRoom)) (released s p.place)

  abbrev pub next_of : Store D → Putting → Option ℕ
  next_of s p = put_next (lease s.leases p.place) p.from

  abbrev pub blocked : Store D → Putting → List ℕ → Moved
  blocked s p x =
      blocked_by (stored (wrote_disk m s.disk (next_of s p) x) s.leases) p (wrote_answer (next_of s p) (m.up (wrote_disk m s.disk (next_of s p) x)))

  -- All has come: it commits if its name has room and the digest fits.
  abbrev pub to_commit : Store D → Putting → Option Prepared
  to_commit s p = ready m s p.place p.name p.size

  abbrev pub committed_by : Store D → ℕ → Result (Unit {0}) Refused → Moved
  committed_by s t (Ok x) = moved (Over (Ok tt)) s
  committed_by s t (Err e) = moved (Over (Err NoRoom)) (released s t)

  abbrev pub committed : Store D → Putting → Moved
  committed s p =
      committed_by (stored (commit_disk m s.disk (to_commit s p)) (commit_leases s.leases p.place (to_commit s p) (m.up (commit_disk m s.disk (to_commit s p))))) p.place
      (commit_answer (to_commit s p) (m.up (commit_disk m s.disk (to_commit s p))))

  abbrev pub digest_in : Store D → ℕ → ℕ → List ℕ
  digest_in s t size = SHA256 (take size (joined (files s) (lease_bits (lease s.leases t)) 2048))

  abbrev pub closed_by : Store D → Putting → Bool → Bool → Moved
  closed_by s p false fits = moved (Over (Err NoRoom)) (released s p.place)
  closed_by s p true false = moved (Over (Err NotWhole)) (released s p.place)
  closed_by s p true true = committed s p

  abbrev pub closed : Store D → Putting → List ℕ → Moved
  closed s p digest = closed_by s p (is_some (to_commit s p)) (same (digest_in s p.place p.size) digest)

  -- A get goes on to the next block.
  abbrev pub piece_of : Store D → Reading → Option Piece
  piece_of s r = piece_at (files s) (get_next (lease s.leases r.place) r.from)

  abbrev pub went_on : Store D → Reading → Option Piece → Moved
  went_on s r None = moved (Over (Err NoRoom)) (released s r.place)
  went_on s r (Some x) = moved (to_write (after_piece r x.next)) s

  -- what a phase read has all come
  abbrev pub came : Store D → Phase → List ℕ → Moved
  came s (NameLength w) have = moved (length_phase w (slice_index have 0)) s
  came s (Naming w n) have = named_as s w (take n have) (is_name (take n have))
  came s (Sizing name) have = sized s name (Be32 have 0)
  came s (Block p) have = blocked s p have
  came s (Digest p) have = closed s p (take 32 have)
  came s (Head r) have = moved (to_write r) s
  came s (Body r) have = went_on s r (piece_of s r)
  came s (Tail r) have = moved (Over (Ok tt)) (released s r.place)
  came s (Over e) have = moved (Over e) s

  -- what it has under way is given up
  abbrev pub given_up_at : Store D → Option ℕ → Store D
  given_up_at s None = s
  given_up_at s (Some t) = released s t

  abbrev pub given_up : Store D → Phase → Store D
  given_up s a = given_up_at s (place_of a)

  -- a get that comes to its digest works it out
  abbrev pub have_in : Store D → Phase → List ℕ
  have_in s (NameLength w) = replicate 512 0
  have_in s (Naming w n) = replicate 512 0
  have_in s (Sizing name) = replicate 512 0
  have_in s (Block p) = replicate 512 0
  have_in s (Digest p) = replicate 512 0
  have_in s (Head r) = replicate 512 0
  have_in s (Body r) = replicate 512 0
  have_in s (Tail r) = digest_in s r.place r.size ++ replicate 480 0
  have_in s (Over e) = replicate 512 0

  abbrev pub entered : Store D → Phase → Transfer
  entered s a = record { phase = a; have = have_in s a; count = 0 }

  pub record Turned : Type 0 where
    pub state : Transfer
    pub store : Store D

  abbrev pub over : Store D → Transfer → Turned
  over s t = record { state = entered (given_up s t.phase) (Over (Err NotWhole)); store = given_up s t.phase }

  abbrev pub went_into : Moved → Turned
  went_into m = record { state = entered m.store m.phase; store = m.store }

  abbrev pub turned : Store D → Transfer → List ℕ → Bool → Turned
  turned s t bs true = over s t
  turned s t bs false =
      cond (nat_lt (wanted t.phase) (t.count + length bs)) (over s t)
      (cond (nat_lt (t.count + length bs) (wanted t.phase)) (record { state = record { phase = t.phase; have = filled t bs; count = t.count + length bs }; store = s })
      (went_into (came s t.phase (filled t bs))))

  abbrev pub writes_of : ℕ → Option Piece → Does
  writes_of left None = Ends 10
  writes_of left (Some x) = Writes (take (min 512 left) x.bytes)

  abbrev pub does_at : Store D → Phase → List ℕ → ℕ → Does
  does_at s (NameLength w) have count = Reads (1 - count)
  does_at s (Naming w n) have count = Reads (n - count)
  does_at s (Sizing name) have count = Reads (4 - count)
  does_at s (Block p) have count = Reads (min 512 p.rest - count)
  does_at s (Digest p) have count = Reads (32 - count)
  does_at s (Head r) have count = Writes (Bytes32 r.size)
  does_at s (Body r) have count = writes_of r.left (piece_of s r)
  does_at s (Tail r) have count = Writes (take 32 have)
  does_at s (Over e) have count = Ends (status e)

-- command 254 is put, any other is get
abbrev pub started_as : ℕ → Transfer
started_as k = cond (k == 254) (started IsPut) (started IsGet)

-- put and get as programs of the model, over a disk
abbrev pub meant : {D : Type 0} → Meaning D → Programs Transfer (Files D)
meant m =
    record {
      first = λ e k. started_as k;
      does = λ e t. does_at m e.store t.phase t.have t.count;
      next = λ e t bs eof. (turned m e.store t bs eof).state;
      after = λ e t bs eof. record { store = (turned m e.store t bs eof).store };
      release = λ e t. record { store = given_up m e.store t.phase };
    }
