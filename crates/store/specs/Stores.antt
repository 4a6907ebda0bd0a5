-- What each call does to the store: its disk, the puts and gets under way, and which file each name has. Assumes nothing.
use Rattle.std.specs.Prelude.{◌≡◌, ℕ, ◌+◌, ◌-◌, ◌<◌, Bool, true, false, cond, ◌&&◌, ◌⊎◌, List, Some, None, Ok, Err, Option, Result, ◌≢◌, nat_lt, slice_set}
use Rattle.blocks.specs.Sets.{has, first, none}
use Rattle.blocks.specs.declared.Set.{Set}
use Rattle.record.specs.Names.{name_of}
use Rattle.record.specs.Records.{makes_sense, encode}
use Rattle.record.specs.declared.name.Name.{Name}
use Rattle.record.specs.declared.record.Record.{Record}
use Rattle.disk.specs.Disks.{Blocks, Meaning, Wrote}
use Rattle.opened.specs.Opened.{target, joined, content, Same, Changed}
use Rattle.opened.specs.declared.Target.{Target}
use Rattle.store.specs.Leases.{Table, lease, lease_set, Sound}
use Rattle.store.specs.declared.lease.Lease.{Lease}
use Rattle.store.specs.declared.lease.Lease.TheVariants.{Put, Get}
use Rattle.store.specs.declared.store.Store.{Store}
use Rattle.store.specs.declared.store.Prepared.{Prepared}
use Rattle.store.specs.declared.store.Piece.{Piece}
use Rattle.store.specs.declared.store.Getting.{Getting}
use Rattle.store.specs.declared.store.Unread.{Unread}
use Rattle.store.specs.declared.store.Unread.TheVariants.{NoFile, NoPlace}
use Rattle.store.specs.declared.store.Unwritten.{Unwritten}
use Rattle.store.specs.declared.store.Unwritten.TheVariants.{NoBlock, Lost}
use Rattle.store.specs.declared.store.Refused.{Refused}
use Rattle.store.specs.declared.store.Refused.TheVariants.{NoRoom, Crashed}

-- the blocks under way there
abbrev pub lease_bits : Option Lease → List ℕ
lease_bits None = none
lease_bits (Some x) = (lease_set x).bits

-- the next block of a put; of a get
abbrev pub put_next : Option Lease → ℕ → Option ℕ
put_next None from = None
put_next (Some (Put s)) from = first (has s.bits) (2048 - from) from
put_next (Some (Get s)) from = None

abbrev pub get_next : Option Lease → ℕ → Option ℕ
get_next None from = None
get_next (Some (Put s)) from = None
get_next (Some (Get s)) from = first (has s.bits) (2048 - from) from

-- what a get reads there, and from where it goes on
abbrev pub piece_at : Blocks → Option ℕ → Option Piece
piece_at f None = None
piece_at f (Some b) = Some (record { next = b + 1; bytes = f (128 + b) })

-- A write of the next block of a put.
abbrev pub wrote_answer : Option ℕ → Bool → Result ℕ Unwritten
wrote_answer None up = Err NoBlock
wrote_answer (Some b) true = Ok (b + 1)
wrote_answer (Some b) false = Err Lost

abbrev pub wrote_disk : {D : Type 0} → Meaning D → D → Option ℕ → List ℕ → D
wrote_disk m d None x = d
wrote_disk m d (Some b) x = m.wrote d (128 + b) x

abbrev pub WroteNext : Blocks → Option ℕ → List ℕ → Bool → Blocks → Type 0
WroteNext f None x up g = (a : ℕ) → g a ≡ f a
WroteNext f (Some b) x up g = Wrote f (128 + b) x up g

-- Whole or torn, it changes no file, and nothing of what others have under way.
pub record Kept (f : Blocks) (ls : Table) (t : ℕ) (g : Blocks) : Type 0 where
  pub same : Same f g
  pub sound : Sound g ls
  pub others : (u k : ℕ) → u < 16 → (u ≢ t) → joined g (lease_bits (lease ls u)) k ≡ joined f (lease_bits (lease ls u)) k

-- A commit: the record that it writes, and where, if its name has room.
abbrev pub new_record : Set → Name → ℕ → Target → Record
new_record s n size t = record { name = n; count = t.count + 1; size = size; blocks = s }

abbrev pub prepare_at : Set → Name → ℕ → Option Target → Option Prepared
prepare_at s n size None = None
prepare_at s n size (Some t) =
    cond (nat_lt t.count 18446744073709551615 && makes_sense (new_record s n size t)) (Some (record { slot = t.slot; entry = new_record s n size t })) None

abbrev pub prepared : Blocks → Option Lease → Name → ℕ → Option Prepared
prepared f None n size = None
prepared f (Some (Put s)) n size = prepare_at s n size (target f (name_of n))
prepared f (Some (Get s)) n size = None

-- the record that a commit of the put at t would write
abbrev pub ready : {D : Type 0} → Meaning D → Store D → ℕ → Name → ℕ → Option Prepared
ready m s t n size = prepared (m.block s.disk) (lease s.leases t) n size

abbrev pub commit_answer : Option Prepared → Bool → Result (Unit {0}) Refused
commit_answer None up = Err NoRoom
commit_answer (Some p) true = Ok tt
commit_answer (Some p) false = Err Crashed

abbrev pub commit_disk : {D : Type 0} → Meaning D → D → Option Prepared → D
commit_disk m d None = d
commit_disk m d (Some p) = m.wrote d p.slot (encode p.entry)

abbrev pub commit_leases : Table → ℕ → Option Prepared → Bool → Table
commit_leases ls t None up = ls
commit_leases ls t (Some p) true = slice_set ls t None
commit_leases ls t (Some p) false = ls

-- Refused, it changes nothing; done, its name has the new file, whole; a crash in it leaves every name its file, or that name the new one, whole.
abbrev pub Outcome : Blocks → List ℕ → Option Prepared → Bool → Blocks → Type 0
Outcome f n None up g = (a : ℕ) → g a ≡ f a
Outcome f n (Some p) true g = Changed f n (content f p.entry) g
Outcome f n (Some p) false g = Same f g ⊎ Changed f n (content f p.entry) g

-- A get: the record that holds, and its place.
abbrev pub get_answer : Option Record → Option ℕ → Result Getting Unread
get_answer None u = Err NoFile
get_answer (Some r) None = Err NoPlace
get_answer (Some r) (Some t) = Ok (record { place = t; size = r.size })

abbrev pub get_leases : Table → Option Record → Option ℕ → Table
get_leases ls None u = ls
get_leases ls (Some r) None = ls
get_leases ls (Some r) (Some t) = slice_set ls t (Some (Get r.blocks))
