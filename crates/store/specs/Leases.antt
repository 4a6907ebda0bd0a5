-- Blocks that puts and gets under way have, and what is free. Assumes nothing.
use Rattle.std.specs.Prelude.{◌≡◌, ℕ, ◌<◌, Bool, true, false, cond, not, ◌||◌, List, length, is_some, Some, None, Option, ◌≢◌, nat_le, slice_index_or, slice_set}
use Rattle.blocks.specs.Sets.{has, first, tally, is_free, lowest}
use Rattle.blocks.specs.declared.Set.{Set}
use Rattle.disk.specs.Disks.{Blocks}
use Rattle.opened.specs.Opened.{any, in_file}
use Rattle.store.specs.declared.lease.Lease.{Lease}
use Rattle.store.specs.declared.lease.Lease.TheVariants.{Put, Get}

-- the places of puts and gets under way
abbrev pub Table : Type 0
Table = List (Option Lease)

abbrev pub lease_set : Lease → Set
lease_set (Put s) = s
lease_set (Get s) = s

abbrev pub lease_has : Option Lease → ℕ → Bool
lease_has None b = false
lease_has (Some x) b = has (lease_set x).bits b

abbrev pub is_nothing : Option Lease → Bool
is_nothing o = not (is_some o)

abbrev pub lease : Table → ℕ → Option Lease
lease ls t = slice_index_or ls t None

-- a block that a put or get under way has
abbrev pub in_lease : Table → ℕ → Bool
in_lease ls b = any (λ t. lease_has (lease ls t) b) 16

-- Free is what no file that holds, and no put or get under way, has.
abbrev pub used : Blocks → Table → ℕ → Bool
used f ls b = in_file f b || in_lease ls b

abbrev pub free_count : Blocks → Table → ℕ
free_count f ls = tally (is_free (used f ls)) 2048

-- a place in the table
abbrev pub unused : Table → Option ℕ
unused ls = first (λ t. is_nothing (lease ls t)) 16 0

-- the blocks of a put are in no file that holds and with no other put or get
pub record Alone (f : Blocks) (ls : Table) (t : ℕ) (s : Set) : Type 0 where
  pub files : (b : ℕ) → has s.bits b ≡ true → in_file f b ≡ false
  pub others : (u b : ℕ) → u < 16 → (u ≢ t) → has s.bits b ≡ true → lease_has (lease ls u) b ≡ false

pub record Sound (f : Blocks) (ls : Table) : Type 0 where
  pub places : length ls ≡ 16
  pub alone : (t : ℕ) (s : Set) → t < 16 → lease ls t ≡ Some (Put s) → Alone f ls t s

-- the place that a put of so many blocks gets, and the table with it
abbrev pub put_place : Blocks → Table → ℕ → Option ℕ
put_place f ls many = cond (nat_le many (free_count f ls)) (unused ls) None

abbrev pub put_set : Blocks → Table → ℕ → Set
put_set f ls many = record { bits = lowest (used f ls) many 2048 }

abbrev pub with_lease : Table → Option ℕ → Option Lease → Table
with_lease ls None x = ls
with_lease ls (Some t) x = slice_set ls t x
