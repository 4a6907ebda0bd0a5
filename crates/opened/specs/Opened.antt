-- Which file each name has, from the blocks of a disk alone: two slots a name, 128 record blocks, then 2,048 data blocks. Assumes nothing.
use Rattle.std.specs.Prelude.{◌≡◌, ℕ, zero, suc, ◌+◌, ◌*◌, Bool, true, false, cond, not, ◌||◌, List, [], ◌++◌, take, is_some, Some, None, Option, nat_lt}
use Rattle.std.specs.Option.{option_map}
use Rattle.model.specs.Files.{same}
use Rattle.blocks.specs.Sets.{has, first}
use Rattle.record.specs.Names.{name_of}
use Rattle.record.specs.Records.{decode}
use Rattle.record.specs.declared.record.Record.{Record}
use Rattle.disk.specs.Disks.{Blocks}
use Rattle.opened.specs.declared.Target.{Target}

-- Of two slots the one with the higher count holds, the first among equals.
abbrev pub holding : Option Record → Option Record → Option Record
holding None b = b
holding (Some x) None = Some x
holding (Some x) (Some y) = cond (nat_lt x.count y.count) (Some y) (Some x)

abbrev pub first_holds : Option Record → Option Record → Bool
first_holds None b = false
first_holds (Some x) None = true
first_holds (Some x) (Some y) = not (nat_lt x.count y.count)

-- the record that holds in the i-th pair of slots
unfoldable pub held : Blocks → ℕ → Option Record
held f i = holding (decode (f (2 * i))) (decode (f (2 * i + 1)))

-- the block of the slot of that pair that does not hold
unfoldable pub other_slot : Blocks → ℕ → ℕ
other_slot f i = 2 * i + cond (first_holds (decode (f (2 * i))) (decode (f (2 * i + 1)))) 1 0

abbrev pub is_of : List ℕ → Option Record → Bool
is_of n None = false
is_of n (Some r) = same (name_of r.name) n

abbrev pub is_vacant : Option Record → Bool
is_vacant o = not (is_some o)

abbrev pub count_in : Option Record → ℕ
count_in None = 0
count_in (Some r) = r.count

abbrev pub has_in : Option Record → ℕ → Bool
has_in None b = false
has_in (Some r) b = has r.blocks.bits b

-- the pair whose record has that name; a pair with none
abbrev pub place : Blocks → List ℕ → Option ℕ
place f n = first (λ i. is_of n (held f i)) 64 0

abbrev pub vacant : Blocks → Option ℕ
vacant f = first (λ i. is_vacant (held f i)) 64 0

abbrev pub or_else : Option ℕ → Option ℕ → Option ℕ
or_else None b = b
or_else (Some a) b = Some a

-- where a put of that name goes: the slot that does not hold, and the count that holds
abbrev pub target_at : Blocks → ℕ → Target
target_at f i = record { slot = other_slot f i; count = count_in (held f i) }

abbrev pub target : Blocks → List ℕ → Option Target
target f n = option_map (target_at f) (or_else (place f n) (vacant f))

-- whether one below n passes a test
unfoldable pub any : (ℕ → Bool) → ℕ → Bool
any p zero = false
any p (suc n) = any p n || p n

-- the block is in a file that holds
abbrev pub in_file : Blocks → ℕ → Bool
in_file f b = any (λ i. has_in (held f i) b) 64

-- the bytes in the blocks of a set that are below k, in rising order
unfoldable pub joined : Blocks → List ℕ → ℕ → List ℕ
joined f s zero = []
joined f s (suc k) = joined f s k ++ cond (has s k) (f (128 + k)) []

abbrev pub content : Blocks → Record → List ℕ
content f r = take r.size (joined f r.blocks.bits 2048)

abbrev pub held_at : Blocks → Option ℕ → Option Record
held_at f None = None
held_at f (Some i) = held f i

-- the record of a name, and the file that it has
abbrev pub record_of : Blocks → List ℕ → Option Record
record_of f n = held_at f (place f n)

unfoldable pub opened : Blocks → List ℕ → Option (List ℕ)
opened f n = option_map (content f) (record_of f n)

-- every name has the file that it had
abbrev pub Same : Blocks → Blocks → Type 0
Same f g = (n : List ℕ) → opened g n ≡ opened f n

-- one name has a new file, whole, and every other the one that it had
pub record Changed (f : Blocks) (n v : List ℕ) (g : Blocks) : Type 0 where
  pub new : opened g n ≡ Some v
  pub others : (m : List ℕ) → same m n ≡ false → opened g m ≡ opened f m
