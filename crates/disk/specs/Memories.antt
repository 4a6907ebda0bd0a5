-- Blocks in memory. Assumes nothing.
use Rattle.std.specs.Prelude.{ℕ, true, false, cond, List, replicate, vec_items, vec_len, nat_lt, slice_index_or}
use Rattle.std.specs.Vec.{with_item}
use Rattle.disk.specs.Disks.{Meaning}
use Rattle.disk.specs.declared.memory.Memory.{Memory}

-- zeros past the end
abbrev pub memory_block : Memory → ℕ → List ℕ
memory_block d b = slice_index_or (vec_items d.blocks) b (replicate 512 0)

-- a write past the end is a crash
unfoldable pub memory_wrote : Memory → ℕ → List ℕ → Memory
memory_wrote d b x =
    cond d.up (cond (nat_lt b (vec_len d.blocks)) (record { blocks = with_item d.blocks b x; up = true }) (record { blocks = d.blocks; up = false })) d

-- memory as a disk
abbrev pub memory : Meaning Memory
memory = record { block = memory_block; up = λ d. d.up; wrote = memory_wrote }
