-- Numbers as bits of bytes, one bit a number. Assumes nothing.
use Rattle.std.specs.Prelude.{ℕ, ◌/◌, ◌%◌, ◌^◌, Bool, List, ◌==◌, bit_or, slice_index, slice_set}

-- whether a number is there
unfoldable pub has : List ℕ → ℕ → Bool
has s k = slice_index s (k / 8) / 2 ^ (k % 8) % 2 == 1

-- with one more number
unfoldable pub with : List ℕ → ℕ → List ℕ
with s k = slice_set s (k / 8) (bit_or (slice_index s (k / 8)) (2 ^ (k % 8)))
