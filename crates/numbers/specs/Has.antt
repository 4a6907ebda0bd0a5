-- Which numbers are in a set of bits. Assumes nothing.
use Rattle.std.specs.Prelude.{ℕ, Bool, vec_items}
use Rattle.bits.specs.Bits as bits
use Rattle.numbers.specs.declared.Numbers.{Numbers}

unfoldable pub has : Numbers → ℕ → Bool
has x n = bits.has (vec_items x.bytes) n
