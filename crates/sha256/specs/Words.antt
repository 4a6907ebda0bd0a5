-- Functions on 32-bit words: RFC 6234, sections 3 and 5.1.
use Rattle.std.specs.Prelude.{ℕ, ◌+◌, ◌-◌, ◌*◌, ◌/◌, ◌%◌, ◌^◌, bit_and, bit_or, bit_xor}

infixl 6 ◌⊞◌
-- addition modulo 2^32
abbrev pub ◌⊞◌ : ℕ → ℕ → ℕ
x ⊞ y = (x + y) % 2 ^ 32

abbrev pub SHR : ℕ → ℕ → ℕ
SHR n x = x / 2 ^ n

abbrev pub ROTR : ℕ → ℕ → ℕ
ROTR n x = bit_or (x / 2 ^ n) ((x * 2 ^ (32 - n)) % 2 ^ 32)

abbrev pub NOT : ℕ → ℕ
NOT x = 2 ^ 32 - 1 - x

abbrev pub CH : ℕ → ℕ → ℕ → ℕ
CH x y z = bit_xor (bit_and x y) (bit_and (NOT x) z)

abbrev pub MAJ : ℕ → ℕ → ℕ → ℕ
MAJ x y z = bit_xor (bit_xor (bit_and x y) (bit_and x z)) (bit_and y z)

abbrev pub BSIG0 : ℕ → ℕ
BSIG0 x = bit_xor (bit_xor (ROTR 2 x) (ROTR 13 x)) (ROTR 22 x)

abbrev pub BSIG1 : ℕ → ℕ
BSIG1 x = bit_xor (bit_xor (ROTR 6 x) (ROTR 11 x)) (ROTR 25 x)

abbrev pub SSIG0 : ℕ → ℕ
SSIG0 x = bit_xor (bit_xor (ROTR 7 x) (ROTR 18 x)) (SHR 3 x)

abbrev pub SSIG1 : ℕ → ℕ
SSIG1 x = bit_xor (bit_xor (ROTR 17 x) (ROTR 19 x)) (SHR 10 x)
