-- The quarter round: RFC 8439, section 2.1.
use Rattle.std.specs.Prelude.{ℕ, ◌+◌, ◌-◌, ◌*◌, ◌/◌, ◌%◌, ◌^◌, bit_or, bit_xor}

infixl 6 ◌⊞◌
-- addition modulo 2^32
abbrev pub ◌⊞◌ : ℕ → ℕ → ℕ
x ⊞ y = (x + y) % 2 ^ 32

-- rotation to the left by n bits
abbrev pub ROTL : ℕ → ℕ → ℕ
ROTL n x = bit_or ((x * 2 ^ n) % 2 ^ 32) (x / 2 ^ (32 - n))

-- a += b; d ^= a; d <<<= 16; c += d; b ^= c; b <<<= 12; a += b; d ^= a; d <<<= 8; c += d; b ^= c; b <<<= 7
unfoldable pub Quarter : ℕ → ℕ → ℕ → ℕ → ℕ × ℕ × ℕ × ℕ
Quarter a b c d =
    let a1 : ℕ = a ⊞ b in
    let d1 : ℕ = ROTL 16 (bit_xor d a1) in
    let c1 : ℕ = c ⊞ d1 in
    let b1 : ℕ = ROTL 12 (bit_xor b c1) in
    let a2 : ℕ = a1 ⊞ b1 in
    let d2 : ℕ = ROTL 8 (bit_xor d1 a2) in
    let c2 : ℕ = c1 ⊞ d2 in
    let b2 : ℕ = ROTL 7 (bit_xor b1 c2) in (a2, b2, c2, d2)
