-- HMAC with SHA-256: RFC 2104, section 2, with blocks of 64 bytes.
use Rattle.std.specs.Prelude.{ℕ, ◌-◌, if◌then◌else◌, List, ◌++◌, map, length, replicate, bit_xor, nat_le}
use Rattle.sha256.specs.Message.{SHA256}

-- a key of at most 64 bytes as it is, a longer one by its digest
unfoldable pub Short : List ℕ → List ℕ
Short key = (if nat_le (length key) 64 then key else SHA256 key)

-- zeros to 64 bytes
unfoldable pub Padded : List ℕ → List ℕ
Padded k = k ++ replicate (64 - length k) 0

abbrev pub Masked : List ℕ → ℕ → List ℕ
Masked b mask = map (λ x. bit_xor x mask) b

-- the key with ipad, 0x36 in each byte, and with opad, 0x5c
unfoldable pub Ipad : List ℕ → List ℕ
Ipad key = Masked (Padded (Short key)) 0x36

unfoldable pub Opad : List ℕ → List ℕ
Opad key = Masked (Padded (Short key)) 0x5c

unfoldable pub HMAC : List ℕ → List ℕ → List ℕ
HMAC key m = SHA256 (Opad key ++ SHA256 (Ipad key ++ m))
