-- A message, its padding and its digest: RFC 6234, sections 4.1 and 6.
use Rattle.std.specs.Prelude.{◌≡◌, ℕ, zero, suc, ◌+◌, ◌-◌, ◌*◌, ◌/◌, ◌%◌, ◌<◌, ◌≤◌, List, [], ◌∷◌, ◌++◌, length, take, drop, replicate, slice_index}
use Rattle.sha256.specs.Rounds.{Compress}
use Rattle.sha256.specs.declared.rounds.State.{State}

-- four bytes as a word, and a word as four bytes, the high byte first
abbrev pub Be32 : List ℕ → ℕ → ℕ
Be32 b i = slice_index b i * 16777216 + slice_index b (i + 1) * 65536 + slice_index b (i + 2) * 256 + slice_index b (i + 3)

abbrev pub Bytes32 : ℕ → List ℕ
Bytes32 x = (x / 16777216 % 256) ∷ (x / 65536 % 256) ∷ (x / 256 % 256) ∷ (x % 256) ∷ []

-- the 16 words of a block of 64 bytes
unfoldable pub Words : List ℕ → List ℕ
Words b =
    Be32 b 0 ∷ Be32 b 4 ∷ Be32 b 8 ∷ Be32 b 12 ∷ Be32 b 16 ∷ Be32 b 20 ∷ Be32 b 24 ∷ Be32 b 28 ∷ Be32 b 32
    ∷ Be32 b 36 ∷ Be32 b 40 ∷ Be32 b 44 ∷ Be32 b 48 ∷ Be32 b 52 ∷ Be32 b 56 ∷ Be32 b 60 ∷ []

-- the hash value s after the first n blocks of p
unfoldable pub After : State → List ℕ → ℕ → State
After s p zero = s
After s p (suc n) = Compress (After s p n) (Words (take 64 (drop (64 * n) p)))

-- the hash value as bytes
unfoldable pub Output : State → List ℕ
Output s =
    Bytes32 s.a ++ (Bytes32 s.b ++ (Bytes32 s.c ++ (Bytes32 s.d ++ (Bytes32 s.e ++ (Bytes32 s.f
    ++ (Bytes32 s.g ++ Bytes32 s.h))))))

-- the first hash value
abbrev pub Start : State
Start =
    record {
      a = 0x6a09_e667;
      b = 0xbb67_ae85;
      c = 0x3c6e_f372;
      d = 0xa54f_f53a;
      e = 0x510e_527f;
      f = 0x9b05_688c;
      g = 0x1f83_d9ab;
      h = 0x5be0_cd19;
    }

-- a number as eight bytes, the high byte first
abbrev pub Bytes64 : ℕ → List ℕ
Bytes64 n =
    (n / 72057594037927936 % 256) ∷ (n / 281474976710656 % 256) ∷ (n / 1099511627776 % 256) ∷ (n / 4294967296 % 256)
    ∷ (n / 16777216 % 256)
    ∷ (n / 65536 % 256)
    ∷ (n / 256 % 256)
    ∷ (n % 256)
    ∷ []

-- what is put behind a message of n bytes: a bit 1, zeros to 8 bytes before the end of a block, and the length in bits
unfoldable pub Padding : ℕ → List ℕ
Padding n = 128 ∷ (replicate ((119 - n % 64) % 64) 0 ++ Bytes64 (8 * n))

-- the digest of a message
unfoldable pub SHA256 : List ℕ → List ℕ
SHA256 m = Output (After Start (m ++ Padding (length m)) (length (m ++ Padding (length m)) / 64))

-- the padding ends with a block, and no shorter one would: it has 9 bytes at least, and fewer than 9 + 64
abbrev pub PaddingFills : Type 0
PaddingFills = (n : ℕ) → ((n + length (Padding n)) % 64 ≡ 0) × (9 ≤ length (Padding n)) × (length (Padding n) < 73)
