-- Encryption, which is decryption too: RFC 8439, section 2.4.
use Rattle.std.specs.Prelude.{◌≡◌, ℕ, ◌+◌, ◌/◌, ◌%◌, ◌<◌, List, map, length, bit_xor, slice_index}
use Rattle.std.specs.List.{range_with_len}
use Rattle.chacha20.specs.Block.{Block}

-- the byte i of the key stream, whose blocks have the counters counter, counter + 1, and so on
unfoldable pub Stream : List ℕ → ℕ → List ℕ → ℕ → ℕ
Stream key counter nonce i = slice_index (Block key (counter + i / 64) nonce) (i % 64)

-- each byte of a text with that of the key stream
unfoldable pub ChaCha20 : List ℕ → ℕ → List ℕ → List ℕ → List ℕ
ChaCha20 key counter nonce text =
    map (λ i. bit_xor (slice_index text i) (Stream key counter nonce i)) (range_with_len 0 (length text))

-- how many blocks of the key stream a text of n bytes takes
abbrev pub Blocks : ℕ → ℕ
Blocks n = (n + 63) / 64

-- u is t with its bytes xored with s 0, s 1, and so on
pub record Xored (t : List ℕ) (s : ℕ → ℕ) (u : List ℕ) : Type 0 where
  pub size : length u ≡ length t
  pub byte : (k : ℕ) → k < length t → slice_index u k ≡ bit_xor (slice_index t k) (s k)

-- decryption is encryption again
abbrev pub Undoes : Type 0
Undoes = (key : List ℕ) (counter : ℕ) (nonce text : List ℕ)
    → ChaCha20 key counter nonce (ChaCha20 key counter nonce text) ≡ text
