-- A sealed message as bytes: length, encrypted inside, tag. Assumes nothing.
use Rattle.std.specs.Prelude.{◌≡◌, ℕ, ◌+◌, ◌-◌, ◌*◌, ◌/◌, ◌%◌, ◌^◌, ◌<◌, ◌≤◌, List, [], ◌∷◌, ◌++◌, length, take, drop, slice_index}
use Rattle.chacha20.specs.Cipher.{ChaCha20}
use Rattle.hmac.specs.Hmac.{HMAC}
use Rattle.sha256.specs.Message.{Bytes64}
use Rattle.seal.specs.declared.secret.Direction.{Direction}
use Rattle.seal.specs.declared.secret.Direction.TheVariants.{There, Back}
use Rattle.seal.specs.declared.secret.Secret.{Secret}

-- the byte before both nonces where a way's key is made, and where a tag is
abbrev pub key_mark : Direction → ℕ
key_mark There = 1
key_mark Back = 2

abbrev pub tag_mark : Direction → ℕ
tag_mark There = 3
tag_mark Back = 4

-- the key of a way
unfoldable pub way_key : Secret → List ℕ
way_key s = HMAC s.key (key_mark s.direction ∷ (s.client ++ s.server))

abbrev pub bytes16 : ℕ → List ℕ
bytes16 n = (n / 256 % 256) ∷ (n % 256) ∷ []

-- the message number n encrypted, which is decrypted too
unfoldable pub turned : Secret → ℕ → List ℕ → List ℕ
turned s n text = ChaCha20 (way_key s) 0 (0 ∷ 0 ∷ 0 ∷ 0 ∷ Bytes64 n) text

-- the tag of the length and encrypted inside of the message number n
abbrev pub tag_text : Secret → ℕ → List ℕ → List ℕ
tag_text s n body = (tag_mark s.direction ∷ (s.client ++ s.server)) ++ (Bytes64 n ++ body)

unfoldable pub tag : Secret → ℕ → List ℕ → List ℕ
tag s n body = take 16 (HMAC s.key (tag_text s n body))

abbrev pub body : Secret → ℕ → List ℕ → List ℕ
body s n text = bytes16 (length text) ++ turned s n text

-- the message number n as it goes over the connection
abbrev pub frame : Secret → ℕ → List ℕ → List ℕ
frame s n text = body s n text ++ tag s n (body s n text)

-- the greatest inside: with length and tag a message has at most 1,100 bytes
abbrev pub largest : ℕ
largest = 1082

-- how long a message says that its inside is
abbrev pub size_at : List ℕ → ℕ
size_at f = slice_index f 0 * 256 + slice_index f 1

-- a whole message, by its length alone
pub record Whole (f : List ℕ) : Type 0 where
  pub size : length f ≡ size_at f + 18
  pub bound : size_at f ≤ largest

-- its parts
abbrev pub body_of : List ℕ → List ℕ
body_of f = take (length f - 16) f

abbrev pub tag_of : List ℕ → List ℕ
tag_of f = drop (length f - 16) f

abbrev pub text_of : List ℕ → List ℕ
text_of f = take (length f - 18) (drop 2 f)

-- it fits as the message number n of a way: that number can be, and the tag is right
abbrev pub Fits : Secret → ℕ → List ℕ → Type 0
Fits s n f = (n < 2 ^ 64) × (tag_of f ≡ tag s n (body_of f))

abbrev pub opened : Secret → ℕ → List ℕ → List ℕ
opened s n f = turned s n (text_of f)
