-- What is promised of a stream, whatever bytes come. Assumes nothing.
use Rattle.std.specs.Prelude.{◌≡◌, ℕ, ◌+◌, ◌^◌, ◌<◌, ◌≤◌, Bool, true, ◌⊎◌, List, [], ◌∷◌, ◌++◌, map, length, take, Some, None, ◌≢◌}
use Rattle.hmac.specs.Hmac.{HMAC}
use Rattle.model.specs.Messages.{ToClient, ToServer}
use Rattle.wire.specs.Inside.{GoodToClient, GoodToServer, known_to_client, known_to_server, to_client_by, to_client_bytes, to_server_by, to_server_bytes}
use Rattle.wire.specs.declared.fault.Fault.TheVariants.{Tag}
use Rattle.seal.specs.declared.secret.Secret.{Secret}
use Rattle.seal.specs.Frames.{Fits, Whole, frame, largest}
use Rattle.stream.specs.Streams.{feed, got, start}
use Rattle.stream.specs.Readers.{Short}

-- messages as they are sealed, the first as number n
unfoldable pub sealed_from : Secret → ℕ → List (List ℕ) → List ℕ
sealed_from s n [] = []
sealed_from s n (x ∷ xs) = frame s n x ++ sealed_from s (n + 1) xs

-- insides that are messages
unfoldable pub Messages : (List ℕ → Bool) → List (List ℕ) → Type 0
Messages known [] = Unit {0}
Messages known (x ∷ xs) = (known x ≡ true) × (length x ≤ largest) × Messages known xs

-- a whole message at hand in the bytes that came, which fits as a number of this way, and which the other side, that sent these insides, did not make as this number
pub record Forged (s : Secret) (sent : List (List ℕ)) (bytes : List ℕ) : Type 0 where
  pub number : ℕ
  pub before : List ℕ
  pub message : List ℕ
  pub behind : List ℕ
  pub at : bytes ≡ before ++ (message ++ behind)
  pub whole : Whole message
  pub fits : Fits s number message
  pub unmade : (first : List (List ℕ)) (x : List ℕ) (later : List (List ℕ)) → sent ≡ first ++ x ∷ later → length first ≡ number → message ≢ frame s number x

abbrev pub Prefix : List (List ℕ) → List (List ℕ) → Type 0
Prefix xs ys = (rest : List (List ℕ)) × (xs ++ rest ≡ ys)

-- For any bytes: what is taken is a prefix of what was sent, in order and each once; or a forged message is at hand.
abbrev pub Genuine : Type 0
Genuine = (s : Secret) (known : List ℕ → Bool) (sent : List (List ℕ)) (bytes : List ℕ) → Prefix (feed s known start bytes).taken sent ⊎ Forged s sent bytes

-- Without damage all that came whole is taken, and of the rest, which makes no message whole, every byte is held.
abbrev pub Undamaged : Type 0
Undamaged =
    (s : Secret) (known : List ℕ → Bool) (sent : List (List ℕ)) (part : List ℕ) → Messages known sent → length sent ≤ 2 ^ 64 → Short part →
    feed s known start (sealed_from s 0 sent ++ part) ≡ got (length sent) part sent None

-- A part of a sealed message, cut before its end, makes no message whole.
abbrev pub CutIsShort : Type 0
CutIsShort = (s : Secret) (n : ℕ) (x part rest : List ℕ) → length x ≤ largest → part ++ rest ≡ frame s n x → 0 < length rest → Short part

-- A whole message that is not the next one as it was sealed (moved, repeated, behind one that was left out, turned round or of another connection) is the fault of a wrong tag; or it is forged.
abbrev pub Misplaced : Type 0
Misplaced =
    (s : Secret) (known : List ℕ → Bool) (first later : List (List ℕ)) (f : List ℕ) → Messages known first → length first ≤ 2 ^ 64 → Whole f →
    ((x : List ℕ) (rest : List (List ℕ)) → later ≡ x ∷ rest → f ≢ frame s (length first) x) →
    (feed s known start (sealed_from s 0 first ++ f) ≡ got (length first) [] first (Some Tag)) ⊎ Forged s (first ++ later) (sealed_from s 0 first ++ f)

-- Two texts that differ, with one tag under a key.
pub record Collision (key : List ℕ) : Type 0 where
  pub one : List ℕ
  pub other : List ℕ
  pub differ : one ≡ other → ⊥
  pub tags : take 16 (HMAC key one) ≡ take 16 (HMAC key other)

-- the same direction, nonces and number
pub record SamePlace (s v : Secret) (n k : ℕ) : Type 0 where
  pub direction : s.direction ≡ v.direction
  pub client : s.client ≡ v.client
  pub server : s.server ≡ v.server
  pub number : n ≡ k

-- nonces of 32 bytes, and a number of 64 bits
pub record Place (s : Secret) (n : ℕ) : Type 0 where
  pub client : length s.client ≡ 32
  pub server : length s.server ≡ 32
  pub number : n < 2 ^ 64

-- A message sealed under the same key as another number, for the other direction or in another connection, put in the place of the next one, is the fault of a wrong tag; or it is forged; or two texts with one tag are at hand.
abbrev pub Moved : Type 0
Moved =
    (s v : Secret) (known : List ℕ → Bool) (first later : List (List ℕ)) (k : ℕ) (y : List ℕ) → Messages known first → Place s (length first) → Place v k → length y ≤ largest → s.key ≡ v.key →
    (SamePlace s v (length first) k → ⊥) →
    (feed s known start (sealed_from s 0 first ++ frame v k y) ≡ got (length first) [] first (Some Tag)) ⊎ (Forged s (first ++ later) (sealed_from s 0 first ++ frame v k y) ⊎ Collision s.key)

-- The same of messages: what is taken stands for a prefix of what was sent.
unfoldable pub EachGood : {A : Type 0} → (A → Type 0) → List A → Type 0
EachGood good [] = Unit {0}
EachGood good (m ∷ ms) = good m × EachGood good ms

abbrev pub GenuineToServer : Type 0
GenuineToServer =
    (s : Secret) (sent : List ToServer) (bytes : List ℕ) → EachGood GoodToServer sent →
    ((rest : List ToServer) × (map to_server_by (feed s known_to_server start bytes).taken ++ rest ≡ sent)) ⊎ Forged s (map to_server_bytes sent) bytes

abbrev pub GenuineToClient : Type 0
GenuineToClient =
    (s : Secret) (sent : List ToClient) (bytes : List ℕ) → EachGood GoodToClient sent →
    ((rest : List ToClient) × (map to_client_by (feed s known_to_client start bytes).taken ++ rest ≡ sent)) ⊎ Forged s (map to_client_bytes sent) bytes
