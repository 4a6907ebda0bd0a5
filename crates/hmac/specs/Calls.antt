-- What a prepared key and a tag under way stand for, and what their calls do.
use Rattle.std.specs.Prelude.{◌≡◌, ℕ, ◌+◌, ◌^◌, ◌<◌, ◌≤◌, ◌⊎◌, List, [], ◌++◌, length, Result, MatchResult}
use Rattle.sha256.specs.Stream.{Holds}
use Rattle.sha256.specs.declared.stream.Error.{Error}
use Rattle.hmac.specs.Hmac.{HMAC, Ipad, Opad}
use Rattle.hmac.specs.declared.Key.{Key}
use Rattle.hmac.specs.declared.Mac.{Mac}

-- s has taken in the message m under key, and nothing else
pub record Takes (s : Mac) (key m : List ℕ) : Type 0 where
  pub inner : Holds s.inner (Ipad key ++ m)
  pub outer : Holds s.outer (Opad key)

-- k is prepared from the bytes of key
abbrev pub Prepared : Key → List ℕ → Type 0
Prepared k key = Takes k.begun key []

-- one more part: it is taken in whole, or refused since the message would have 2^61 - 64 bytes or more, and nothing changes
pub record Updated (s : Mac) (part : List ℕ) (r : Result (Unit {0}) Error) (t : Mac) : Type 0 where
  pub cases : MatchResult r (λ _. (key m : List ℕ) → Takes s key m → Takes t key (m ++ part)) (λ _. t ≡ s)
  pub refused : (key m : List ℕ) → Takes s key m
      → MatchResult r (λ _. 64 + (length m + length part) < 2 ^ 61) (λ _. 2 ^ 61 ≤ 64 + (length m + length part))

-- the tag of a message, or its refusal since it has 2^61 - 64 bytes or more
abbrev pub Tags : Result (List ℕ) Error → List ℕ → List ℕ → Type 0
Tags r key m =
    MatchResult r (λ t. (64 + length m < 2 ^ 61) × (t ≡ HMAC key m)) (λ _. 2 ^ 61 ≤ 64 + length m)

-- the tag of a message, or its refusal since the key has 2^61 bytes or more, or the message 2^61 - 64 or more
abbrev pub Whole : Result (List ℕ) Error → List ℕ → List ℕ → Type 0
Whole r key m =
    MatchResult r (λ t. (length key < 2 ^ 61) × (64 + length m < 2 ^ 61) × (t ≡ HMAC key m))
    (λ _. (2 ^ 61 ≤ length key) ⊎ (2 ^ 61 ≤ 64 + length m))
