-- What a hash under way stands for, and what its calls do.
use Rattle.std.specs.Prelude.{◌≡◌, ℕ, ◌+◌, ◌*◌, ◌/◌, ◌%◌, ◌^◌, ◌<◌, ◌≤◌, List, ◌++◌, length, take, drop, Result, MatchResult}
use Rattle.sha256.specs.Message.{After, Start}
use Rattle.sha256.specs.declared.stream.Sha256.{Sha256}
use Rattle.sha256.specs.declared.stream.Error.{Error}

-- s has taken in the message m, and nothing else
pub record Holds (s : Sha256) (m : List ℕ) : Type 0 where
  pub state : s.state ≡ After Start m (length m / 64)
  pub held : take (length m % 64) s.buffer ≡ drop (64 * (length m / 64)) m
  pub total : s.total ≡ length m
  pub bound : length m < 2 ^ 61

-- one more part: it is taken in whole, or refused since the message would have 2^61 bytes or more, and nothing changes
pub record Updated (s : Sha256) (part : List ℕ) (r : Result (Unit {0}) Error) (t : Sha256) : Type 0 where
  pub cases : MatchResult r (λ _. (m : List ℕ) → Holds s m → Holds t (m ++ part)) (λ _. t ≡ s)
  pub refused : (m : List ℕ) → Holds s m
      → MatchResult r (λ _. length m + length part < 2 ^ 61) (λ _. 2 ^ 61 ≤ length m + length part)
