-- What sealing and opening promise together. Assumes nothing.
use Rattle.std.specs.Prelude.{◌≡◌, ℕ, ◌^◌, ◌<◌, ◌≤◌, List, length}
use Rattle.seal.specs.Frames.{Whole, Fits, frame, largest, opened}
use Rattle.seal.specs.declared.secret.Secret.{Secret}

pub record Returned (s : Secret) (n : ℕ) (text : List ℕ) : Type 0 where
  pub whole : Whole (frame s n text)
  pub fits : Fits s n (frame s n text)
  pub inside : opened s n (frame s n text) ≡ text

-- Opening what was sealed as the same number of the same way gives the inside back.
abbrev pub OpensSealed : Type 0
OpensSealed = (s : Secret) (n : ℕ) (text : List ℕ) → length text ≤ largest → n < 2 ^ 64 → Returned s n text
