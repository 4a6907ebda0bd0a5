-- What accounts grant in one connection. Assumes nothing.
use Rattle.std.specs.Prelude.{Bool, List, ℕ}

-- accepts: whether a user is accepted by a proof: it is right, and the account is open; may: whether a user may run a command
pub record Grants : Type 0 where
  pub accepts : (user : ℕ) → (proof : List ℕ) → Bool
  pub may : (user command : ℕ) → Bool
