-- What a ring's fields hold: how much, and once bytes came or went.
use Rattle.std.proofs.Common.{◌≡◌, ℕ, ◌≤◌, List, length, sym, ◌∙◌, ap}
use Rattle.ring.specs.Held.{held_from}
use Rattle.ring.proofs.Turned.{length-held_from}

-- seen as the list of its bytes, a ring has as many as its fields say
pub count-held : (h l : ℕ) (memory seen : List ℕ) → held_from h l memory ≡ seen → l ≤ length memory → length seen ≡ l
count-held h l memory seen v a = ap length (sym v) ∙ length-held_from h l memory a
