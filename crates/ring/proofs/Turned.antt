-- Lists that are turned: their length, and what stands where.
use Rattle.std.proofs.Common.{◌≡◌, ℕ, ◌≤◌, List, length, arith}
use Rattle.std.proofs.lemmas.List.{length-append, length-take-le, length-take, length-drop}
use Rattle.ring.specs.Held.{turned, held_from}

pub length-turned : (h : ℕ) (xs : List ℕ) → length (turned h xs) ≡ length xs
unfolding turned
length-turned h xs = simp (length-append, length-take, length-drop) (omega arith)

pub length-held_from : (h l : ℕ) (xs : List ℕ) → l ≤ length xs → length (held_from h l xs) ≡ l
length-held_from h l xs a = length-take-le l (turned h xs) (simp length-turned a)
