-- Lists of things that have a number: find one, change one, count some. Assumes nothing.
use Rattle.std.specs.Prelude.{ℕ, ◌+◌, ◌<◌, Bool, true, false, cond, ◌&&◌, List, [], ◌∷◌, Some, None, Option, ◌==◌, nat_lt}

module _ {X : Type 0} (key : X → ℕ) where
  -- the first with that number
  unfoldable pub find : ℕ → List X → Option X
  find t [] = None
  find t (x ∷ xs) = cond (key x == t) (Some x) (find t xs)

  -- whatever has that number, changed
  unfoldable pub change : ℕ → (X → X) → List X → List X
  change t f [] = []
  change t f (x ∷ xs) = cond (key x == t) (f x) x ∷ change t f xs

  unfoldable pub numbers : List X → List ℕ
  numbers [] = []
  numbers (x ∷ xs) = key x ∷ numbers xs

-- how many pass a test
unfoldable pub count : {X : Type 0} → (X → Bool) → List X → ℕ
count p [] = 0
count p (x ∷ xs) = cond (p x) 1 0 + count p xs

-- whether all pass a test
unfoldable pub every : {X : Type 0} → (X → Bool) → List X → Bool
every p [] = true
every p (x ∷ xs) = p x && every p xs

-- whether a number is in a list
unfoldable pub is_in : ℕ → List ℕ → Bool
is_in n [] = false
is_in n (x ∷ xs) = cond (x == n) true (is_in n xs)

-- whether a number is larger than all in a list
unfoldable pub above : ℕ → List ℕ → Bool
above n [] = true
above n (x ∷ xs) = nat_lt x n && above n xs

-- one after another, each larger than all before it
unfoldable pub Rising : List ℕ → Type 0
Rising [] = Unit {0}
Rising (x ∷ []) = Unit {0}
Rising (x ∷ (y ∷ ys)) = (x < y) × Rising (y ∷ ys)

-- for each member its own list, one after another
unfoldable pub gather : {X M : Type 0} → (X → List M) → List X → List M
gather f [] = []
gather f (x ∷ xs) = mathlib.Core.List.◌++◌ (f x) (gather f xs)

-- each member changed
unfoldable pub each : {X : Type 0} → (X → X) → List X → List X
each f [] = []
each f (x ∷ xs) = f x ∷ each f xs
