-- The bytes that a ring holds, in its memory. Assumes nothing.
use Rattle.std.specs.Prelude.{ℕ, List, ◌++◌, take, drop}

-- the memory from `head` on, then what lies before it
unfoldable pub turned : ℕ → List ℕ → List ℕ
turned head xs = drop head xs ++ take head xs

abbrev pub held_from : (head len : ℕ) → List ℕ → List ℕ
held_from head len xs = take len (turned head xs)
