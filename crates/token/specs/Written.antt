-- How bytes are written.
use Rattle.std.specs.Prelude.{ℕ, ◌+◌, ◌-◌, ◌/◌, ◌%◌, cond, ◌&&◌, ◌||◌, List, [], ◌∷◌, ◌++◌, ◌==◌, nat_le, nat_lt}
use Rattle.std.specs.List.{flat_map}

abbrev pub hex_digit : ℕ → ℕ
hex_digit n = cond (nat_lt n 10) (48 + n) (97 + (n - 10))

-- a byte between quotes: itself where it can be, else \", \\ or \xNN
abbrev pub escape_of : ℕ → List ℕ
escape_of b = cond (b == 34 || b == 92) (92 ∷ b ∷ []) (cond (nat_le 32 b && nat_le b 126) (b ∷ []) (92 ∷ 120 ∷ hex_digit (b / 16) ∷ hex_digit (b % 16) ∷ []))

abbrev pub escapes_of : List ℕ → List ℕ
escapes_of bs = flat_map escape_of bs

abbrev pub quoted_of : List ℕ → List ℕ
quoted_of bs = 34 ∷ (escapes_of bs ++ 34 ∷ [])

-- words with a space between each two
abbrev pub spaced_of : List (List ℕ) → List ℕ
spaced_of ws = flat_map (λ w. 32 ∷ w) ws

abbrev pub unwords_of : List (List ℕ) → List ℕ
unwords_of [] = []
unwords_of (w ∷ ws) = w ++ spaced_of ws
