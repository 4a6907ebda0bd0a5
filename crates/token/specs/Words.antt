-- How a text is cut into lines and a line into words.
use Rattle.std.specs.Prelude.{ℕ, Bool, false, cond, ◌||◌, List, [], ◌∷◌, ◌++◌, map, Some, None, vec_items, Option, Vec, ◌==◌}
use Rattle.std.specs.Borrow.{Bor}
use Rattle.std.specs.Option.{option_map}
use Rattle.std.specs.declared.alloc.Global.{Global}
use Rattle.token.specs.declared.mode.Mode.{Mode}
use Rattle.token.specs.declared.mode.Mode.TheVariants.{Plain, Quoted, Escaped}

-- lent slices, by what they hold
abbrev pub pair_now : Bor (List ℕ) × Bor (List ℕ) → List ℕ × List ℕ
pair_now p = (p.0.now, p.1.now)

abbrev pub nows : List (Bor (List ℕ)) → List (List ℕ)
nows ws = map (λ w. w.now) ws

abbrev pub listed : Vec (Bor (List ℕ)) Global → List (List ℕ)
listed v = nows (vec_items v)

abbrev pub after : List ℕ → List ℕ × List ℕ → List ℕ × List ℕ
after w p = (w ++ p.0, p.1)

-- what stands before and after the first mark
unfoldable pub cut_at : ℕ → List ℕ → Option (List ℕ × List ℕ)
cut_at mark [] = None
cut_at mark (b ∷ bs) = cond (b == mark) (Some ([], bs)) (option_map (after (b ∷ [])) (cut_at mark bs))

-- a space or # ends a word, but between quotes
abbrev pub ends_word : Mode → ℕ → Bool
ends_word Plain b = b == 32 || b == 35
ends_word Quoted b = false
ends_word Escaped b = false

abbrev pub after_byte : Mode → ℕ → Mode
after_byte Plain b = cond (b == 34) Quoted Plain
after_byte Quoted b = cond (b == 34) Plain (cond (b == 92) Escaped Quoted)
after_byte Escaped b = Quoted

-- a word that has begun
abbrev pub begun : List ℕ → List (List ℕ)
begun [] = []
begun (b ∷ bs) = (b ∷ bs) ∷ []

abbrev pub closed : Mode → List (List ℕ) → Option (List (List ℕ))
closed Plain ws = Some ws
closed Quoted ws = None
closed Escaped ws = None

-- the words of a line of which w has been read since the last word: none where a quote stays open
unfoldable pub words_of : Mode → List ℕ → List ℕ → Option (List (List ℕ))
words_of m w [] = closed m (begun w)
words_of m w (b ∷ bs) =
    cond (ends_word m b)
    (cond (b == 35) (Some (begun w)) (option_map (λ ws. begun w ++ ws) (words_of Plain [] bs)))
    (words_of (after_byte m b) (w ++ b ∷ []) bs)
