-- The bytes that a word stands for.
use Rattle.std.specs.Prelude.{ℕ, zero, suc, ◌*◌, cond, List, [], ◌∷◌, ◌++◌, length, Some, None, Option, ◌==◌, nat_le}
use Rattle.token.specs.declared.quote.Quote.TheVariants.{Body}
use Rattle.token.specs.Number.{number_of}
use Rattle.token.specs.Quotes.{unquote_of}
use Rattle.token.specs.Words.{cut_at}

-- what stands behind an opening quote
abbrev pub opened_of : List ℕ → Option (List ℕ)
opened_of [] = None
opened_of (b ∷ bs) = cond (b == 34) (Some bs) None

unfoldable pub times_of : ℕ → List ℕ → List ℕ
times_of zero bs = []
times_of (suc n) bs = times_of n bs ++ bs

-- at most 65,536 bytes in all
abbrev pub repeat_of : ℕ → Option (List ℕ) → Option (List ℕ)
repeat_of n None = None
repeat_of n (Some bs) = cond (nat_le (length bs * n) 65536) (Some (times_of n bs)) None

abbrev pub many_of : Option ℕ → Option (List ℕ) → Option (List ℕ)
many_of None text = None
many_of (Some n) None = None
many_of (Some n) (Some text) = repeat_of n (unquote_of Body text)

abbrev pub counted_of : Option (List ℕ × List ℕ) → Option (List ℕ)
counted_of None = None
counted_of (Some p) = many_of (number_of 1 65535 p.0) (opened_of p.1)

abbrev pub either_of : Option (List ℕ) → List ℕ → Option (List ℕ)
either_of (Some text) w = repeat_of 1 (unquote_of Body text)
either_of None w = counted_of (cut_at 42 w)

-- "text", or a number, * and "text"
unfoldable pub bytes_of : List ℕ → Option (List ℕ)
bytes_of w = either_of (opened_of w) w
