-- What a script says: its commands, or the number of its first bad line.
use Rattle.std.specs.Prelude.{ℕ, ◌+◌, List, [], ◌∷◌, Some, None, Ok, Err, Option, Result, ◌==◌}
use Rattle.std.specs.List.{slice_split}
use Rattle.std.specs.Option.{option_map}
use Rattle.token.specs.Words.{words_of}
use Rattle.token.specs.declared.mode.Mode.TheVariants.{Plain}
use Rattle.command.specs.Keywords.{keyword_of}
use Rattle.command.specs.Orders.{Order}
use Rattle.command.specs.Said.{command_of}
use Rattle.command.specs.declared.keyword.Keyword.{Keyword}

abbrev pub called_of : Option Keyword → List (List ℕ) → Option (Option Order)
called_of None args = None
called_of (Some k) args = option_map Some (command_of k args)

abbrev pub worded_of : Option (List (List ℕ)) → Option (Option Order)
worded_of None = None
worded_of (Some []) = Some None
worded_of (Some (w ∷ ws)) = called_of (keyword_of w) ws

-- a line that cannot be read, one that says nothing, or one that says a command
abbrev pub line_of : List ℕ → Option (Option Order)
line_of l = worded_of (words_of Plain [] l)

-- the text cut at each newline
abbrev pub lines_of : List ℕ → List (List ℕ)
lines_of text = slice_split (λ b. b == 10) text

abbrev pub before : Order → Result (List Order) ℕ → Result (List Order) ℕ
before o (Ok os) = Ok (o ∷ os)
before o (Err n) = Err n

abbrev pub then : ℕ → Option (Option Order) → Result (List Order) ℕ → Result (List Order) ℕ
then n None rest = Err n
then n (Some None) rest = rest
then n (Some (Some o)) rest = before o rest

-- what the lines say, of which n stand before
unfoldable pub from_line : ℕ → List (List ℕ) → Result (List Order) ℕ
from_line n [] = Ok []
from_line n (l ∷ ls) = then (n + 1) (line_of l) (from_line (n + 1) ls)

abbrev pub script_of : List ℕ → Result (List Order) ℕ
script_of text = from_line 0 (lines_of text)
