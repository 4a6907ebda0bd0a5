-- What the words of a program and of an input say.
use Rattle.std.specs.Prelude.{ℕ, Bool, cond, ◌&&◌, List, [], ◌∷◌, length, Some, None, codes, Option, nat_le}
use Rattle.std.specs.Option.{option_map}
use Rattle.std.specs.Str.{bytes_eq}
use Rattle.token.specs.Bytes.{bytes_of}
use Rattle.command.specs.Arguments.{two_of}
use Rattle.command.specs.Meaning.{byte_of, short_of, wide_of, choice_of, both, read_two}
use Rattle.command.specs.Orders.{Step, read, write, end, go, Order, program, input}

abbrev pub counted_of : List ℕ → Option ℕ → Option Step
counted_of w None = None
counted_of w (Some n) = choice_of w (codes "read") (read n) (choice_of w (codes "end") (end n) None)

-- an action of a word and an argument
abbrev pub action_of : List ℕ → List ℕ → Option Step
action_of w x = cond (bytes_eq w (codes "write")) (option_map write (bytes_of x)) (counted_of w (short_of x))

abbrev pub ahead : Option Step → Option (List Step) → Option (List Step)
ahead None ss = None
ahead (Some s) None = None
ahead (Some s) (Some ss) = Some (s ∷ ss)

abbrev pub is_go : List ℕ → Bool
is_go w = bytes_eq w (codes "go")

-- a row of actions, of which `go` alone has no argument
unfoldable pub steps_of : List (List ℕ) → Option (List Step)
steps_of [] = Some []
steps_of (w ∷ []) = cond (is_go w) (Some (go ∷ [])) None
steps_of (w ∷ x ∷ ws) = cond (is_go w) (ahead (Some go) (steps_of (x ∷ ws))) (ahead (action_of w x) (steps_of ws))

-- one action or more, and at most 64
abbrev pub limited : Option (List Step) → Option (List Step)
limited None = None
limited (Some ss) = cond (nat_le 1 (length ss) && nat_le (length ss) 64) (Some ss) None

abbrev pub program_of : List (List ℕ) → Option Order
program_of [] = None
program_of (w ∷ ws) = both program (byte_of w) (limited (steps_of ws))

abbrev pub input_of : List (List ℕ) → Option Order
input_of args = read_two input wide_of bytes_of (two_of args)
