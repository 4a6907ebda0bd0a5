-- How commands are written.
use Rattle.std.specs.Prelude.{ℕ, Bool, true, false, List, [], ◌∷◌, codes, decimal}
use Rattle.std.specs.List.{flat_map}
use Rattle.token.specs.Written.{quoted_of, unwords_of}
use Rattle.command.specs.Orders.{Step, read, write, end, go, Order, user, may, program, login, run, input, close, takes, turn, round, arrive, tick, cuts, connect}
use Rattle.command.specs.declared.kinds.Ends.{Ends}
use Rattle.command.specs.declared.kinds.Ends.TheVariants as ends
use Rattle.command.specs.declared.kinds.Way.{Way}
use Rattle.command.specs.declared.kinds.Way.TheVariants as way

abbrev pub step_words : Step → List (List ℕ)
step_words (read k) = codes "read" ∷ decimal k ∷ []
step_words (write bs) = codes "write" ∷ quoted_of bs ∷ []
step_words (end n) = codes "end" ∷ decimal n ∷ []
step_words go = codes "go" ∷ []

abbrev pub steps_words : List Step → List (List ℕ)
steps_words ss = flat_map step_words ss

abbrev pub program_words : ℕ → List Step → List (List ℕ)
program_words n ss = codes "program" ∷ decimal n ∷ steps_words ss

abbrev pub open_word : Bool → List ℕ
open_word true = codes "open"
open_word false = codes "shut"

abbrev pub way_word : Way → List ℕ
way_word way.There = codes "there"
way_word way.Here = codes "here"
way_word way.All = codes "all"

abbrev pub ends_word : Ends → List ℕ
ends_word ends.Here = codes "here"
ends_word ends.Far = codes "far"
ends_word ends.Both = codes "both"

-- the words of a command
abbrev pub words_for : Order → List (List ℕ)
words_for (user u o) = codes "user" ∷ decimal u ∷ open_word o ∷ []
words_for (may u n) = codes "may" ∷ decimal u ∷ decimal n ∷ []
words_for (program n ss) = program_words n ss
words_for (login u) = codes "login" ∷ decimal u ∷ []
words_for (run t n) = codes "run" ∷ decimal t ∷ decimal n ∷ []
words_for (input t bs) = codes "type" ∷ decimal t ∷ quoted_of bs ∷ []
words_for (close t) = codes "close" ∷ decimal t ∷ []
words_for (takes t k) = codes "take" ∷ decimal t ∷ decimal k ∷ []
words_for (turn t) = codes "turn" ∷ decimal t ∷ []
words_for round = codes "round" ∷ []
words_for (arrive w) = codes "arrive" ∷ way_word w ∷ []
words_for tick = codes "tick" ∷ []
words_for (cuts e) = codes "cut" ∷ ends_word e ∷ []
words_for connect = codes "connect" ∷ []

abbrev pub line_for : Order → List ℕ
line_for o = unwords_of (words_for o)
