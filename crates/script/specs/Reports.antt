-- What is said of a script.
use Rattle.std.specs.Prelude.{ℕ, List, [], ◌∷◌, ◌++◌, length, Ok, Err, codes, decimal, Result}
use Rattle.command.specs.Orders.{Order}
use Rattle.script.specs.Written.{written_of}

-- the commands as they are written, and how many they are
abbrev pub accepted_of : List Order → List ℕ
accepted_of os = written_of os ++ (decimal (length os) ++ (codes " commands" ++ 10 ∷ []))

-- fault 14, and the number of the first bad line
abbrev pub refused_of : ℕ → List ℕ
refused_of n = codes "14 " ++ (decimal n ++ 10 ∷ [])

abbrev pub report_of : Result (List Order) ℕ → List ℕ
report_of (Ok os) = accepted_of os
report_of (Err n) = refused_of n
