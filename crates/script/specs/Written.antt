-- How scripts are written.
use Rattle.std.specs.Prelude.{ℕ, List, [], ◌∷◌, ◌++◌}
use Rattle.std.specs.List.{flat_map}
use Rattle.command.specs.Orders.{Order}
use Rattle.command.specs.Written.{line_for}

-- a script: each command in a line of its own
abbrev pub written_of : List Order → List ℕ
written_of os = flat_map (λ o. line_for o ++ 10 ∷ []) os
