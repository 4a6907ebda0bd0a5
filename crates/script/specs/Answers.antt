-- What a reader of a script answers.
use Rattle.std.specs.Prelude.{◌≡◌, ℕ, List, map, Some, None, Ok, Err, vec_items, Option, Result, Vec}
use Rattle.std.specs.Option.{option_map}
use Rattle.std.specs.declared.alloc.Global.{Global}
use Rattle.command.specs.Orders.{Order, order_of}
use Rattle.command.specs.declared.kinds.Command.{Command}
use Rattle.script.specs.declared.reader.Unreadable.{Unreadable}
use Rattle.script.specs.declared.reader.Unreadable.TheVariants.{Line, NoMemory}

abbrev pub orders : Vec Command Global → List Order
orders v = map order_of (vec_items v)

-- the commands of the script, or its first bad line
abbrev pub Script : Result (Vec Command Global) Unreadable → Result (List Order) ℕ → Type 0
Script (Ok v) said = said ≡ Ok (orders v)
Script (Err (Line n)) said = said ≡ Err n
Script (Err NoMemory) said = Unit {0}

-- what the line of number n says, or that number
abbrev pub Numbered : ℕ → Option (Option Order) → Result (Option Command) Unreadable → Type 0
Numbered n said (Ok o) = said ≡ Some (option_map order_of o)
Numbered n said (Err (Line k)) = (said ≡ None) × (k ≡ n)
Numbered n said (Err NoMemory) = Unit {0}
