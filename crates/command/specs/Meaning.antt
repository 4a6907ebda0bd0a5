-- What the words of a line say.
use Rattle.std.specs.Prelude.{ℕ, Bool, true, false, cond, List, [], ◌∷◌, Some, None, codes, Option}
use Rattle.std.specs.Option.{option_map}
use Rattle.std.specs.Str.{bytes_eq}
use Rattle.token.specs.Number.{number_of}
use Rattle.command.specs.Orders.{Order}
use Rattle.command.specs.declared.kinds.Ends.{Ends}
use Rattle.command.specs.declared.kinds.Ends.TheVariants as ends
use Rattle.command.specs.declared.kinds.Way.{Way}
use Rattle.command.specs.declared.kinds.Way.TheVariants as way

abbrev pub user_of : List ℕ → Option ℕ
user_of w = number_of 1 255 w

abbrev pub byte_of : List ℕ → Option ℕ
byte_of w = number_of 0 255 w

abbrev pub short_of : List ℕ → Option ℕ
short_of w = number_of 0 65535 w

abbrev pub wide_of : List ℕ → Option ℕ
wide_of w = number_of 0 4294967295 w

-- one of two words, or of three
abbrev pub choice_of : {A : Type 0} → List ℕ → List ℕ → A → Option A → Option A
choice_of w name x others = cond (bytes_eq w name) (Some x) others

abbrev pub open_of : List ℕ → Option Bool
open_of w = choice_of w (codes "open") true (choice_of w (codes "shut") false None)

abbrev pub way_of : List ℕ → Option Way
way_of w = choice_of w (codes "there") way.There (choice_of w (codes "here") way.Here (choice_of w (codes "all") way.All None))

abbrev pub ends_of : List ℕ → Option Ends
ends_of w = choice_of w (codes "here") ends.Here (choice_of w (codes "far") ends.Far (choice_of w (codes "both") ends.Both None))

-- so many arguments, each of which has to be readable
abbrev pub none : Order → List (List ℕ) → Option Order
none o [] = Some o
none o (w ∷ ws) = None

abbrev pub read_one : {A : Type 0} → (A → Order) → (List ℕ → Option A) → Option (List ℕ) → Option Order
read_one order p None = None
read_one order p (Some w) = option_map order (p w)

abbrev pub both : {A B : Type 0} → (A → B → Order) → Option A → Option B → Option Order
both order None y = None
both order (Some x) None = None
both order (Some x) (Some y) = Some (order x y)

abbrev pub read_two : {A B : Type 0} → (A → B → Order) → (List ℕ → Option A) → (List ℕ → Option B) → Option (List ℕ × List ℕ) → Option Order
read_two order p q None = None
read_two order p q (Some ws) = both order (p ws.0) (q ws.1)
