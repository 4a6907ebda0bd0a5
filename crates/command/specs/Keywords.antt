-- The words that a line begins with.
use Rattle.std.specs.Prelude.{ℕ, cond, List, [], ◌∷◌, Some, None, codes, Option}
use Rattle.std.specs.Str.{bytes_eq}
use Rattle.command.specs.declared.keyword.Keyword.{Keyword}
use Rattle.command.specs.declared.keyword.Keyword.TheVariants.{User, May, Program, Login, Run, Input, Close, Take, Turn, Round, Arrive, Tick, Cut, Connect}

abbrev pub name_of : Keyword → List ℕ
name_of User = codes "user"
name_of May = codes "may"
name_of Program = codes "program"
name_of Login = codes "login"
name_of Run = codes "run"
name_of Input = codes "type"
name_of Close = codes "close"
name_of Take = codes "take"
name_of Turn = codes "turn"
name_of Round = codes "round"
name_of Arrive = codes "arrive"
name_of Tick = codes "tick"
name_of Cut = codes "cut"
name_of Connect = codes "connect"

-- the first of the keywords that has the name
unfoldable pub named : List Keyword → List ℕ → Option Keyword
named [] w = None
named (k ∷ ks) w = cond (bytes_eq w (name_of k)) (Some k) (named ks w)

abbrev pub keywords : List Keyword
keywords = User ∷ May ∷ Program ∷ Login ∷ Run ∷ Input ∷ Close ∷ Take ∷ Turn ∷ Round ∷ Arrive ∷ Tick ∷ Cut ∷ Connect ∷ []

unfoldable pub keyword_of : List ℕ → Option Keyword
keyword_of w = named keywords w
