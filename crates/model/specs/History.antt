-- What happened in a login: commands that were obeyed, starts that came, and what a program did turn by turn. Assumes nothing.
use Rattle.std.specs.Prelude.{◌≡◌, ℕ, ◌<◌, ◌≤◌, Bool, true, false, ◌⊎◌, List, [], ◌∷◌, ◌++◌, length, Some, None, Option, ◌==◌}
use Rattle.model.specs.Messages.{Rules, ToServer, For, Run, Does, Reads, Writes, Ends, GoesOn, Programs, is_some}
use Rattle.model.specs.Client.{Command, refusal}
use Rattle.model.specs.Server.{ServerChannel, channel_of, is_part, portion}
use Rattle.model.specs.World.{World, Event, User, Turn, ArriveThere, ArriveHere, CutHere, CutThere, Connect, Time, can_connect, after}

-- a request that cannot be
abbrev pub IsImpossible : Rules → Does → Type 0
IsImpossible r (Reads k) = is_part r k ≡ false
IsImpossible r (Writes bs) = is_part r (length bs) ≡ false
IsImpossible r (Ends n) = 255 < n
IsImpossible r GoesOn = ⊥

-- a request that waits: a read where nothing is and more may come; a write while the server is up and more is written than may be sent
abbrev pub IsIdle : {S : Type 0} → Rules → (up : Bool) → ServerChannel S → Does → Type 0
IsIdle r up x (Reads k) = (is_part r k ≡ true) × (length (portion k x) ≡ 0) × (x.eof ≡ false)
IsIdle r up x (Writes bs) = (is_part r (length bs) ≡ true) × (up ≡ true) × (x.may < length x.wrote)
IsIdle r up x (Ends n) = ⊥
IsIdle r up x GoesOn = ⊥

abbrev pub found_eof : {S : Type 0} → Option (ServerChannel S) → Bool
found_eof None = false
found_eof (Some x) = x.eof

module _ {S E : Type 0} where
  -- whether a new connection comes up by this event
  abbrev pub comes_up : Event → World S E → Bool
  comes_up (User k) w = false
  comes_up (Turn t) w = false
  comes_up ArriveThere w = false
  comes_up ArriveHere w = false
  comes_up CutHere w = false
  comes_up CutThere w = false
  comes_up Connect w = can_connect w
  comes_up Time w = false

module _ {S E : Type 0} (r : Rules) (p : Programs S E) (e : E) where
  -- the command was obeyed, and no new connection came up since
  pub data Obeyed (k : Command) : List Event → Type 0 where
    now : {vs : List Event} → refusal r k (after r p e vs).client ≡ None → Obeyed k (User k ∷ vs)
    still : {v : Event} {vs : List Event} → comes_up v (after r p e vs) ≡ false → Obeyed k vs → Obeyed k (v ∷ vs)

  -- the channel began to run while that user was accepted, and no new connection came up since
  pub data Began (t u : ℕ) : List Event → Type 0 where
    now : {vs : List Event} (k : ℕ) (ms : List ToServer) → (after r p e vs).there ≡ For t (Run k) ∷ ms → channel_of t (after r p e vs).server ≡ None → (after r p e vs).server.user ≡ Some u → Began t u (ArriveThere ∷ vs)
    still : {v : Event} {vs : List Event} → comes_up v (after r p e vs) ≡ false → Began t u vs → Began t u (v ∷ vs)

  -- what the program of channel t did, each turn in the environment as that turn found it: its command, what it read, what it wrote, its state, its status
  pub data Ran (t : ℕ) : List Event → (command : ℕ) → (read wrote : List ℕ) → S → Option ℕ → Type 0 where
    began : {vs : List Event} (k : ℕ) (ms : List ToServer) → (after r p e vs).there ≡ For t (Run k) ∷ ms → channel_of t (after r p e vs).server ≡ None → Ran t (ArriveThere ∷ vs) k [] [] (p.first (after r p e vs).server.env k) None
    -- in the same connection; a turn of its own does nothing only if it has ended or waits
    still : {v : Event} {vs : List Event} {k : ℕ} {rd wr : List ℕ} {s : S} {x : Option ℕ} → comes_up v (after r p e vs) ≡ false →
        (v ≡ Turn t → (is_some x ≡ true) ⊎ ((c : ServerChannel S) × (channel_of t (after r p e vs).server ≡ Some c) × IsIdle r (after r p e vs).server.up c (p.does (after r p e vs).server.env s))) →
        Ran t vs k rd wr s x → Ran t (v ∷ vs) k rd wr s x
    -- it is told that no more will come only when it reads, nothing is left, and eof came
    read : {vs : List Event} {k : ℕ} {rd wr : List ℕ} {s : S} (n : ℕ) (bs : List ℕ) → Ran t vs k rd wr s None → p.does (after r p e vs).server.env s ≡ Reads n → is_part r n ≡ true → length bs ≤ n → (length bs ≡ 0 → found_eof (channel_of t (after r p e vs).server) ≡ true) →
        Ran t (Turn t ∷ vs) k (rd ++ bs) wr (p.next (after r p e vs).server.env s bs (length bs == 0)) None
    wrote : {vs : List Event} {k : ℕ} {rd wr : List ℕ} {s : S} (bs : List ℕ) → Ran t vs k rd wr s None → p.does (after r p e vs).server.env s ≡ Writes bs → is_part r (length bs) ≡ true → Ran t (Turn t ∷ vs) k rd (wr ++ bs) (p.next (after r p e vs).server.env s [] false) None
    went_on : {vs : List Event} {k : ℕ} {rd wr : List ℕ} {s : S} → Ran t vs k rd wr s None → p.does (after r p e vs).server.env s ≡ GoesOn → Ran t (Turn t ∷ vs) k rd wr (p.next (after r p e vs).server.env s [] false) None
    ended : {vs : List Event} {k : ℕ} {rd wr : List ℕ} {s : S} (n : ℕ) → Ran t vs k rd wr s None → p.does (after r p e vs).server.env s ≡ Ends n → n ≤ 255 → Ran t (Turn t ∷ vs) k rd wr s (Some n)
    broke : {vs : List Event} {k : ℕ} {rd wr : List ℕ} {s : S} → Ran t vs k rd wr s None → IsImpossible r (p.does (after r p e vs).server.env s) → Ran t (Turn t ∷ vs) k rd wr s (Some 255)
    -- after the cut it is ended when its last turn is over
    drained : {vs : List Event} {k : ℕ} {rd wr : List ℕ} {s : S} → (after r p e vs).server.up ≡ false → Ran t (Turn t ∷ vs) k rd wr s None → Ran t (Turn t ∷ vs) k rd wr s (Some 255)
