-- What is promised while the connection holds: that everything comes, in a counted number of steps. Assumes nothing.
use Rattle.std.specs.Prelude.{◌≡◌, ℕ, suc, ◌+◌, ◌*◌, ◌≤◌, Bool, true, false, cond, ◌&&◌, List, [], ◌∷◌, ◌++◌, length, take, Some, None, Option, ◌==◌, nat_lt}
use Rattle.model.specs.Messages.{Rules, Fair, ToServer, Login, Tick, For, ToClient, Accepted, Programs, Reads}
use Rattle.model.specs.Client.{ClientChannel, Command, LogIn, Start, Enter, Finish, Take, refusal, Running}
use Rattle.model.specs.Server.{ServerChannel, is_part}
use Rattle.model.specs.World.{World, Event, User, Turn, ArriveThere, ArriveHere, CutHere, CutThere, Connect, Time, after}
use Rattle.model.specs.Promises.{AtClient, AtServer, Up}

-- arrivals alone
abbrev pub is_arrival : Event → Bool
is_arrival (User k) = false
is_arrival (Turn t) = false
is_arrival ArriveThere = true
is_arrival ArriveHere = true
is_arrival CutHere = false
is_arrival CutThere = false
is_arrival Connect = false
is_arrival Time = false

abbrev pub is_taking : ℕ → Command → Bool
is_taking t (LogIn u q) = false
is_taking t (Start n k) = false
is_taking t (Enter n bs) = false
is_taking t (Finish n) = false
is_taking t (Take n k) = n == t

-- arrivals, and takings of channel t
abbrev pub brings_out : ℕ → Event → Bool
brings_out t (User k) = is_taking t k
brings_out t (Turn n) = false
brings_out t ArriveThere = true
brings_out t ArriveHere = true
brings_out t CutHere = false
brings_out t CutThere = false
brings_out t Connect = false
brings_out t Time = false

-- arrivals, and turns of channel t
abbrev pub brings_in : ℕ → Event → Bool
brings_in t (User k) = false
brings_in t (Turn n) = n == t
brings_in t ArriveThere = true
brings_in t ArriveHere = true
brings_in t CutHere = false
brings_in t CutThere = false
brings_in t Connect = false
brings_in t Time = false

unfoldable pub All : (Event → Bool) → List Event → Type 0
All p [] = Unit {0}
All p (v ∷ vs) = (p v ≡ true) × All p vs

-- no login is on the way
unfoldable pub NoLogin : List ToServer → Type 0
NoLogin [] = Unit {0}
NoLogin (Login u q ∷ ms) = ⊥
NoLogin (Tick ∷ ms) = NoLogin ms
NoLogin (For t m ∷ ms) = NoLogin ms

-- whether the logins on the way leave the server up: somebody is accepted, or one of them will be before too many fail, or too few of them can fail
unfoldable pub endures : Rules → (connection : ℕ) → Option ℕ → (tries : ℕ) → List ToServer → Bool
endures r n (Some u) k ms = true
endures r n None k [] = true
endures r n None k (Login u q ∷ ms) = cond (r.accepts n u q) true (nat_lt (suc k) r.tries && endures r n None (suc k) ms)
endures r n None k (Tick ∷ ms) = endures r n None k ms
endures r n None k (For t m ∷ ms) = endures r n None k ms

module _ {S E : Type 0} where
  abbrev pub Endures : Rules → World S E → Type 0
  Endures r w = endures r w.connection w.server.user w.server.tries w.there ≡ true

  abbrev pub Empty : World S E → Type 0
  Empty w = (w.there ≡ []) × (w.back ≡ [])

  -- the arrival finds a message
  abbrev pub Finds : Event → World S E → Type 0
  Finds (User k) w = ⊥
  Finds (Turn t) w = ⊥
  Finds ArriveThere w = w.there ≡ [] → ⊥
  Finds ArriveHere w = w.back ≡ [] → ⊥
  Finds CutHere w = ⊥
  Finds CutThere w = ⊥
  Finds Connect w = ⊥
  Finds Time w = ⊥

-- arrivals each of which finds a message, in any order
unfoldable pub Busy : {S E : Type 0} → Rules → Programs S E → E → List Event → List Event → Type 0
Busy r p e vs [] = Unit {0}
Busy r p e vs (f ∷ fs) = Finds f (after r p e (fs ++ vs)) × Busy r p e vs fs

-- Any order of arrivals comes to an end, and no fault is met, unless logins on the way take the server down; where none can be made any more, both ways are empty.
abbrev pub Settles : (S E : Type 0) → Type 0
Settles S E =
    (r : Rules) → Fair r → (p : Programs S E) (e : E) (vs fs : List Event) → Up (after r p e vs) → Endures r (after r p e vs) → Busy r p e vs fs →
    Up (after r p e (fs ++ vs)) × (length fs ≤ (length (after r p e vs).there + length (after r p e vs).back) * ((r.window + 2) * (r.window + 2)))

abbrev pub CanSettle : (S E : Type 0) → Type 0
CanSettle S E = (r : Rules) → Fair r → (p : Programs S E) (e : E) (vs : List Event) → Up (after r p e vs) → Endures r (after r p e vs) → (fs : List Event) × Busy r p e vs fs × Empty (after r p e (fs ++ vs))

-- What a program wrote, and its exit, come to the user by arrivals, and takings of this channel alone, whatever the other channels hold.
abbrev pub OutputComes : (S E : Type 0) → Type 0
OutputComes S E =
    (r : Rules) → Fair r → (p : Programs S E) (e : E) (vs : List Event) (f : ServerChannel S) → AtServer f (after r p e vs) → Up (after r p e vs) →
    (fs : List Event) × All (brings_out f.number) fs × (length fs ≤ (length f.wrote + length (after r p e vs).there + length (after r p e vs).back + 4) * ((r.window + 4) * (r.window + 4))) ×
    Up (after r p e (fs ++ vs)) × ((y : ClientChannel) × AtClient y (after r p e (fs ++ vs)) × (y.number ≡ f.number) × (y.got ≡ f.wrote) × (y.exit ≡ f.exit))

-- What was typed comes in as far as the program made room, by arrivals alone; with eof, where all fits.
abbrev pub InputComes : (S E : Type 0) → Type 0
InputComes S E =
    (r : Rules) → Fair r → (p : Programs S E) (e : E) (vs : List Event) (x : ClientChannel) (f : ServerChannel S) → AtClient x (after r p e vs) → AtServer f (after r p e vs) → x.number ≡ f.number → f.forgotten ≡ false → f.exit ≡ None → Up (after r p e vs) →
    (fs : List Event) × All is_arrival fs × (length fs ≤ (length (after r p e vs).there + length (after r p e vs).back) * ((r.window + 2) * (r.window + 2))) × Up (after r p e (fs ++ vs)) ×
    ((g : ServerChannel S) × AtServer g (after r p e (fs ++ vs)) × (g.number ≡ f.number) × (g.input ≡ take (f.read + r.window) x.input) × (length x.input ≤ f.read + r.window → g.eof ≡ x.eof))

-- A program all of whose turns read gets all that was typed, by arrivals and turns of this channel alone.
abbrev pub AlwaysReads : {S E : Type 0} → Rules → Programs S E → Type 0
AlwaysReads {S} {E} r p = (e : E) (s : S) → (k : ℕ) × (p.does e s ≡ Reads k) × (is_part r k ≡ true)

abbrev pub AllInputComes : (S E : Type 0) → Type 0
AllInputComes S E =
    (r : Rules) → Fair r → (p : Programs S E) → AlwaysReads r p → (e : E) (vs : List Event) (x : ClientChannel) (f : ServerChannel S) → AtClient x (after r p e vs) → AtServer f (after r p e vs) → x.number ≡ f.number → f.forgotten ≡ false → f.exit ≡ None → Up (after r p e vs) →
    (fs : List Event) × All (brings_in f.number) fs × (length fs ≤ (length x.input + length (after r p e vs).there + length (after r p e vs).back + 4) * ((r.window + 4) * (r.window + 4))) × Up (after r p e (fs ++ vs)) ×
    ((g : ServerChannel S) × AtServer g (after r p e (fs ++ vs)) × (g.number ≡ f.number) × (g.input ≡ x.input) × (g.read ≡ length x.input) × (g.eof ≡ x.eof))

-- A right login is accepted while nobody is: when it arrives, and, where no other is on the way, as soon as it was made; and the client is told.
abbrev pub RightLoginAccepted : (S E : Type 0) → Type 0
RightLoginAccepted S E =
    (r : Rules) (p : Programs S E) (e : E) (vs : List Event) (u : ℕ) (q : List ℕ) (ms : List ToServer) → (after r p e vs).server.up ≡ true → (after r p e vs).server.user ≡ None → (after r p e vs).there ≡ Login u q ∷ ms → r.accepts (after r p e vs).connection u q ≡ true →
    ((after r p e (ArriveThere ∷ vs)).server.user ≡ Some u) × ((rest : List ToClient) × ((after r p e (ArriveThere ∷ vs)).back ≡ (after r p e vs).back ++ (Accepted true ∷ rest)))

abbrev pub CanLogIn : (S E : Type 0) → Type 0
CanLogIn S E =
    (r : Rules) → Fair r → (p : Programs S E) (e : E) (vs : List Event) (u : ℕ) (q : List ℕ) → Up (after r p e vs) → (after r p e vs).server.user ≡ None → NoLogin (after r p e vs).there → r.accepts (after r p e vs).connection u q ≡ true →
    (fs : List Event) × All is_arrival fs × (length fs ≤ length (after r p e vs).back + 2 + length (after r p e vs).there * (r.window + 4)) × ((after r p e (fs ++ (User (LogIn u q) ∷ vs))).server.user ≡ Some u) × ((after r p e (fs ++ (User (LogIn u q) ∷ vs))).client.accepted ≡ true)

-- A start that the client does not refuse, by a user who is accepted and may, is told to run: once the messages on the way there have come, then the start, then what was and came on the way back, and one more.
abbrev pub CanStart : (S E : Type 0) → Type 0
CanStart S E =
    (r : Rules) → Fair r → (p : Programs S E) (e : E) (vs : List Event) (u t k : ℕ) → (after r p e vs).server.user ≡ Some u → r.may u k ≡ true → Up (after r p e vs) → refusal r (Start t k) (after r p e vs).client ≡ None →
    (fs : List Event) × All is_arrival fs × (length fs ≤ length (after r p e vs).back + 2 + length (after r p e vs).there * (r.window + 4)) ×
    ((x : ClientChannel) × AtClient x (after r p e (fs ++ (User (Start t k) ∷ vs))) × (x.number ≡ t) × (x.command ≡ k) × (x.phase ≡ Running))
