-- What the calls of a server do, for every server of the model that it stands for. Assumes nothing.
use Rattle.std.specs.Prelude.{◌≡◌, ℕ, suc, Bool, true, false, not, ◌&&◌, List, [], ◌∷◌, ◌++◌, Some, None, Ok, Err, Option, Result, nat_lt, if◌then◌else◌}
use Rattle.programs.specs.Grants.{Grants}
use Rattle.model.specs.Messages.{Rules, Programs, ToServer, Login, Tick, For, Request, Run, Input, OutputCredit, Eof, Close, ToClient, Did, did, Fault, TooManyTries, real}
use Rattle.model.specs.Server.{Server, ServerChannel, new_server, channel_of, pass_to, is_refused, pass, receive_by, serve, turn, lose, is_empty}
use Rattle.server_channel.specs.declared.Channel.{Channel}
use Rattle.desk.specs.View.{View, number_in, owed_by}
use Rattle.message.specs.Views.{fault}
use Rattle.server.specs.declared.Refusal.{Refusal}
use Rattle.server.specs.declared.Refusal.TheVariants as refusal
use Rattle.server.specs.declared.Stop.{Stop}
use Rattle.server.specs.declared.Stop.TheVariants as stop
use Rattle.server.specs.Stands.{Fits, at, StandsFor, Follows, Meets}

abbrev pub fault_by : {X : Type 0} → Result X Fault → Option Fault
fault_by (Ok x) = None
fault_by (Err f) = Some f

module _ {S E : Type 0} where
  -- the fault that the model finds in a message
  abbrev pub login_fault : Rules → ℕ → ℕ → List ℕ → Option ℕ → Server S E → Option Fault
  login_fault r n u q (Some w) s = None
  login_fault r n u q None s = if r.accepts n u q then None else if nat_lt (suc s.tries) r.tries then None else Some TooManyTries

  abbrev pub pass_fault : Rules → ℕ → Request → Server S E → Option Fault
  pass_fault r t q s = if is_refused t (channel_of t s) s then None else fault_by (pass_to r t q (channel_of t s) s)

  abbrev pub channel_fault : Rules → ℕ → Request → Server S E → Option Fault
  channel_fault r t (Run k) s = None
  channel_fault r t (Input bs) s = pass_fault r t (Input bs) s
  channel_fault r t (OutputCredit n) s = pass_fault r t (OutputCredit n) s
  channel_fault r t Eof s = pass_fault r t Eof s
  channel_fault r t Close s = pass_fault r t Close s

  abbrev pub fault_in : Rules → (connection : ℕ) → ToServer → Server S E → Option Fault
  fault_in r n (Login u q) s = login_fault r n u q s.user s
  fault_in r n Tick s = None
  fault_in r n (For t q) s = channel_fault r t q s

-- who is accepted may run a command
abbrev pub may_user : (ℕ → ℕ → Bool) → Option ℕ → ℕ → Bool
may_user may None k = false
may_user may (Some u) k = may u k

-- rules with the real limits, whose table for this connection is that of the accounts
pub record Under (granted : Grants) (a : ℕ → ℕ → List ℕ → Bool) (m : ℕ → ℕ → Bool) (n : ℕ) : Type 0 where
  pub accepted : (u : ℕ) (q : List ℕ) → a n u q ≡ granted.accepts u q
  pub allowed : (u k : ℕ) → m u k ≡ granted.may u k

module _ {S E : Type 0} (granted : Grants) where
  -- whatever the view stood for, it now stands for what the model came to, and owes what the model sends
  pub record Does (event : Rules → ℕ → Server S E → Did (Server S E) ToClient) (v : View S) (e : E) (w : View S) (e' : E) : Type 0 where
    pub follows : (a : ℕ → ℕ → List ℕ → Bool) (m : ℕ → ℕ → Bool) (n : ℕ) → Under granted a m n → (s : Server S E) → StandsFor v e s → Follows (event (real a m) n s) w e'

  -- before anything goes by itself
  pub record Does' (event : Rules → ℕ → Server S E → Did (Server S E) ToClient) (v : View S) (e : E) (w : View S) (e' : E) : Type 0 where
    pub meets : (a : ℕ → ℕ → List ℕ → Bool) (m : ℕ → ℕ → Bool) (n : ℕ) → Under granted a m n → (xs : List (ServerChannel S)) (used : List ℕ) → Fits v xs used → Meets (event (real a m) n (at v e xs used)) w e'

  pub record Faulty (message : ToServer) (v : View S) (e : E) (o : Option Fault) : Type 0 where
    pub found : (a : ℕ → ℕ → List ℕ → Bool) (m : ℕ → ℕ → Bool) (n : ℕ) → Under granted a m n → (s : Server S E) → StandsFor v e s → fault_in (real a m) n message s ≡ o

  pub record Faulty' (message : ToServer) (v : View S) (e : E) (o : Option Fault) : Type 0 where
    pub found : (a : ℕ → ℕ → List ℕ → Bool) (m : ℕ → ℕ → Bool) (n : ℕ) → Under granted a m n → (xs : List (ServerChannel S)) (used : List ℕ) → Fits v xs used → fault_in (real a m) n message (at v e xs used) ≡ o

  -- a message that is taken, or that is a fault
  pub record Takes (p : Programs S E) (message : ToServer) (v : View S) (e : E) (o : Option Fault) (w : View S) (e' : E) : Type 0 where
    pub silent : owed_by v ≡ []
    pub up : v.up ≡ true
    pub does : Does (λ r n s. serve r p n message s) v e w e'
    pub fault : Faulty message v e o

  pub record Takes' (p : Programs S E) (message : ToServer) (v : View S) (e : E) (o : Option Fault) (w : View S) (e' : E) : Type 0 where
    pub does : Does' (λ r n s. receive_by r p n message s) v e w e'
    pub fault : Faulty' message v e o

  -- a message for a channel, but a start
  pub record Passes' (t : ℕ) (q : Request) (v : View S) (e : E) (o : Option Fault) (w : View S) (e' : E) : Type 0 where
    pub does : Does' (λ r n s. pass r t q s) v e w e'
    pub fault : (a : ℕ → ℕ → List ℕ → Bool) (m : ℕ → ℕ → Bool) (xs : List (ServerChannel S)) (used : List ℕ) → Fits v xs used → pass_fault (real a m) t q (at v e xs used) ≡ o

  -- a message comes: it is taken, or a fault, or the call is refused
  abbrev pub Receives : Programs S E → ToServer → View S → E → Result Unit Stop → View S → E → Type 0
  Receives p message v e (Ok u) w e' = Takes p message v e None w e'
  Receives p message v e (Err (stop.Fault f)) w e' = Takes p message v e (Some (fault f)) w e'
  Receives p message v e (Err (stop.Refused refusal.Owed)) w e' = owed_by v ≡ [] → ⊥
  Receives p message v e (Err (stop.Refused refusal.Down)) w e' = (owed_by v ≡ []) × (v.up ≡ false)
  Receives p message v e (Err (stop.Refused refusal.Busy)) w e' = ⊥

-- a call that was refused left all as it was
abbrev pub IfRefused : Result Unit Stop → Type 0 → Type 0
IfRefused (Ok u) P = Unit {0}
IfRefused (Err (stop.Fault f)) P = Unit {0}
IfRefused (Err (stop.Refused x)) P = P

abbrev pub IfNot : Result Unit Refusal → Type 0 → Type 0
IfNot (Ok u) P = Unit {0}
IfNot (Err x) P = P

module _ {S E : Type 0} where
  -- a turn, and the cut, as events
  abbrev pub turning : Programs S E → ℕ → Rules → ℕ → Server S E → Did (Server S E) ToClient
  turning p t r n s = turn r p t s

  abbrev pub losing : Rules → ℕ → Server S E → Did (Server S E) ToClient
  losing r n s = lose r s

module _ {S E : Type 0} (granted : Grants) where
  -- an event that only messages that are owed put off
  abbrev pub Turns : (Rules → ℕ → Server S E → Did (Server S E) ToClient) → View S → E → Result Unit Refusal → View S → E → Type 0
  Turns event v e (Ok u) w e' = (owed_by v ≡ []) × Does granted event v e w e'
  Turns event v e (Err refusal.Owed) w e' = owed_by v ≡ [] → ⊥
  Turns event v e (Err refusal.Down) w e' = ⊥
  Turns event v e (Err refusal.Busy) w e' = ⊥

abbrev pub IfDone : Result Unit Refusal → Type 0 → Type 0
IfDone (Ok u) P = P
IfDone (Err x) P = Unit {0}

module _ {S E : Type 0} where
  -- a server of which nothing was used stands for the model's new server, and for no other
  pub record Begins (v : View S) (e : E) : Type 0 where
    pub stands : StandsFor v e (new_server e)
    pub owes : owed_by v ≡ []

  -- a new connection comes up just where the model lets it: the last one is cut, and all of it forgotten
  abbrev pub Connects : View S → E → Result Unit Refusal → View S → E → Type 0
  Connects v e (Ok u) w e' = ((s : Server S E) → StandsFor v e s → (not s.up && is_empty s) ≡ true) × Begins w e'
  Connects v e (Err refusal.Busy) w e' = (s : Server S E) → StandsFor v e s → (not s.up && is_empty s) ≡ false
  Connects v e (Err refusal.Owed) w e' = ⊥
  Connects v e (Err refusal.Down) w e' = ⊥

-- turns one after another, each with what then goes by itself
module _ {S E : Type 0} where
  unfoldable pub rounds : Rules → Programs S E → List ℕ → Server S E → Did (Server S E) ToClient
  rounds r p [] s = did s []
  rounds r p (t ∷ ts) s = did (rounds r p ts (turn r p t s).side).side ((turn r p t s).sends ++ (rounds r p ts (turn r p t s).side).sends)

-- the numbers of the channels that are held
unfoldable pub numbers_of : {S : Type 0} → List (Channel S) → List ℕ
numbers_of [] = []
numbers_of (k ∷ ks) = number_in k ∷ numbers_of ks

module _ {S E : Type 0} (granted : Grants) where
  -- an event, of which all messages were sent
  pub record Sends (event : Rules → ℕ → Server S E → Did (Server S E) ToClient) (v : View S) (e : E) (w : View S) (e' : E) (sent : List ToClient) : Type 0 where
    pub stands : (a : ℕ → ℕ → List ℕ → Bool) (m : ℕ → ℕ → Bool) (n : ℕ) → Under granted a m n → (s : Server S E) → StandsFor v e s → StandsFor w e' (event (real a m) n s).side
    pub sends : (a : ℕ → ℕ → List ℕ → Bool) (m : ℕ → ℕ → Bool) (n : ℕ) → Under granted a m n → (s : Server S E) → StandsFor v e s → sent ≡ (event (real a m) n s).sends

  -- what is left of the turns leads where all of them do
  pub record Leads (p : Programs S E) (ts : List ℕ) (v : View S) (e : E) (rest : List ℕ) (w : View S) (e' : E) (sent : List ToClient) : Type 0 where
    pub leads : (a : ℕ → ℕ → List ℕ → Bool) (m : ℕ → ℕ → Bool) (n : ℕ) → Under granted a m n → (s : Server S E) → StandsFor v e s →
        (z : Server S E) × StandsFor w e' z × (rounds (real a m) p ts s ≡ did (rounds (real a m) p rest z).side (sent ++ (rounds (real a m) p rest z).sends))
