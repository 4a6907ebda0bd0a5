-- What is promised after every list of events. Each is a type; a proof of it is the theorem. Assumes nothing.
use Rattle.std.specs.Prelude.{◌≡◌, ℕ, ◌+◌, ◌≤◌, true, false, cond, ◌⊎◌, List, [], ◌∷◌, ◌++◌, length, take, Some, None, ◌==◌}
use mathlib.Core.List.{Memᴰ}
use Rattle.model.specs.Keyed.{numbers, Rising, every}
use Rattle.model.specs.Messages.{Rules, Fair, Programs, is_some}
use Rattle.model.specs.Client.{ClientChannel, Command, LogIn, Start, Refusal, refusal, number_of, Closed}
use Rattle.model.specs.Server.{ServerChannel, number_at, is_over, is_empty}
use Rattle.model.specs.World.{World, Event, User, Turn, ArriveThere, ArriveHere, CutHere, CutThere, Connect, Time, after}
use Rattle.model.specs.History.{comes_up, Obeyed, Began, Ran}

module _ {S E : Type 0} where
  abbrev pub AtClient : ClientChannel → World S E → Type 0
  AtClient x w = Memᴰ x w.client.channels

  abbrev pub AtServer : ServerChannel S → World S E → Type 0
  AtServer f w = Memᴰ f w.server.channels

  abbrev pub Up : World S E → Type 0
  Up w = (w.client.up ≡ true) × (w.server.up ≡ true)

  -- Started by who may: the user's own command with that very number and command, in this login, whose user was accepted when it began to run.
  pub record Started (r : Rules) (p : Programs S E) (e : E) (vs : List Event) (f : ServerChannel S) : Type 0 where
    pub channel : (x : ClientChannel) × AtClient x (after r p e vs) × (x.number ≡ f.number) × (x.command ≡ f.command)
    pub start : Obeyed r p e (Start f.number f.command) vs
    pub login : (proof : List ℕ) × Obeyed r p e (LogIn f.user proof) vs × (r.accepts (after r p e vs).connection f.user proof ≡ true)
    pub began : Began r p e f.number f.user vs
    pub may : r.may f.user f.command ≡ true
    pub accepted : (after r p e vs).server.user ≡ Some f.user

-- of one channel at both sides: what came in is a prefix of what was typed, and eof came only when that was all
pub record InputTrue {S : Type 0} (x : ClientChannel) (f : ServerChannel S) : Type 0 where
  pub rest : List ℕ
  pub prefix : f.input ++ rest ≡ x.input
  pub eof : f.eof ≡ true → (x.eof ≡ true) × (rest ≡ [])

-- what the user has is a prefix of what the program wrote, and an exit is told only when that was all, and truly
pub record OutputTrue {S : Type 0} (x : ClientChannel) (f : ServerChannel S) : Type 0 where
  pub rest : List ℕ
  pub prefix : x.got ++ rest ≡ f.wrote
  pub exit : (n : ℕ) → x.exit ≡ Some n → (f.exit ≡ Some n) × (rest ≡ [])

-- neither side holds more of a channel than its window, and no more waits than may
pub record InWindow {S : Type 0} (r : Rules) (x : ClientChannel) (f : ServerChannel S) : Type 0 where
  pub output : length x.got ≤ x.taken + r.window
  pub input : length f.input ≤ f.read + r.window
  pub taken : x.taken ≤ length x.got
  pub read : f.read ≤ length f.input

-- 1. Whatever runs, or ran, was started in this login by who may.
abbrev pub StartedByWhoMay : (S E : Type 0) → Type 0
StartedByWhoMay S E = (r : Rules) → Fair r → (p : Programs S E) (e : E) (vs : List Event) (f : ServerChannel S) → AtServer f (after r p e vs) → Started r p e vs f

-- All that run in a login run as one user.
abbrev pub OneUser : (S E : Type 0) → Type 0
OneUser S E = (r : Rules) → Fair r → (p : Programs S E) (e : E) (vs : List Event) (f g : ServerChannel S) → AtServer f (after r p e vs) → AtServer g (after r p e vs) → f.user ≡ g.user

-- Each number runs at most once in a login, whether the server still holds it or not; and of what ran nothing is lost until a new connection comes up.
abbrev pub RunsOnce : (S E : Type 0) → Type 0
RunsOnce S E =
    (r : Rules) → Fair r → (p : Programs S E) (e : E) (vs : List Event) → Rising (numbers number_at (after r p e vs).server.channels) × Rising (numbers number_of (after r p e vs).client.channels) ×
    ((v : Event) → comes_up v (after r p e vs) ≡ false → (new : List ℕ) × (numbers number_at (after r p e (v ∷ vs)).server.channels ≡ numbers number_at (after r p e vs).server.channels ++ new))

-- When a new connection comes up, nothing of the one before is left, and the server had forgotten it.
abbrev pub NothingOfBefore : (S E : Type 0) → Type 0
NothingOfBefore S E =
    (r : Rules) (p : Programs S E) (e : E) (vs : List Event) (v : Event) → comes_up v (after r p e vs) ≡ true →
    (is_empty (after r p e vs).server ≡ true) × ((after r p e vs).client.up ≡ false) × ((after r p e vs).server.up ≡ false) × ((after r p e (v ∷ vs)).server.channels ≡ []) × ((after r p e (v ∷ vs)).client.channels ≡ []) ×
    ((after r p e (v ∷ vs)).there ≡ []) × ((after r p e (v ∷ vs)).back ≡ []) × ((after r p e (v ∷ vs)).server.user ≡ None)

-- 2. What came in for a program was typed in its channel, a prefix.
abbrev pub InputIsPrefix : (S E : Type 0) → Type 0
InputIsPrefix S E =
    (r : Rules) → Fair r → (p : Programs S E) (e : E) (vs : List Event) (x : ClientChannel) (f : ServerChannel S) → AtClient x (after r p e vs) → AtServer f (after r p e vs) → x.number ≡ f.number → InputTrue x f

-- 3. What the user has of a channel its program wrote, a prefix; of a channel that never ran the user has nothing.
abbrev pub OutputIsPrefix : (S E : Type 0) → Type 0
OutputIsPrefix S E =
    (r : Rules) → Fair r → (p : Programs S E) (e : E) (vs : List Event) (x : ClientChannel) → AtClient x (after r p e vs) →
    ((f : ServerChannel S) × AtServer f (after r p e vs) × (x.number ≡ f.number) × OutputTrue x f) ⊎ ((x.got ≡ []) × (x.exit ≡ None))

-- What the server forgot while the connection holds was all shown, and its exit told.
abbrev pub ForgottenWasShown : (S E : Type 0) → Type 0
ForgottenWasShown S E =
    (r : Rules) → Fair r → (p : Programs S E) (e : E) (vs : List Event) (x : ClientChannel) (f : ServerChannel S) → AtClient x (after r p e vs) → AtServer f (after r p e vs) → x.number ≡ f.number →
    (after r p e vs).server.up ≡ true → f.forgotten ≡ true → (x.got ≡ f.wrote) × (x.exit ≡ f.exit) × (is_some x.exit ≡ true)

-- A channel is closed only when its exit was told and all output was taken.
abbrev pub ClosedWasTaken : (S E : Type 0) → Type 0
ClosedWasTaken S E =
    (r : Rules) → Fair r → (p : Programs S E) (e : E) (vs : List Event) (x : ClientChannel) → AtClient x (after r p e vs) → x.phase ≡ Closed →
    (x.taken ≡ length x.got) × (is_some x.exit ≡ true) × ((f : ServerChannel S) × AtServer f (after r p e vs) × (x.number ≡ f.number) × (x.got ≡ f.wrote) × (x.exit ≡ f.exit))

-- 4. A program's state and writes are what its own turns give on what it read, which is a prefix of what came in.
abbrev pub RanByItself : (S E : Type 0) → Type 0
RanByItself S E =
    (r : Rules) (p : Programs S E) (e : E) (vs : List Event) (f : ServerChannel S) → AtServer f (after r p e vs) → Ran r p e f.number vs f.command (take f.read f.input) f.wrote f.state f.exit

-- 5. Windows hold, and no more waits to be sent than may.
abbrev pub WindowsHold : (S E : Type 0) → Type 0
WindowsHold S E =
    (r : Rules) → Fair r → (p : Programs S E) (e : E) (vs : List Event) →
    ((x : ClientChannel) (f : ServerChannel S) → AtClient x (after r p e vs) → AtServer f (after r p e vs) → x.number ≡ f.number → InWindow r x f) ×
    ((x : ClientChannel) → AtClient x (after r p e vs) → length x.input ≤ x.sent + r.waiting) ×
    ((f : ServerChannel S) → AtServer f (after r p e vs) → (after r p e vs).server.up ≡ true → length f.wrote ≤ f.sent + r.part)

-- 8. After the cut a program has ended once it had the turns that it had left, at most those of the drain, with its own status or 255.
unfoldable pub turns_of : ℕ → List Event → ℕ
turns_of t [] = 0
turns_of t (User k ∷ vs) = turns_of t vs
turns_of t (Turn u ∷ vs) = cond (u == t) 1 0 + turns_of t vs
turns_of t (ArriveThere ∷ vs) = turns_of t vs
turns_of t (ArriveHere ∷ vs) = turns_of t vs
turns_of t (CutHere ∷ vs) = turns_of t vs
turns_of t (CutThere ∷ vs) = turns_of t vs
turns_of t (Connect ∷ vs) = turns_of t vs
turns_of t (Time ∷ vs) = turns_of t vs

abbrev pub DrainEnds : (S E : Type 0) → Type 0
DrainEnds S E =
    (r : Rules) → Fair r → (p : Programs S E) (e : E) (vs : List Event) → (after r p e vs).server.up ≡ false → (f : ServerChannel S) → AtServer f (after r p e vs) → (f.left ≤ r.drain) ×
    ((fs : List Event) → f.left ≤ turns_of f.number fs → (after r p e (fs ++ vs)).connection ≡ (after r p e vs).connection →
    (g : ServerChannel S) → AtServer g (after r p e (fs ++ vs)) → g.number ≡ f.number → is_some g.exit ≡ true)

abbrev pub StatusInRange : (S E : Type 0) → Type 0
StatusInRange S E = (r : Rules) (p : Programs S E) (e : E) (vs : List Event) (f : ServerChannel S) (n : ℕ) → AtServer f (after r p e vs) → f.exit ≡ Some n → n ≤ 255

-- Once all have ended after the cut, all is forgotten.
abbrev pub AllForgotten : (S E : Type 0) → Type 0
AllForgotten S E = (r : Rules) (p : Programs S E) (e : E) (vs : List Event) → (after r p e vs).server.up ≡ false → every is_over (after r p e vs).server.channels ≡ true → is_empty (after r p e vs).server ≡ true

-- 9. A refused command changes nothing.
abbrev pub RefusedChangesNothing : (S E : Type 0) → Type 0
RefusedChangesNothing S E = (r : Rules) (p : Programs S E) (e : E) (vs : List Event) (k : Command) (why : Refusal) → refusal r k (after r p e vs).client ≡ Some why → after r p e (User k ∷ vs) ≡ after r p e vs
