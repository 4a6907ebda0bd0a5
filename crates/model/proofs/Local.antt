-- What is known of one channel: of its two ends and its messages on the way. Assumes nothing.
use Rattle.std.proofs.Common.{◌≡◌, ℕ, ◌+◌, ◌≤◌, Bool, true, false, ◌||◌, ◌⊎◌, List, [], ◌∷◌, ◌++◌, length, Some, None, Option, refl, ap, arith}
use Rattle.model.specs.Messages.{Rules, Request, Run, Input, OutputCredit, Eof, Close, Reply, Runs, Output, InputCredit, Exit, is_some}
use Rattle.model.specs.Client.{ClientChannel, Phase, Asked, Running, Refused, Closed}
use Rattle.model.specs.Server.{ServerChannel}
use Rattle.model.proofs.Flow.{Cell, Piece, Last, lasts, Flow}

unfoldable pub cells_in : List Request → List Cell
cells_in [] = []
cells_in (Run k ∷ ms) = cells_in ms
cells_in (Input bs ∷ ms) = Piece bs ∷ cells_in ms
cells_in (OutputCredit n ∷ ms) = cells_in ms
cells_in (Eof ∷ ms) = Last 0 ∷ cells_in ms
cells_in (Close ∷ ms) = cells_in ms

unfoldable pub cells_out : List Reply → List Cell
cells_out [] = []
cells_out (Runs b ∷ ms) = cells_out ms
cells_out (Output bs ∷ ms) = Piece bs ∷ cells_out ms
cells_out (InputCredit n ∷ ms) = cells_out ms
cells_out (Exit n ∷ ms) = Last n ∷ cells_out ms

-- credit on the way
unfoldable pub credits_up : List Request → ℕ
credits_up [] = 0
credits_up (Run k ∷ ms) = credits_up ms
credits_up (Input bs ∷ ms) = credits_up ms
credits_up (OutputCredit n ∷ ms) = n + credits_up ms
credits_up (Eof ∷ ms) = credits_up ms
credits_up (Close ∷ ms) = credits_up ms

unfoldable pub credits_back : List Reply → ℕ
credits_back [] = 0
credits_back (Runs b ∷ ms) = credits_back ms
credits_back (Output bs ∷ ms) = credits_back ms
credits_back (InputCredit n ∷ ms) = n + credits_back ms
credits_back (Exit n ∷ ms) = credits_back ms

unfoldable pub has_close : List Request → Bool
has_close [] = false
has_close (Run k ∷ ms) = has_close ms
has_close (Input bs ∷ ms) = has_close ms
has_close (OutputCredit n ∷ ms) = has_close ms
has_close (Eof ∷ ms) = has_close ms
has_close (Close ∷ ms) = true

-- no start is among them, and nothing stands behind a close
unfoldable pub Begun : List Request → Type 0
Begun [] = Unit {0}
Begun (Run k ∷ ms) = ⊥
Begun (Input bs ∷ ms) = Begun ms
Begun (OutputCredit n ∷ ms) = Begun ms
Begun (Eof ∷ ms) = Begun ms
Begun (Close ∷ ms) = ms ≡ []

-- no answer to a start is among them, and nothing stands behind an exit
unfoldable pub Answered : List Reply → Type 0
Answered [] = Unit {0}
Answered (Runs b ∷ ms) = ⊥
Answered (Output bs ∷ ms) = Answered ms
Answered (InputCredit n ∷ ms) = Answered ms
Answered (Exit n ∷ ms) = ms ≡ []

-- one window, s being sent, m that may be, k taken of what was heard: what was sent stays within what may be, and that within the window behind what was taken; exactly there while the taker is up
pub record Window (size s m credits heard k : ℕ) (up : Bool) : Type 0 where
  pub within : m + credits ≤ size + k
  pub exact : up ≡ true → m + credits ≡ size + k
  pub sent : s ≤ m
  pub taken : k ≤ heard

-- eof as an end
abbrev pub eofs : Bool → Option ℕ
eofs true = Some 0
eofs false = None

-- a channel of which nothing but its start was sent, and nothing came
pub record Fresh (x : ClientChannel) : Type 0 where
  pub sent : x.sent ≡ 0
  pub may : x.may ≡ 0
  pub said : x.said ≡ false
  pub got : x.got ≡ []
  pub taken : x.taken ≡ 0
  pub exit : x.exit ≡ None

-- a channel at the client alone: its start is on the way, or that it does not run, or that came
abbrev pub AloneIn : Phase → ClientChannel → List Request → List Reply → Type 0
AloneIn Asked x us ds = ((us ≡ Run x.command ∷ []) × (ds ≡ [])) ⊎ ((us ≡ []) × (ds ≡ Runs false ∷ []))
AloneIn Running x us ds = ⊥
AloneIn Refused x us ds = (us ≡ []) × (ds ≡ [])
AloneIn Closed x us ds = ⊥

module _ {S : Type 0} where
  -- it was told that it runs by a message that is on the way
  pub record AskedOk (sup : Bool) (x : ClientChannel) (f : ServerChannel S) (us : List Request) (ds : List Reply) : Type 0 where
    pub fresh : Fresh x
    pub none-there : us ≡ []
    pub rest : List Reply
    pub answer : ds ≡ Runs true ∷ rest
    pub answered : Answered rest
    pub kept : sup ≡ true → f.forgotten ≡ false

  pub record RunningOk (sup : Bool) (x : ClientChannel) (f : ServerChannel S) (us : List Request) (ds : List Reply) : Type 0 where
    pub answered : Answered ds
    pub told : is_some x.exit ≡ true → ds ≡ []
    pub open-yet : has_close us ≡ false
    pub kept : sup ≡ true → f.forgotten ≡ false

  pub record ClosedOk (sup : Bool) (x : ClientChannel) (f : ServerChannel S) (us : List Request) (ds : List Reply) : Type 0 where
    pub none-back : ds ≡ []
    pub told : is_some x.exit ≡ true
    pub all : x.taken ≡ length x.got
    pub gone : sup ≡ true → f.forgotten ≡ true → us ≡ []
    pub close : sup ≡ true → f.forgotten ≡ false → has_close us ≡ true

  abbrev pub InPhase : Phase → Bool → ClientChannel → ServerChannel S → List Request → List Reply → Type 0
  InPhase Asked sup x f us ds = AskedOk sup x f us ds
  InPhase Running sup x f us ds = RunningOk sup x f us ds
  InPhase Refused sup x f us ds = ⊥
  InPhase Closed sup x f us ds = ClosedOk sup x f us ds

  -- a channel at both sides; cup, sup: whether client and server are up
  pub record Pair (r : Rules) (cup sup : Bool) (x : ClientChannel) (f : ServerChannel S) (us : List Request) (ds : List Reply) : Type 0 where
    pub command : x.command ≡ f.command
    pub input : Flow x.input x.sent (eofs x.eof) x.said (cells_in us) f.input (eofs f.eof)
    pub output : Flow f.wrote f.sent f.exit f.said (cells_out ds) x.got x.exit
    pub in_window : Window r.window x.sent x.may (credits_back ds) (length f.input) f.read sup
    pub out_window : Window r.window f.sent f.may (credits_up us) (length x.got) x.taken cup
    pub begun : Begun us
    pub phase : InPhase x.phase sup x f us ds

  abbrev pub Local : Rules → Bool → Bool → Option ClientChannel → Option (ServerChannel S) → List Request → List Reply → Type 0
  Local r cup sup None None us ds = (us ≡ []) × (ds ≡ [])
  Local r cup sup None (Some f) us ds = ⊥
  Local r cup sup (Some x) None us ds = Fresh x × AloneIn x.phase x us ds
  Local r cup sup (Some x) (Some f) us ds = Pair r cup sup x f us ds

pub cells_in-append : (a b : List Request) → cells_in (a ++ b) ≡ cells_in a ++ cells_in b
unfolding cells_in
cells_in-append [] b = refl
cells_in-append (Run k ∷ ms) b = cells_in-append ms b
cells_in-append (Input bs ∷ ms) b = ap (λ l. Piece bs ∷ l) (cells_in-append ms b)
cells_in-append (OutputCredit n ∷ ms) b = cells_in-append ms b
cells_in-append (Eof ∷ ms) b = ap (λ l. Last 0 ∷ l) (cells_in-append ms b)
cells_in-append (Close ∷ ms) b = cells_in-append ms b

pub cells_out-append : (a b : List Reply) → cells_out (a ++ b) ≡ cells_out a ++ cells_out b
unfolding cells_out
cells_out-append [] b = refl
cells_out-append (Runs k ∷ ms) b = cells_out-append ms b
cells_out-append (Output bs ∷ ms) b = ap (λ l. Piece bs ∷ l) (cells_out-append ms b)
cells_out-append (InputCredit n ∷ ms) b = cells_out-append ms b
cells_out-append (Exit n ∷ ms) b = ap (λ l. Last n ∷ l) (cells_out-append ms b)

pub credits_up-append : (a b : List Request) → credits_up (a ++ b) ≡ credits_up a + credits_up b
unfolding credits_up
credits_up-append [] b = omega arith
credits_up-append (Run k ∷ ms) b = credits_up-append ms b
credits_up-append (Input bs ∷ ms) b = credits_up-append ms b
credits_up-append (OutputCredit n ∷ ms) b = let ih = credits_up-append ms b in omega arith
credits_up-append (Eof ∷ ms) b = credits_up-append ms b
credits_up-append (Close ∷ ms) b = credits_up-append ms b

pub credits_back-append : (a b : List Reply) → credits_back (a ++ b) ≡ credits_back a + credits_back b
unfolding credits_back
credits_back-append [] b = omega arith
credits_back-append (Runs k ∷ ms) b = credits_back-append ms b
credits_back-append (Output bs ∷ ms) b = credits_back-append ms b
credits_back-append (InputCredit n ∷ ms) b = let ih = credits_back-append ms b in omega arith
credits_back-append (Exit n ∷ ms) b = credits_back-append ms b

pub has_close-append : (a b : List Request) → has_close (a ++ b) ≡ (has_close a || has_close b)
unfolding has_close
has_close-append [] b = refl
has_close-append (Run k ∷ ms) b = has_close-append ms b
has_close-append (Input bs ∷ ms) b = has_close-append ms b
has_close-append (OutputCredit n ∷ ms) b = has_close-append ms b
has_close-append (Eof ∷ ms) b = has_close-append ms b
has_close-append (Close ∷ ms) b = refl

pub begun-append : (a b : List Request) → has_close a ≡ false → Begun a → Begun b → Begun (a ++ b)
unfolding has_close Begun
begun-append [] b c h g = g
begun-append (Run k ∷ ms) b c h g = absurd h
begun-append (Input bs ∷ ms) b c h g = begun-append ms b c h g
begun-append (OutputCredit n ∷ ms) b c h g = begun-append ms b c h g
begun-append (Eof ∷ ms) b c h g = begun-append ms b c h g
begun-append (Close ∷ ms) b c h g = absurd (let z : ◌≡◌ {A = ℕ} 0 1 = cc in omega arith)

pub answered-append : (a b : List Reply) → lasts (cells_out a) ≡ [] → Answered a → Answered b → Answered (a ++ b)
unfolding cells_out lasts Answered
answered-append [] b c h g = g
answered-append (Runs k ∷ ms) b c h g = absurd h
answered-append (Output bs ∷ ms) b c h g = answered-append ms b c h g
answered-append (InputCredit n ∷ ms) b c h g = answered-append ms b c h g
answered-append (Exit n ∷ ms) b c h g = absurd (let z : ◌≡◌ {A = ℕ} 0 1 = cc in omega arith)
