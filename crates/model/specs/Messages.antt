-- The limits, the messages between client and server, and programs, of which nothing is known. Assumes nothing.
use Rattle.std.specs.Prelude.{ℕ, zero, suc, ◌-◌, ◌<◌, ◌≤◌, Bool, true, false, List, [], ◌∷◌, take, drop, Some, None, Option}

-- window: bytes that each side keeps for one channel; part: the most bytes of a message; most: channels that each side holds;
-- waiting: bytes of input that may wait to be sent; last: the greatest channel number; tries: logins that may fail;
-- drain: turns that a program has after the cut; counts: the greatest count of credit;
-- accepts: in which connection which user is accepted by which proof; may: which user may run which command
pub record Rules : Type 0 where
  pub window : ℕ
  pub part : ℕ
  pub most : ℕ
  pub waiting : ℕ
  pub last : ℕ
  pub tries : ℕ
  pub drain : ℕ
  pub counts : ℕ
  pub accepts : (connection user : ℕ) → (proof : List ℕ) → Bool
  pub may : (user command : ℕ) → Bool

-- the real limits, with any table of users and commands
abbrev pub real : (ℕ → ℕ → List ℕ → Bool) → (ℕ → ℕ → Bool) → Rules
real accepts may = record {
  window = 8192;
  part = 1024;
  most = 16;
  waiting = 16384;
  last = 65535;
  tries = 3;
  drain = 64;
  counts = 0xffff_ffff_ffff_ffff;
  accepts = accepts;
  may = may;
}

-- limits under which the promises hold: no window, part or drain is empty, and a window can be counted
pub record Fair (r : Rules) : Type 0 where
  pub window : 0 < r.window
  pub part : 0 < r.part
  pub drain : 0 < r.drain
  pub counts : r.window ≤ r.counts

-- The real limits are such.
abbrev pub RealIsFair : Type 0
RealIsFair = (accepts : ℕ → ℕ → List ℕ → Bool) (may : ℕ → ℕ → Bool) → Fair (real accepts may)

-- of one channel, to the server: run a command; input; so many more bytes of output may come; no more input; the client is done with it
pub data Request : Type 0 where
  Run : (command : ℕ) → Request
  Input : List ℕ → Request
  OutputCredit : (credit : ℕ) → Request
  Eof : Request
  Close : Request

-- of one channel, to the client: it runs, or it does not; output; so many more bytes of input may come; it ended
pub data Reply : Type 0 where
  Runs : Bool → Reply
  Output : List ℕ → Reply
  InputCredit : (credit : ℕ) → Reply
  Exit : (status : ℕ) → Reply

pub data ToServer : Type 0 where
  Login : (user : ℕ) → (proof : List ℕ) → ToServer
  Tick : ToServer
  For : (channel : ℕ) → Request → ToServer

pub data ToClient : Type 0 where
  Accepted : Bool → ToClient
  Tock : ToClient
  Of : (channel : ℕ) → Reply → ToClient

-- what a side cannot take from the other: it goes down
pub data Fault : Type 0 where
  -- a message that its channel's state rules out
  OutOfTurn : Fault
  -- a credit that cannot be counted
  Uncountable : Fault
  -- a channel that was never started
  NeverStarted : Fault
  -- more bytes than the window
  BeyondWindow : Fault
  -- one login too many that is not accepted
  TooManyTries : Fault

-- its number in the table of faults
abbrev pub fault_number : Fault → ℕ
fault_number OutOfTurn = 3
fault_number Uncountable = 3
fault_number NeverStarted = 4
fault_number BeyondWindow = 4
fault_number TooManyTries = 6

-- what a program does next
pub data Does : Type 0 where
  Reads : (k : ℕ) → Does
  Writes : List ℕ → Does
  Ends : (status : ℕ) → Does
  GoesOn : Does

-- Programs with states S over a shared environment E. first: the state in which a command starts; does: what it does next;
-- next, after: its state and the environment after a turn, told what it read and whether no more will come;
-- release: the environment once a program has ended
pub record Programs (S E : Type 0) : Type 0 where
  pub first : E → (command : ℕ) → S
  pub does : E → S → Does
  pub next : E → S → List ℕ → Bool → S
  pub after : E → S → List ℕ → Bool → E
  pub release : E → S → E

-- what a side does at an event: the side after it, and what it sends
pub record Did (X M : Type 0) : Type 0 where
  pub side : X
  pub sends : List M

abbrev pub did : {X M : Type 0} → X → List M → Did X M
did x ms = record { side = x; sends = ms }

-- bytes in parts of at most so many; the first argument bounds how many parts
unfoldable pub parts : ℕ → ℕ → List ℕ → List (List ℕ)
parts zero p bs = []
parts (suc k) p [] = []
parts (suc k) p (b ∷ bs) = take p (b ∷ bs) ∷ parts k p (drop p (b ∷ bs))

-- as many of `all` as may go, behind the first `sent`
abbrev pub ready : (all : List ℕ) (sent may : ℕ) → List ℕ
ready all sent may = take (may - sent) (drop sent all)

abbrev pub is_some : {A : Type 0} → Option A → Bool
is_some None = false
is_some (Some a) = true
