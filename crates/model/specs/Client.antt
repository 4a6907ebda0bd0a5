-- The client: its channels, what it does at a command of the user and at a message, and what it then sends by itself. Assumes nothing.
use Rattle.std.specs.Prelude.{ℕ, zero, suc, ◌+◌, ◌-◌, min, Bool, true, false, cond, not, ◌&&◌, ◌||◌, List, [], ◌∷◌, ◌++◌, length, Some, None, Ok, Err, Option, Result, ◌==◌, nat_lt}
use Rattle.model.specs.Keyed.{find, change, numbers, count, above, gather, each}
use Rattle.model.specs.Messages.{Rules, Request, Run, Input, OutputCredit, Eof, Close, Reply, Runs, Output, InputCredit, Exit, ToServer, Login, For, ToClient, Accepted, Tock, Of, Fault, OutOfTurn, Uncountable, NeverStarted, BeyondWindow, Did, did, parts, ready, is_some}

-- a channel's life at the client: its start was sent; it was told that it runs; that it does not; its close was sent
pub data Phase : Type 0 where
  Asked : Phase
  Running : Phase
  Refused : Phase
  Closed : Phase

-- input: all that was typed; sent: how much of it was sent; may: how much of it the server had room for in all;
-- eof, said: no more will be typed, and that was sent; got: all output that came; taken: how much of it the user took; exit: the status, if told
pub record ClientChannel : Type 0 where
  pub number : ℕ
  pub command : ℕ
  pub phase : Phase
  pub input : List ℕ
  pub sent : ℕ
  pub may : ℕ
  pub eof : Bool
  pub said : Bool
  pub got : List ℕ
  pub taken : ℕ
  pub exit : Option ℕ

-- channels: all of this connection, in rising order; accepted: whether the client was told that its login is; up: whether the connection holds here
pub record Client : Type 0 where
  pub channels : List ClientChannel
  pub accepted : Bool
  pub up : Bool

abbrev pub client : List ClientChannel → Bool → Bool → Client
client cs a u = record { channels = cs; accepted = a; up = u }

abbrev pub new_client : Client
new_client = client [] false true

abbrev pub number_of : ClientChannel → ℕ
number_of x = x.number

abbrev pub channel_at : ℕ → Client → Option ClientChannel
channel_at t c = find number_of t c.channels

abbrev pub new_channel : (number command : ℕ) → ClientChannel
new_channel t k = record { number = t; command = k; phase = Asked; input = []; sent = 0; may = 0; eof = false; said = false; got = []; taken = 0; exit = None }

-- a channel is held until it is refused or closed
abbrev pub holds : Phase → Bool
holds Asked = true
holds Running = true
holds Refused = false
holds Closed = false

abbrev pub is_held : ClientChannel → Bool
is_held x = holds x.phase

abbrev pub runs : Phase → Bool
runs Asked = false
runs Running = true
runs Refused = false
runs Closed = false

-- What the user does.
pub data Command : Type 0 where
  LogIn : (user : ℕ) → (proof : List ℕ) → Command
  Start : (channel command : ℕ) → Command
  Enter : (channel : ℕ) → List ℕ → Command
  Finish : (channel : ℕ) → Command
  Take : (channel count : ℕ) → Command

-- Why a command is refused: the number is not larger than all that were used, or too large; too many channels are held;
-- the channel is not held; input after eof; more input than may wait; the connection is down
pub data Refusal : Type 0 where
  BadNumber : Refusal
  TooManyHeld : Refusal
  NotHeld : Refusal
  AfterEof : Refusal
  TooMuch : Refusal
  Down : Refusal

-- its number in the table of faults
abbrev pub refusal_number : Refusal → ℕ
refusal_number BadNumber = 5
refusal_number TooManyHeld = 7
refusal_number NotHeld = 8
refusal_number AfterEof = 8
refusal_number TooMuch = 8
refusal_number Down = 8

abbrev pub unless : Bool → Refusal → Option Refusal → Option Refusal
unless true f rest = Some f
unless false f rest = rest

abbrev pub bad_number : Rules → ℕ → Client → Bool
bad_number r t c = not (above t (numbers number_of c.channels)) || nat_lt r.last t

abbrev pub held_count : Client → ℕ
held_count c = count is_held c.channels

abbrev pub found_held : Option ClientChannel → Bool
found_held None = false
found_held (Some x) = is_held x

abbrev pub found_eof : Option ClientChannel → Bool
found_eof None = false
found_eof (Some x) = x.eof

abbrev pub found_full : Rules → ℕ → Option ClientChannel → Bool
found_full r n None = false
found_full r n (Some x) = nat_lt (x.sent + r.waiting) (length x.input + n)

-- whether a command is refused, and why; of several reasons the one that stands first
abbrev pub refusal : Rules → Command → Client → Option Refusal
refusal r (LogIn u p) c = unless (not c.up) Down None
refusal r (Start t k) c = unless (bad_number r t c) BadNumber (unless (not (nat_lt (held_count c) r.most)) TooManyHeld (unless (not c.up) Down None))
refusal r (Enter t bs) c =
    unless (not (found_held (channel_at t c))) NotHeld (unless (not c.up) Down (unless (found_eof (channel_at t c)) AfterEof (unless (found_full r (length bs) (channel_at t c)) TooMuch None)))
refusal r (Finish t) c = unless (not (found_held (channel_at t c))) NotHeld (unless (not c.up) Down (unless (found_eof (channel_at t c)) AfterEof None))
refusal r (Take t k) c = unless (not (found_held (channel_at t c))) NotHeld None

abbrev pub entered : List ℕ → ClientChannel → ClientChannel
entered bs x = record { number = x.number; command = x.command; phase = x.phase; input = x.input ++ bs; sent = x.sent; may = x.may; eof = x.eof; said = x.said; got = x.got; taken = x.taken; exit = x.exit }

abbrev pub finished : ClientChannel → ClientChannel
finished x = record { number = x.number; command = x.command; phase = x.phase; input = x.input; sent = x.sent; may = x.may; eof = true; said = x.said; got = x.got; taken = x.taken; exit = x.exit }

abbrev pub took_more : ℕ → ClientChannel → ClientChannel
took_more n x = record { number = x.number; command = x.command; phase = x.phase; input = x.input; sent = x.sent; may = x.may; eof = x.eof; said = x.said; got = x.got; taken = x.taken + n; exit = x.exit }

-- how many bytes the user gets who would take k
abbrev pub takeable : ℕ → Option ClientChannel → ℕ
takeable k None = 0
takeable k (Some x) = min k (length x.got - x.taken)

abbrev pub output_credit : ℕ → ℕ → List ToServer
output_credit t zero = []
output_credit t (suc n) = For t (OutputCredit (suc n)) ∷ []

abbrev pub with_channels : List ClientChannel → Client → Client
with_channels cs c = client cs c.accepted c.up

-- a command that is not refused
abbrev pub command : Command → Client → Did Client ToServer
command (LogIn u p) c = did c (Login u p ∷ [])
command (Start t k) c = did (with_channels (c.channels ++ new_channel t k ∷ []) c) (For t (Run k) ∷ [])
command (Enter t bs) c = did (with_channels (change number_of t (entered bs) c.channels) c) []
command (Finish t) c = did (with_channels (change number_of t finished c.channels) c) []
command (Take t k) c =
    did (with_channels (change number_of t (took_more (takeable k (channel_at t c))) c.channels) c) (cond c.up (output_credit t (takeable k (channel_at t c))) [])

-- What arrives.
abbrev pub answered : Bool → ClientChannel → ClientChannel
answered b x = record { number = x.number; command = x.command; phase = cond b Running Refused; input = x.input; sent = x.sent; may = x.may; eof = x.eof; said = x.said; got = x.got; taken = x.taken; exit = x.exit }

abbrev pub got_more : List ℕ → ClientChannel → ClientChannel
got_more bs x = record { number = x.number; command = x.command; phase = x.phase; input = x.input; sent = x.sent; may = x.may; eof = x.eof; said = x.said; got = x.got ++ bs; taken = x.taken; exit = x.exit }

abbrev pub may_more : ℕ → ClientChannel → ClientChannel
may_more n x = record { number = x.number; command = x.command; phase = x.phase; input = x.input; sent = x.sent; may = x.may + n; eof = x.eof; said = x.said; got = x.got; taken = x.taken; exit = x.exit }

abbrev pub told_exit : ℕ → ClientChannel → ClientChannel
told_exit s x = record { number = x.number; command = x.command; phase = x.phase; input = x.input; sent = x.sent; may = x.may; eof = x.eof; said = x.said; got = x.got; taken = x.taken; exit = Some s }

-- a channel that waits for its answer takes nothing else
abbrev pub hear_asked : Reply → ClientChannel → Result ClientChannel Fault
hear_asked (Runs b) x = Ok (answered b x)
hear_asked (Output bs) x = Err OutOfTurn
hear_asked (InputCredit n) x = Err OutOfTurn
hear_asked (Exit s) x = Err OutOfTurn

abbrev pub hear_running : Rules → Reply → ClientChannel → Result ClientChannel Fault
hear_running r (Runs b) x = Err OutOfTurn
hear_running r (Output bs) x = cond (is_some x.exit) (Err OutOfTurn) (cond (nat_lt (x.taken + r.window) (length x.got + length bs)) (Err BeyondWindow) (Ok (got_more bs x)))
hear_running r (InputCredit n) x = cond (nat_lt r.counts (x.may - x.sent + n)) (Err Uncountable) (Ok (may_more n x))
hear_running r (Exit s) x = cond (is_some x.exit) (Err OutOfTurn) (Ok (told_exit s x))

-- a message for a channel that was is dropped
abbrev pub hear_in : Rules → Phase → Reply → ClientChannel → Result ClientChannel Fault
hear_in r Asked m x = hear_asked m x
hear_in r Running m x = hear_running r m x
hear_in r Refused m x = Ok x
hear_in r Closed m x = Ok x

abbrev pub hear : Rules → Reply → Option ClientChannel → Result ClientChannel Fault
hear r m None = Err NeverStarted
hear r m (Some x) = hear_in r x.phase m x

-- with the channel as it then is; a fault takes the client down
abbrev pub heard : ℕ → Result ClientChannel Fault → Client → Client
heard t (Ok y) c = with_channels (change number_of t (λ _. y) c.channels) c
heard t (Err f) c = client c.channels c.accepted false

abbrev pub receive : Rules → ToClient → Client → Client
receive r (Accepted b) c = client c.channels (c.accepted || b) c.up
receive r Tock c = c
receive r (Of t m) c = heard t (hear r m (channel_at t c)) c

-- What goes by itself: of a channel that runs its input, as far as there is room, in parts as large as may be; eof, when all went; close, when the exit is known and all was taken.
abbrev pub goes : ClientChannel → List ℕ
goes x = ready x.input x.sent x.may

abbrev pub eof_now : ClientChannel → Bool
eof_now x = x.eof && (x.sent + length (goes x) == length x.input && not x.said)

abbrev pub close_now : ClientChannel → Bool
close_now x = is_some x.exit && x.taken == length x.got

unfoldable pub inputs : List (List ℕ) → List Request
inputs [] = []
inputs (bs ∷ rest) = Input bs ∷ inputs rest

abbrev pub requests : Rules → ClientChannel → List Request
requests r x = cond (runs x.phase) (inputs (parts (length (goes x)) r.part (goes x)) ++ (cond (eof_now x) (Eof ∷ []) [] ++ cond (close_now x) (Close ∷ []) [])) []

abbrev pub flushed_running : ClientChannel → ClientChannel
flushed_running x =
    record {
      number = x.number;
      command = x.command;
      phase = cond (close_now x) Closed x.phase;
      input = x.input;
      sent = x.sent + length (goes x);
      may = x.may;
      eof = x.eof;
      said = x.said || eof_now x;
      got = x.got;
      taken = x.taken;
      exit = x.exit;
    }

abbrev pub flushed : ClientChannel → ClientChannel
flushed x = cond (runs x.phase) (flushed_running x) x

unfoldable pub labelled : ℕ → List Request → List ToServer
labelled t [] = []
labelled t (m ∷ ms) = For t m ∷ labelled t ms

abbrev pub requests_of : Rules → ClientChannel → List ToServer
requests_of r x = labelled x.number (requests r x)

-- a client that is up sends what may be sent, channel by channel in rising order
abbrev pub flush : Rules → Did Client ToServer → Did Client ToServer
flush r d = cond d.side.up
    (did (client (each flushed d.side.channels) d.side.accepted d.side.up) (d.sends ++ gather (requests_of r) d.side.channels))
    d

-- The client at a command, and at a message that arrives.
abbrev pub obey_unless : Rules → Command → Client → Option Refusal → Did Client ToServer
obey_unless r k c None = flush r (command k c)
obey_unless r k c (Some f) = did c []

abbrev pub obey : Rules → Command → Client → Did Client ToServer
obey r k c = obey_unless r k c (refusal r k c)

abbrev pub take_in : Rules → ToClient → Client → Did Client ToServer
take_in r m c = flush r (did (receive r m c) [])

abbrev pub cut_client : Client → Client
cut_client c = client c.channels c.accepted false
