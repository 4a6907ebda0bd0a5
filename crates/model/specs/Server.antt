-- The server: its channels with their programs, what it does at a message and in a program's turn, and what it then sends by itself. Assumes nothing.
use Rattle.std.specs.Prelude.{ℕ, zero, suc, ◌+◌, ◌-◌, Bool, true, false, cond, not, ◌&&◌, ◌||◌, List, [], ◌∷◌, ◌++◌, length, take, drop, Some, None, Ok, Err, Option, Result, ◌==◌, nat_le, nat_lt}
use Rattle.model.specs.Keyed.{find, change, count, every, is_in, above, gather, each}
use Rattle.model.specs.Messages.{Rules, Request, Run, Input, OutputCredit, Eof, Close, Reply, Runs, Output, InputCredit, Exit, ToServer, Login, Tick, For, ToClient, Accepted, Of, Fault, OutOfTurn, Uncountable, NeverStarted, BeyondWindow, Does, Reads, Writes, Ends, GoesOn, Programs, Did, did, parts, ready, is_some}

-- user: as whom it runs; state: the program's; input: all that came; read: how much of it the program read; eof: no more will come;
-- wrote: all that the program wrote; sent: how much of it was sent; may: how much of it the client had room for in all;
-- exit, said: its status, if it has ended, and whether that was sent; left: turns that it has left after the cut; forgotten: the server no longer holds it
pub record ServerChannel (S : Type 0) : Type 0 where
  pub number : ℕ
  pub command : ℕ
  pub user : ℕ
  pub state : S
  pub input : List ℕ
  pub read : ℕ
  pub eof : Bool
  pub wrote : List ℕ
  pub sent : ℕ
  pub may : ℕ
  pub exit : Option ℕ
  pub said : Bool
  pub left : ℕ
  pub forgotten : Bool

-- channels: all that ran in this connection, in rising order; used: the numbers of all starts that came; user: who is accepted;
-- tries: logins that were not; env: what programs share; up: whether the connection holds here
pub record Server (S E : Type 0) : Type 0 where
  pub channels : List (ServerChannel S)
  pub used : List ℕ
  pub user : Option ℕ
  pub tries : ℕ
  pub env : E
  pub up : Bool

module _ {S : Type 0} where
  abbrev pub number_at : ServerChannel S → ℕ
  number_at x = x.number

  abbrev pub is_kept : ServerChannel S → Bool
  is_kept x = not x.forgotten

  -- a channel whose program has neither ended nor been forgotten
  abbrev pub is_live : ServerChannel S → Bool
  is_live x = not (x.forgotten || is_some x.exit)

  abbrev pub is_over : ServerChannel S → Bool
  is_over x = not (is_live x)

  -- What arrives for a channel.
  abbrev pub came_in : List ℕ → ServerChannel S → ServerChannel S
  came_in bs x = record { number = x.number; command = x.command; user = x.user; state = x.state; input = x.input ++ bs; read = x.read; eof = x.eof; wrote = x.wrote; sent = x.sent; may = x.may; exit = x.exit; said = x.said; left = x.left; forgotten = x.forgotten }

  abbrev pub may_send : ℕ → ServerChannel S → ServerChannel S
  may_send n x = record { number = x.number; command = x.command; user = x.user; state = x.state; input = x.input; read = x.read; eof = x.eof; wrote = x.wrote; sent = x.sent; may = x.may + n; exit = x.exit; said = x.said; left = x.left; forgotten = x.forgotten }

  abbrev pub no_more : ServerChannel S → ServerChannel S
  no_more x = record { number = x.number; command = x.command; user = x.user; state = x.state; input = x.input; read = x.read; eof = true; wrote = x.wrote; sent = x.sent; may = x.may; exit = x.exit; said = x.said; left = x.left; forgotten = x.forgotten }

  abbrev pub forgot : ServerChannel S → ServerChannel S
  forgot x = record { number = x.number; command = x.command; user = x.user; state = x.state; input = x.input; read = x.read; eof = x.eof; wrote = x.wrote; sent = x.sent; may = x.may; exit = x.exit; said = x.said; left = x.left; forgotten = true }

  abbrev pub hear_kept : Rules → Request → ServerChannel S → Result (ServerChannel S) Fault
  hear_kept r (Run k) x = Err OutOfTurn
  hear_kept r (Input bs) x = cond x.eof (Err OutOfTurn) (cond (nat_lt (x.read + r.window) (length x.input + length bs)) (Err BeyondWindow) (Ok (came_in bs x)))
  hear_kept r (OutputCredit n) x = cond (nat_lt r.counts (x.may - x.sent + n)) (Err Uncountable) (Ok (may_send n x))
  hear_kept r Eof x = cond x.eof (Err OutOfTurn) (Ok (no_more x))
  hear_kept r Close x = cond x.said (Ok (forgot x)) (Err OutOfTurn)

  -- a message for a channel that was is dropped
  abbrev pub hear_at : Rules → Request → ServerChannel S → Result (ServerChannel S) Fault
  hear_at r m x = cond x.forgotten (Ok x) (hear_kept r m x)

  -- A program's turn.
  abbrev pub wrote_more : List ℕ → S → ServerChannel S → ServerChannel S
  wrote_more bs s x = record { number = x.number; command = x.command; user = x.user; state = s; input = x.input; read = x.read; eof = x.eof; wrote = x.wrote ++ bs; sent = x.sent; may = x.may; exit = x.exit; said = x.said; left = x.left; forgotten = x.forgotten }

  abbrev pub read_more : ℕ → S → ServerChannel S → ServerChannel S
  read_more n s x = record { number = x.number; command = x.command; user = x.user; state = s; input = x.input; read = x.read + n; eof = x.eof; wrote = x.wrote; sent = x.sent; may = x.may; exit = x.exit; said = x.said; left = x.left; forgotten = x.forgotten }

  abbrev pub ended : ℕ → ServerChannel S → ServerChannel S
  ended n x = record { number = x.number; command = x.command; user = x.user; state = x.state; input = x.input; read = x.read; eof = x.eof; wrote = x.wrote; sent = x.sent; may = x.may; exit = Some n; said = x.said; left = x.left; forgotten = x.forgotten }

  abbrev pub counted : ServerChannel S → ServerChannel S
  counted x = record { number = x.number; command = x.command; user = x.user; state = x.state; input = x.input; read = x.read; eof = x.eof; wrote = x.wrote; sent = x.sent; may = x.may; exit = x.exit; said = x.said; left = x.left - 1; forgotten = x.forgotten }

  -- what a program gets that reads up to k bytes
  abbrev pub portion : ℕ → ServerChannel S → List ℕ
  portion k x = take k (drop x.read x.input)

  -- What goes by itself: output, as far as there is room, in parts as large as may be; the exit, when all went.
  abbrev pub goes_back : ServerChannel S → List ℕ
  goes_back x = ready x.wrote x.sent x.may

  abbrev pub exit_now : ServerChannel S → Bool
  exit_now x = x.sent + length (goes_back x) == length x.wrote && not x.said

abbrev pub exit_reply : Bool → Option ℕ → List Reply
exit_reply b None = []
exit_reply b (Some n) = cond b (Exit n ∷ []) []

abbrev pub may_run : Rules → ℕ → Option ℕ → Bool
may_run r k None = false
may_run r k (Some u) = r.may u k

abbrev pub whom : Option ℕ → ℕ
whom None = 0
whom (Some u) = u

-- a length that a read or a write may have
abbrev pub is_part : Rules → ℕ → Bool
is_part r n = nat_lt 0 n && nat_le n r.part

abbrev pub input_credit : Bool → ℕ → ℕ → List ToClient
input_credit up t zero = []
input_credit up t (suc n) = cond up (Of t (InputCredit (suc n)) ∷ []) []

unfoldable pub outputs : List (List ℕ) → List Reply
outputs [] = []
outputs (bs ∷ rest) = Output bs ∷ outputs rest

unfoldable pub returned : ℕ → List Reply → List ToClient
returned t [] = []
returned t (m ∷ ms) = Of t m ∷ returned t ms

module _ {S : Type 0} where
  abbrev pub replies : Rules → ServerChannel S → List Reply
  replies r x = cond x.forgotten [] (outputs (parts (length (goes_back x)) r.part (goes_back x)) ++ exit_reply (exit_now x) x.exit)

  abbrev pub sent_kept : ServerChannel S → ServerChannel S
  sent_kept x =
      record {
        number = x.number;
        command = x.command;
        user = x.user;
        state = x.state;
        input = x.input;
        read = x.read;
        eof = x.eof;
        wrote = x.wrote;
        sent = x.sent + length (goes_back x);
        may = x.may;
        exit = x.exit;
        said = x.said || (exit_now x && is_some x.exit);
        left = x.left;
        forgotten = x.forgotten;
      }

  abbrev pub sent_back : ServerChannel S → ServerChannel S
  sent_back x = cond x.forgotten x (sent_kept x)

  abbrev pub replies_of : Rules → ServerChannel S → List ToClient
  replies_of r x = returned x.number (replies r x)

-- what a turn leaves: the environment, the channel, and how much was read
pub record Turned (S E : Type 0) : Type 0 where
  pub env : E
  pub channel : ServerChannel S
  pub freed : ℕ

module _ {S E : Type 0} where
  abbrev pub server : List (ServerChannel S) → List ℕ → Option ℕ → ℕ → E → Bool → Server S E
  server cs used u n e up = record { channels = cs; used = used; user = u; tries = n; env = e; up = up }

  abbrev pub new_server : E → Server S E
  new_server e = server [] [] None 0 e true

  abbrev pub channel_of : ℕ → Server S E → Option (ServerChannel S)
  channel_of t s = find number_at t s.channels

  abbrev pub with_all : List (ServerChannel S) → Server S E → Server S E
  with_all cs s = server cs s.used s.user s.tries s.env s.up

  abbrev pub cut_server : Server S E → Server S E
  cut_server s = server s.channels s.used s.user s.tries s.env false

  -- A login: accepted if nobody is and the proof is right; else a try, the last of which takes the server down.
  abbrev pub login_by : Rules → (connection user : ℕ) → List ℕ → Option ℕ → Server S E → Did (Server S E) ToClient
  login_by r n u p (Some v) s = did s (Accepted false ∷ [])
  login_by r n u p None s = cond (r.accepts n u p)
      (did (server s.channels s.used (Some u) s.tries s.env s.up) (Accepted true ∷ []))
      (cond (nat_lt (suc s.tries) r.tries)
      (did (server s.channels s.used None (suc s.tries) s.env s.up) (Accepted false ∷ []))
      (did (server s.channels s.used None (suc s.tries) s.env false) []))

  -- A start: it runs if its number is larger than all before, somebody is accepted who may, and there is room.
  abbrev pub new_program : Rules → Programs S E → (number command user : ℕ) → E → ServerChannel S
  new_program r p t k u e = record { number = t; command = k; user = u; state = p.first e k; input = []; read = 0; eof = false; wrote = []; sent = 0; may = r.window; exit = None; said = false; left = r.drain; forgotten = false }

  abbrev pub bad_start : Rules → ℕ → Server S E → Bool
  bad_start r t s = not (above t s.used) || nat_lt r.last t

  abbrev pub kept_count : Server S E → ℕ
  kept_count s = count is_kept s.channels

  abbrev pub runs_now : Rules → (number command : ℕ) → Server S E → Bool
  runs_now r t k s = not (bad_start r t s) && (may_run r k s.user && nat_lt (kept_count s) r.most)

  abbrev pub used_now : Rules → ℕ → Server S E → List ℕ
  used_now r t s = cond (bad_start r t s) s.used (s.used ++ t ∷ [])

  abbrev pub start : Rules → Programs S E → (number command : ℕ) → Server S E → Did (Server S E) ToClient
  start r p t k s = cond (runs_now r t k s)
      (did (server (s.channels ++ new_program r p t k (whom s.user) s.env ∷ []) (used_now r t s) s.user s.tries s.env s.up) (Of t (Runs true) ∷ (Of t (InputCredit r.window) ∷ [])))
      (did (server s.channels (used_now r t s) s.user s.tries s.env s.up) (Of t (Runs false) ∷ []))

  -- Anything else of a channel: of one that runs it is taken in; of one that was refused it is dropped; of one that never was it is a fault.
  abbrev pub pass_to : Rules → ℕ → Request → Option (ServerChannel S) → Server S E → Result (ServerChannel S) Fault
  pass_to r t m None s = Err NeverStarted
  pass_to r t m (Some x) s = hear_at r m x

  abbrev pub passed : ℕ → Result (ServerChannel S) Fault → Server S E → Server S E
  passed t (Ok y) s = with_all (change number_at t (λ _. y) s.channels) s
  passed t (Err f) s = cut_server s

  abbrev pub is_refused : ℕ → Option (ServerChannel S) → Server S E → Bool
  is_refused t None s = is_in t s.used
  is_refused t (Some x) s = false

  abbrev pub pass : Rules → ℕ → Request → Server S E → Did (Server S E) ToClient
  pass r t m s = cond (is_refused t (channel_of t s) s) (did s []) (did (passed t (pass_to r t m (channel_of t s) s) s) [])

  abbrev pub for_channel : Rules → Programs S E → ℕ → Request → Server S E → Did (Server S E) ToClient
  for_channel r p t (Run k) s = start r p t k s
  for_channel r p t (Input bs) s = pass r t (Input bs) s
  for_channel r p t (OutputCredit n) s = pass r t (OutputCredit n) s
  for_channel r p t Eof s = pass r t Eof s
  for_channel r p t Close s = pass r t Close s

  abbrev pub receive_by : Rules → Programs S E → (connection : ℕ) → ToServer → Server S E → Did (Server S E) ToClient
  receive_by r p n (Login u q) s = login_by r n u q s.user s
  receive_by r p n Tick s = did s []
  receive_by r p n (For t m) s = for_channel r p t m s

  -- A turn of a program that runs.
  abbrev pub turned : E → ServerChannel S → ℕ → Turned S E
  turned e x n = record { env = e; channel = x; freed = n }

  abbrev pub ends : Programs S E → E → ServerChannel S → ℕ → Turned S E
  ends p e x n = turned (p.release e x.state) (ended n x) 0

  abbrev pub reads : Programs S E → E → ServerChannel S → List ℕ → Turned S E
  reads p e x bs = turned (p.after e x.state bs (length bs == 0)) (read_more (length bs) (p.next e x.state bs (length bs == 0)) x) (length bs)

  abbrev pub writes : Programs S E → E → ServerChannel S → List ℕ → Turned S E
  writes p e x bs = turned (p.after e x.state [] false) (wrote_more bs (p.next e x.state [] false) x) 0

  -- a program that asks for what cannot be is ended with 255; one that reads where nothing is waits, unless no more will come;
  -- one that writes waits while more is written than may be sent, unless that goes nowhere
  abbrev pub doing : Rules → Programs S E → (up : Bool) → E → ServerChannel S → Does → Turned S E
  doing r p up e x (Reads k) = cond (is_part r k) (cond (nat_lt 0 (length (portion k x)) || x.eof) (reads p e x (portion k x)) (turned e x 0)) (ends p e x 255)
  doing r p up e x (Writes bs) = cond (is_part r (length bs)) (cond (not up || nat_le (length x.wrote) x.may) (writes p e x bs) (turned e x 0)) (ends p e x 255)
  doing r p up e x (Ends n) = ends p e x (cond (nat_le n 255) n 255)
  doing r p up e x GoesOn = writes p e x []

  -- after the cut a turn counts, and the last one ends the program
  abbrev pub drained_by : Programs S E → Turned S E → Bool → Turned S E
  drained_by p y true = ends p y.env (counted y.channel) 255
  drained_by p y false = turned y.env (counted y.channel) 0

  abbrev pub drained : Programs S E → Turned S E → Turned S E
  drained p y = drained_by p y (not (is_some y.channel.exit) && nat_le y.channel.left 1)

  abbrev pub turn_in : Rules → Programs S E → (up : Bool) → E → ServerChannel S → Turned S E
  turn_in r p true e x = doing r p true e x (p.does e x.state)
  turn_in r p false e x = drained p (doing r p false e x (p.does e x.state))

  abbrev pub took_turn : ℕ → Turned S E → Server S E → Did (Server S E) ToClient
  took_turn t y s = did (server (change number_at t (λ _. y.channel) s.channels) s.used s.user s.tries y.env s.up) (input_credit s.up t y.freed)

  abbrev pub turn_of : Rules → Programs S E → ℕ → Option (ServerChannel S) → Server S E → Did (Server S E) ToClient
  turn_of r p t None s = did s []
  turn_of r p t (Some x) s = cond (is_live x) (took_turn t (turn_in r p s.up s.env x) s) (did s [])

  -- A server that is up sends what may be sent, channel by channel in rising order; one that is down forgets all once all have ended.
  abbrev pub forget_all : Server S E → Server S E
  forget_all s = cond (every is_over s.channels) (with_all (each forgot s.channels) s) s

  abbrev pub flush_back : Rules → Did (Server S E) ToClient → Did (Server S E) ToClient
  flush_back r d = cond d.side.up (did (with_all (each sent_back d.side.channels) d.side) (d.sends ++ gather (replies_of r) d.side.channels)) (did (forget_all d.side) d.sends)

  -- The server at a message that arrives, in a turn, and when it learns of a cut.
  abbrev pub serve : Rules → Programs S E → (connection : ℕ) → ToServer → Server S E → Did (Server S E) ToClient
  serve r p n m s = flush_back r (receive_by r p n m s)

  abbrev pub turn : Rules → Programs S E → ℕ → Server S E → Did (Server S E) ToClient
  turn r p t s = flush_back r (turn_of r p t (channel_of t s) s)

  abbrev pub lose : Rules → Server S E → Did (Server S E) ToClient
  lose r s = flush_back r (did (cut_server s) [])

  -- nothing of a connection is left
  abbrev pub is_empty : Server S E → Bool
  is_empty s = every (λ x. x.forgotten) s.channels
