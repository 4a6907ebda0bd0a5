-- What programs share changes only in their turns and when they end. Assumes nothing.
use Rattle.std.proofs.Common.{◌≡◌, ℕ, suc, Bool, true, false, cond, not, ◌&&◌, ◌||◌, eqb, ltb, leb, List, [], ◌∷◌, ◌++◌, length, Some, None, Ok, Err, Option, Result, sym, refl, ◌∙◌, subst}
use Rattle.model.specs.Keyed.{every, each, gather}
use Rattle.model.specs.Messages.{Rules, Request, Run, Input, OutputCredit, Eof, Close, ToServer, Login, Tick, For, ToClient, Accepted, Of, Runs, InputCredit, Fault, Does, Reads, Writes, Ends, GoesOn, Programs, Did, did, is_some}
use Rattle.model.specs.Server.{ServerChannel, Server, Turned, forgot, sent_back, replies_of, channel_of, is_live, is_over, is_part, portion, server, with_all, cut_server, forget_all, flush_back, login_by, start, runs_now, used_now, new_program, whom, pass_to, passed, pass, is_refused, receive_by, turned, ends, reads, writes, doing, drained_by, turn_in, took_turn, turn_of}
use Rattle.model.specs.World.{World, Event, User, Turn, ArriveThere, ArriveHere, CutHere, CutThere, Connect, Time, arrive_there, arrive_here, can_connect, connected, step, after}

module _ {S E : Type 0} (r : Rules) (p : Programs S E) where
  abbrev env_of : Did (Server S E) ToClient → E
  env_of d = d.side.env

  forget-env : (s : Server S E) → (forget_all s).env ≡ s.env
  forget-env s = go (every is_over s.channels)
    where
      go : (b : Bool) → (cond b (with_all (each forgot s.channels) s) s).env ≡ s.env
      go true = refl
      go false = refl

  flush-env : (d : Did (Server S E) ToClient) → env_of (flush_back r d) ≡ env_of d
  flush-env d = go d.side.up
    where
      go : (b : Bool) → env_of (cond b (did (with_all (each sent_back d.side.channels) d.side) (d.sends ++ gather (replies_of r) d.side.channels)) (did (forget_all d.side) d.sends)) ≡ env_of d
      go true = refl
      go false = forget-env d.side

  login-env : (n u : ℕ) (q : List ℕ) (o : Option ℕ) (s : Server S E) → env_of (login_by r n u q o s) ≡ s.env
  login-env n u q (Some v) s = refl
  login-env n u q None s = go (r.accepts n u q) (ltb (suc s.tries) r.tries)
    where
      go : (a b : Bool) → env_of (cond a (did (server s.channels s.used (Some u) s.tries s.env s.up) (Accepted true ∷ [])) (cond b (did (server s.channels s.used None (suc s.tries) s.env s.up) (Accepted false ∷ [])) (did (server s.channels s.used None (suc s.tries) s.env false) []))) ≡ s.env
      go true b = refl
      go false true = refl
      go false false = refl

  start-env : (t k : ℕ) (s : Server S E) → env_of (start r p t k s) ≡ s.env
  start-env t k s = go (runs_now r t k s)
    where
      go : (b : Bool) → env_of (cond b (did (server (s.channels ++ new_program r p t k (whom s.user) s.env ∷ []) (used_now r t s) s.user s.tries s.env s.up) (Of t (Runs true) ∷ (Of t (InputCredit r.window) ∷ []))) (did (server s.channels (used_now r t s) s.user s.tries s.env s.up) (Of t (Runs false) ∷ []))) ≡ s.env
      go true = refl
      go false = refl

  passed-env : (t : ℕ) (x : Result (ServerChannel S) Fault) (s : Server S E) → (passed t x s).env ≡ s.env
  passed-env t (Ok y) s = refl
  passed-env t (Err f) s = refl

  pass-env : (t : ℕ) (m : Request) (s : Server S E) → env_of (pass r t m s) ≡ s.env
  pass-env t m s = go (is_refused t (channel_of t s) s)
    where
      go : (b : Bool) → env_of (cond b (did s []) (did (passed t (pass_to r t m (channel_of t s) s) s) [])) ≡ s.env
      go true = refl
      go false = passed-env t (pass_to r t m (channel_of t s) s) s

  receive-env : (n : ℕ) (m : ToServer) (s : Server S E) → env_of (receive_by r p n m s) ≡ s.env
  receive-env n (Login u q) s = login-env n u q s.user s
  receive-env n Tick s = refl
  receive-env n (For t (Run k)) s = start-env t k s
  receive-env n (For t (Input bs)) s = pass-env t (Input bs) s
  receive-env n (For t (OutputCredit c)) s = pass-env t (OutputCredit c) s
  receive-env n (For t Eof) s = pass-env t Eof s
  receive-env n (For t Close) s = pass-env t Close s

  -- what every turn and every end keeps holds of what is shared, whatever happens
  module _ (P : E → Type 0) (in_turn : (e : E) (s : S) (bs : List ℕ) (eof : Bool) → P e → P (p.after e s bs eof)) (at_end : (e : E) (s : S) → P e → P (p.release e s)) where
    doing-keeps : (up : Bool) (e : E) (x : ServerChannel S) (a : Does) → P e → P (doing r p up e x a).env
    doing-keeps up e x (Reads k) h = go (is_part r k) (ltb 0 (length (portion k x)) || x.eof)
      where
        go : (a b : Bool) → P (cond a (cond b (reads p e x (portion k x)) (turned e x 0)) (ends p e x 255)).env
        go true true = in_turn e x.state (portion k x) (eqb (length (portion k x)) 0) h
        go true false = h
        go false b = at_end e x.state h
    doing-keeps up e x (Writes bs) h = go (is_part r (length bs)) (not up || leb (length x.wrote) x.may)
      where
        go : (a b : Bool) → P (cond a (cond b (writes p e x bs) (turned e x 0)) (ends p e x 255)).env
        go true true = in_turn e x.state [] false h
        go true false = h
        go false b = at_end e x.state h
    doing-keeps up e x (Ends n) h = at_end e x.state h
    doing-keeps up e x GoesOn h = in_turn e x.state [] false h

    drained-keeps : (y : Turned S E) (b : Bool) → P y.env → P (drained_by p y b).env
    drained-keeps y true h = at_end y.env y.channel.state h
    drained-keeps y false h = h

    turn-in-keeps : (up : Bool) (e : E) (x : ServerChannel S) → P e → P (turn_in r p up e x).env
    turn-in-keeps true e x h = doing-keeps true e x (p.does e x.state) h
    turn-in-keeps false e x h =
        drained-keeps (doing r p false e x (p.does e x.state)) (not (is_some (doing r p false e x (p.does e x.state)).channel.exit) && leb (doing r p false e x (p.does e x.state)).channel.left 1)
        (doing-keeps false e x (p.does e x.state) h)

    turn-keeps : (t : ℕ) (o : Option (ServerChannel S)) (s : Server S E) → P s.env → P (env_of (turn_of r p t o s))
    turn-keeps t None s h = h
    turn-keeps t (Some x) s h = go (is_live x)
      where
        go : (b : Bool) → P (env_of (cond b (took_turn t (turn_in r p s.up s.env x) s) (did s [])))
        go true = turn-in-keeps s.up s.env x h
        go false = h

    arrive-keeps : (up : Bool) (ms : List ToServer) (w : World S E) → P w.server.env → P (arrive_there r p up ms w).server.env
    arrive-keeps up [] w h = h
    arrive-keeps true (m ∷ ms) w h = subst P (sym (flush-env (receive_by r p w.connection m w.server) ∙ receive-env w.connection m w.server)) h
    arrive-keeps false (m ∷ ms) w h = h

    here-keeps : (up : Bool) (ms : List ToClient) (w : World S E) → P w.server.env → P (arrive_here r up ms w).server.env
    here-keeps up [] w h = h
    here-keeps true (m ∷ ms) w h = h
    here-keeps false (m ∷ ms) w h = h

    connect-keeps : (b : Bool) (w : World S E) → P w.server.env → P (cond b (connected w) w).server.env
    connect-keeps true w h = h
    connect-keeps false w h = h

    step_keeps : (v : Event) (w : World S E) → P w.server.env → P (step r p v w).server.env
    step_keeps (User k) w h = h
    step_keeps (Turn t) w h = subst P (sym (flush-env (turn_of r p t (channel_of t w.server) w.server))) (turn-keeps t (channel_of t w.server) w.server h)
    step_keeps ArriveThere w h = arrive-keeps w.server.up w.there w h
    step_keeps ArriveHere w h = here-keeps w.client.up w.back w h
    step_keeps CutHere w h = h
    step_keeps CutThere w h = subst P (sym (flush-env (did (cut_server w.server) []))) h
    step_keeps Connect w h = connect-keeps (can_connect w) w h
    step_keeps Time w h = h

    pub shared_keeps : (e : E) (vs : List Event) → P e → P (after r p e vs).server.env
    unfolding after
    shared_keeps e [] h = h
    shared_keeps e (v ∷ vs) h = step_keeps v (after r p e vs) (shared_keeps e vs h)
