-- Whoever has a channel at the server was accepted. Assumes nothing.
use Rattle.std.proofs.Common.{◌≡◌, ℕ, suc, Bool, true, false, cond, not, ◌&&◌, ltb, ◌⊎◌, List, [], ◌∷◌, ◌++◌, Some, None, Ok, Err, Option, Result, sym, refl, ap, ◌∙◌, subst, inl, inr, arith}
use Rattle.std.proofs.lemmas.Bool.{true≢false, and_parts}
use Rattle.model.specs.Keyed.{find, change, every, gather, each}
use Rattle.model.specs.Messages.{Rules, Request, Run, Input, OutputCredit, Eof, Close, ToServer, Login, Tick, For, ToClient, Accepted, Of, Runs, InputCredit, Programs, Did, did, Fault, is_some}
use Rattle.model.specs.Server.{Server, ServerChannel, server, number_at, channel_of, replies_of, sent_back, forgot, is_live, is_over, flush_back, with_all, cut_server, pass_to, passed, pass, is_refused, may_run, bad_start, kept_count, receive_by, login_by, start, runs_now, used_now, new_program, whom, turn_of, turn_in, took_turn}
use Rattle.model.specs.World.{World, Event, User, Turn, ArriveThere, ArriveHere, CutHere, CutThere, Connect, Time, after, step, arrive_there, arrive_here, can_connect, connected}

abbrev HasUser : {S : Type 0} → List (ServerChannel S) → Option ℕ → Type 0
HasUser cs o = (cs ≡ []) ⊎ (is_some o ≡ true)

module _ {S : Type 0} where
  each-fine : (g : ServerChannel S → ServerChannel S) (cs : List (ServerChannel S)) (o : Option ℕ) → HasUser cs o → HasUser (each g cs) o
  unfolding each
  each-fine g cs o (inl e) = inl (ap (each g) e)
  each-fine g cs o (inr e) = inr e

  change-fine : (t : ℕ) (g : ServerChannel S → ServerChannel S) (cs : List (ServerChannel S)) (o : Option ℕ) → HasUser cs o → HasUser (change number_at t g cs) o
  unfolding change
  change-fine t g cs o (inl e) = inl (ap (change number_at t g) e)
  change-fine t g cs o (inr e) = inr e

may-some : (r : Rules) (k : ℕ) (o : Option ℕ) → may_run r k o ≡ true → is_some o ≡ true
may-some r k None e = absurd (true≢false (sym e))
may-some r k (Some u) e = refl

module _ {S E : Type 0} where
  abbrev Fine : Server S E → Type 0
  Fine s = HasUser s.channels s.user

  flush-fine : (r : Rules) (d : Did (Server S E) ToClient) → Fine d.side → Fine (flush_back r d).side
  flush-fine r d h = go d.side.up (every is_over d.side.channels)
    where
      go : (b c : Bool) → Fine (cond b (did (with_all (each sent_back d.side.channels) d.side) (d.sends ++ gather (replies_of r) d.side.channels)) (did (cond c (with_all (each forgot d.side.channels) d.side) d.side) d.sends)).side
      go true c = each-fine sent_back d.side.channels d.side.user h
      go false true = each-fine forgot d.side.channels d.side.user h
      go false false = h

  login-fine : (r : Rules) (n u : ℕ) (q : List ℕ) (o : Option ℕ) (s : Server S E) → s.user ≡ o → Fine s → Fine (login_by r n u q o s).side
  login-fine r n u q (Some v) s e h = h
  login-fine r n u q None s e h = go (r.accepts n u q) (ltb (suc s.tries) r.tries)
    where
      h2 : HasUser s.channels None
      h2 = subst (λ (o : Option ℕ). HasUser s.channels o) e h

      go : (a b : Bool) → Fine (cond a (did (server s.channels s.used (Some u) s.tries s.env s.up) (Accepted true ∷ []))
          (cond b (did (server s.channels s.used None (suc s.tries) s.env s.up) (Accepted false ∷ [])) (did (server s.channels s.used None (suc s.tries) s.env false) []))).side
      go true b = inr refl
      go false true = h2
      go false false = h2

  start_fine : (r : Rules) (p : Programs S E) (t k : ℕ) (s : Server S E) → Fine s → Fine (start r p t k s).side
  start_fine r p t k s h = go (runs_now r t k s) refl
    where
      go : (b : Bool) → runs_now r t k s ≡ b → Fine (cond b
          (did (server (s.channels ++ new_program r p t k (whom s.user) s.env ∷ []) (used_now r t s) s.user s.tries s.env s.up) (Of t (Runs true) ∷ (Of t (InputCredit r.window) ∷ [])))
          (did (server s.channels (used_now r t s) s.user s.tries s.env s.up) (Of t (Runs false) ∷ []))).side
      go true e = inr (may-some r k s.user (and_parts (may_run r k s.user) (ltb (kept_count s) r.most) (and_parts (not (bad_start r t s)) (may_run r k s.user && ltb (kept_count s) r.most) e).1).0)
      go false e = h

  passed-fine : (t : ℕ) (w : Result (ServerChannel S) Fault) (s : Server S E) → Fine s → Fine (passed t w s)
  passed-fine t (Ok y) s h = change-fine t (λ _. y) s.channels s.user h
  passed-fine t (Err f) s h = h

  pass-fine : (r : Rules) (t : ℕ) (m : Request) (s : Server S E) → Fine s → Fine (pass r t m s).side
  pass-fine r t m s h = go (is_refused t (channel_of t s) s)
    where
      go : (b : Bool) → Fine (cond b (did {M = ToClient} s []) (did (passed t (pass_to r t m (channel_of t s) s) s) [])).side
      go true = h
      go false = passed-fine t (pass_to r t m (channel_of t s) s) s h

  receive-fine : (r : Rules) (p : Programs S E) (n : ℕ) (m : ToServer) (s : Server S E) → Fine s → Fine (receive_by r p n m s).side
  receive-fine r p n (Login u q) s h = login-fine r n u q s.user s refl h
  receive-fine r p n Tick s h = h
  receive-fine r p n (For t (Run k)) s h = start_fine r p t k s h
  receive-fine r p n (For t (Input bs)) s h = pass-fine r t (Input bs) s h
  receive-fine r p n (For t (OutputCredit k)) s h = pass-fine r t (OutputCredit k) s h
  receive-fine r p n (For t Eof) s h = pass-fine r t Eof s h
  receive-fine r p n (For t Close) s h = pass-fine r t Close s h

  turn-fine : (r : Rules) (p : Programs S E) (t : ℕ) (o : Option (ServerChannel S)) (s : Server S E) → Fine s → Fine (turn_of r p t o s).side
  turn-fine r p t None s h = h
  turn-fine r p t (Some x) s h = go (is_live x)
    where
      go : (b : Bool) → Fine (cond b (took_turn t (turn_in r p s.up s.env x) s) (did s [])).side
      go true = change-fine t (λ _. (turn_in r p s.up s.env x).channel) s.channels s.user h
      go false = h

  there-fine : (r : Rules) (p : Programs S E) (u : Bool) (l : List ToServer) (w : World S E) → Fine w.server → Fine (arrive_there r p u l w).server
  there-fine r p u [] w h = h
  there-fine r p true (m ∷ ms) w h = flush-fine r (receive_by r p w.connection m w.server) (receive-fine r p w.connection m w.server h)
  there-fine r p false (m ∷ ms) w h = h

  here-fine : (r : Rules) (u : Bool) (l : List ToClient) (w : World S E) → Fine w.server → Fine (arrive_here r u l w).server
  here-fine r u [] w h = h
  here-fine r true (m ∷ ms) w h = h
  here-fine r false (m ∷ ms) w h = h

  step-fine : (r : Rules) (p : Programs S E) (v : Event) (w : World S E) → Fine w.server → Fine (step r p v w).server
  step-fine r p (User k) w h = h
  step-fine r p (Turn t) w h = flush-fine r (turn_of r p t (channel_of t w.server) w.server) (turn-fine r p t (channel_of t w.server) w.server h)
  step-fine r p ArriveThere w h = there-fine r p w.server.up w.there w h
  step-fine r p ArriveHere w h = here-fine r w.client.up w.back w h
  step-fine r p CutHere w h = h
  step-fine r p CutThere w h = flush-fine r (did (cut_server w.server) []) h
  step-fine r p Connect w h = go (can_connect w)
    where
      go : (b : Bool) → Fine (cond b (connected w) w).server
      go true = inl refl
      go false = h
  step-fine r p Time w h = h

  fine : (r : Rules) (p : Programs S E) (e : E) (vs : List Event) → Fine (after r p e vs).server
  unfolding after
  fine r p e [] = inl refl
  fine r p e (v ∷ vs) = step-fine r p v (after r p e vs) (fine r p e vs)

  pub has-user : (r : Rules) (p : Programs S E) (e : E) (vs : List Event) (t : ℕ) (f : ServerChannel S) → channel_of t (after r p e vs).server ≡ Some f → is_some (after r p e vs).server.user ≡ true
  unfolding find
  has-user r p e vs t f h = go (fine r p e vs)
    where
      go : Fine (after r p e vs).server → is_some (after r p e vs).server.user ≡ true
      go (inl q) = absurd (let a : None ≡ Some f = sym (ap (find number_at t) q) ∙ h in let z : ◌≡◌ {A = ℕ} 0 1 = cc in omega arith)
      go (inr q) = q
