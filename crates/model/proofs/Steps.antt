-- What an event can do to the server, case by case. Assumes nothing.
use Rattle.std.proofs.Common.{◌≡◌, ℕ, suc, Bool, true, false, cond, not, eqb, ltb, List, [], ◌∷◌, ◌++◌, Some, None, Ok, Err, Option, Result, refl, subst, arith}
use Rattle.std.proofs.lemmas.Bool.{and_parts, or_parts, not-true}
use Rattle.model.specs.Keyed.{change, every, is_in, above, each, gather}
use Rattle.model.specs.Messages.{Rules, Request, Run, Input, OutputCredit, Eof, Close, ToServer, Login, Tick, For, ToClient, Accepted, Of, Runs, InputCredit, Fault, Programs, Did, did}
use Rattle.model.specs.Server.{ServerChannel, Server, number_at, is_live, is_over, forgot, sent_back, replies_of, may_run, whom, hear_at, server, new_server, channel_of, with_all, cut_server, login_by, new_program, bad_start, runs_now, start, pass_to, passed, is_refused, pass, receive_by, turn_in, turn_of, took_turn, flush_back}
use Rattle.model.specs.World.{World, Event, User, Turn, ArriveThere, ArriveHere, CutHere, CutThere, Connect, Time, arrive_there, can_connect, connected, step}
use Rattle.model.specs.History.{comes_up}
use Rattle.model.proofs.Turns.{Hears, hears, Takes, takes}

pub used-more : (t n : ℕ) (ns : List ℕ) → is_in t ns ≡ true → is_in t (ns ++ n ∷ []) ≡ true
unfolding is_in
used-more t n [] h = absurd (let z : ◌≡◌ {A = ℕ} 0 1 = cc in omega arith)
used-more t n (x ∷ ns) h = go (eqb x t) h (used-more t n ns)
  where
    go : (b : Bool) → cond b true (is_in t ns) ≡ true → (is_in t ns ≡ true → is_in t (ns ++ n ∷ []) ≡ true) → cond b true (is_in t (ns ++ n ∷ [])) ≡ true
    go true a ih = refl
    go false a ih = ih a

module _ {S E : Type 0} where
  -- a turn that finds no program to run
  abbrev pub Rests : Event → Server S E → Type 0
  Rests (User k) s = Unit {0}
  Rests (Turn t) s = (x : ServerChannel S) → channel_of t s ≡ Some x → is_live x ≡ false
  Rests ArriveThere s = Unit {0}
  Rests ArriveHere s = Unit {0}
  Rests CutHere s = Unit {0}
  Rests CutThere s = Unit {0}
  Rests Connect s = Unit {0}
  Rests Time s = Unit {0}

  -- what the server sends by itself, or forgets
  pub data Settles (s : Server S E) : Server S E → Type 0 where
    sends : s.up ≡ true → Settles s (with_all (each sent_back s.channels) s)
    forgets : s.up ≡ false → every is_over s.channels ≡ true → Settles s (with_all (each forgot s.channels) s)
    waits : s.up ≡ false → every is_over s.channels ≡ false → Settles s s

  pub settles : (r : Rules) (d : Did (Server S E) ToClient) → Settles d.side (flush_back r d).side
  settles r d = go d.side.up refl (every is_over d.side.channels) refl (d.sends ++ gather (replies_of r) d.side.channels)
    where
      go : (a : Bool) → d.side.up ≡ a → (b : Bool) → every is_over d.side.channels ≡ b → (ms : List ToClient) → Settles d.side (cond a (did (with_all (each sent_back d.side.channels) d.side) ms) (did (cond b (with_all (each forgot d.side.channels) d.side) d.side) d.sends)).side
      go true a b c ms = sends a
      go false a true b ms = forgets a b
      go false a false b ms = waits a b

  module _ (r : Rules) (p : Programs S E) where
    -- what the event does before that; n: the connection; there: the messages on the way
    pub data Moves (n : ℕ) (there : List ToServer) (s : Server S E) : Event → Server S E → Type 0 where
      stays : {v : Event} (used : List ℕ) (tries : ℕ) (up : Bool) → Rests v s → ((t : ℕ) → is_in t s.used ≡ true → is_in t used ≡ true) → (up ≡ true → s.up ≡ true) → Moves n there s v (server s.channels used s.user tries s.env up)
      accepts : (u : ℕ) (q : List ℕ) (ms : List ToServer) → s.user ≡ None → there ≡ Login u q ∷ ms → r.accepts n u q ≡ true → Moves n there s ArriveThere (server s.channels s.used (Some u) s.tries s.env s.up)
      begins : (t k : ℕ) (ms : List ToServer) → s.up ≡ true → there ≡ For t (Run k) ∷ ms → above t s.used ≡ true → s.user ≡ Some (whom s.user) → r.may (whom s.user) k ≡ true → Moves n there s ArriveThere (server (s.channels ++ new_program r p t k (whom s.user) s.env ∷ []) (s.used ++ t ∷ []) s.user s.tries s.env s.up)
      hear : (t : ℕ) {x y : ServerChannel S} → channel_of t s ≡ Some x → Hears x y → Moves n there s ArriveThere (server (change number_at t (λ _. y) s.channels) s.used s.user s.tries s.env s.up)
      turns : (t : ℕ) (env : E) {x y : ServerChannel S} → channel_of t s ≡ Some x → is_live x ≡ true → Takes r p s.env x s.up y → Moves n there s (Turn t) (server (change number_at t (λ _. y) s.channels) s.used s.user s.tries env s.up)

    module _ (n : ℕ) (there : List ToServer) (s : Server S E) where
      same : {v : Event} → Rests v s → Moves n there s v s
      same h = stays s.used s.tries s.up h (λ t a. a) (λ a. a)

      cut : {v : Event} → Rests v s → Moves n there s v (cut_server s)
      cut h = stays s.used s.tries false h (λ t a. a) (λ a. absurd (let z : ◌≡◌ {A = ℕ} 0 1 = cc in omega arith))

      logs-in : (u : ℕ) (q : List ℕ) (ms : List ToServer) → there ≡ Login u q ∷ ms → (o : Option ℕ) → s.user ≡ o → Moves n there s ArriveThere (login_by r n u q o s).side
      logs-in u q ms h (Some v) a = same tt
      logs-in u q ms h None a = go (r.accepts n u q) refl (ltb (suc s.tries) r.tries)
        where
          failed : (up : Bool) → (up ≡ true → s.up ≡ true) → Moves n there s ArriveThere (server s.channels s.used None (suc s.tries) s.env up)
          failed up k = subst (λ o. Moves n there s ArriveThere (server s.channels s.used o (suc s.tries) s.env up)) a (stays s.used (suc s.tries) up tt (λ t b. b) k)

          go : (b : Bool) → r.accepts n u q ≡ b → (c : Bool) → Moves n there s ArriveThere (cond b (did (server s.channels s.used (Some u) s.tries s.env s.up) (Accepted true ∷ [])) (cond c (did (server s.channels s.used None (suc s.tries) s.env s.up) (Accepted false ∷ [])) (did (server s.channels s.used None (suc s.tries) s.env false) []))).side
          go true b c = accepts u q ms a h b
          go false b true = failed s.up (λ d. d)
          go false b false = failed false (λ d. absurd (let z : ◌≡◌ {A = ℕ} 0 1 = cc in omega arith))

      may-run : (k : ℕ) (o : Option ℕ) → may_run r k o ≡ true → (o ≡ Some (whom o)) × (r.may (whom o) k ≡ true)
      may-run k None h = absurd (let z : ◌≡◌ {A = ℕ} 0 1 = cc in omega arith)
      may-run k (Some u) h = (refl, h)

      starts : (t k : ℕ) (ms : List ToServer) → s.up ≡ true → there ≡ For t (Run k) ∷ ms → Moves n there s ArriveThere (start r p t k s).side
      starts t k ms u h = go (runs_now r t k s) refl (bad_start r t s) refl
        where
          used-by : (b : Bool) (m : ℕ) → is_in m s.used ≡ true → is_in m (cond b s.used (s.used ++ t ∷ [])) ≡ true
          used-by true m a = a
          used-by false m a = used-more m t s.used a

          go : (a : Bool) → runs_now r t k s ≡ a → (b : Bool) → bad_start r t s ≡ b →
              Moves n there s ArriveThere (cond a
              (did (server (s.channels ++ new_program r p t k (whom s.user) s.env ∷ []) (cond b s.used (s.used ++ t ∷ [])) s.user s.tries s.env s.up) (Of t (Runs true) ∷ (Of t (InputCredit r.window) ∷ [])))
              (did (server s.channels (cond b s.used (s.used ++ t ∷ [])) s.user s.tries s.env s.up) (Of t (Runs false) ∷ []))).side
          go true a true b = absurd (let c = not-true (bad_start r t s) (and_parts (not (bad_start r t s)) _ a).0 in let z : ◌≡◌ {A = ℕ} 0 1 = cc in omega arith)
          go true a false b =
              let (c, d) = may-run k s.user (and_parts (may_run r k s.user) _ (and_parts (not (bad_start r t s)) _ a).1).0 in
              begins t k ms u h (fresh (above t s.used) (or_parts (not (above t s.used)) _ b).0) c d
            where
              fresh : (x : Bool) → not x ≡ false → x ≡ true
              fresh true y = refl
              fresh false y = absurd (let z : ◌≡◌ {A = ℕ} 0 1 = cc in omega arith)
          go false a b c = stays (cond b s.used (s.used ++ t ∷ [])) s.tries s.up tt (used-by b) (λ d. d)

      passes : (t : ℕ) (m : Request) → Moves n there s ArriveThere (pass r t m s).side
      passes t m = go (is_refused t (channel_of t s) s) (channel_of t s) refl
        where
          by : (x : ServerChannel S) (o : Result (ServerChannel S) Fault) → channel_of t s ≡ Some x → hear_at r m x ≡ o → Moves n there s ArriveThere (passed t o s)
          by x (Ok y) a b = hear t a (hears r m x y b)
          by x (Err f) a b = cut tt

          found : (o : Option (ServerChannel S)) → channel_of t s ≡ o → Moves n there s ArriveThere (passed t (pass_to r t m o s) s)
          found None a = cut tt
          found (Some x) a = by x (hear_at r m x) a refl

          go : (b : Bool) (o : Option (ServerChannel S)) → channel_of t s ≡ o → Moves n there s ArriveThere (cond b (did {M = ToClient} s []) (did (passed t (pass_to r t m o s) s) [])).side
          go true o a = same tt
          go false o a = found o a

      receives : (m : ToServer) (ms : List ToServer) → s.up ≡ true → there ≡ m ∷ ms → Moves n there s ArriveThere (receive_by r p n m s).side
      receives (Login c q) ms u h = logs-in c q ms h s.user refl
      receives Tick ms u h = same tt
      receives (For t (Run k)) ms u h = starts t k ms u h
      receives (For t (Input bs)) ms u h = passes t (Input bs)
      receives (For t (OutputCredit c)) ms u h = passes t (OutputCredit c)
      receives (For t Eof) ms u h = passes t Eof
      receives (For t Close) ms u h = passes t Close

      turned : (t : ℕ) (o : Option (ServerChannel S)) → channel_of t s ≡ o → Moves n there s (Turn t) (turn_of r p t o s).side
      turned t None h = same (λ x a. absurd (let z : ◌≡◌ {A = ℕ} 0 1 = cc in omega arith))
      turned t (Some x) h = go (is_live x) refl
        where
          go : (b : Bool) → is_live x ≡ b → Moves n there s (Turn t) (cond b (took_turn t (turn_in r p s.up s.env x) s) (did s [])).side
          go true a = turns t _ h a (takes r p s.env x s.up)
          go false a = same (λ y b. let c : x ≡ y = cc in subst (λ z. is_live z ≡ false) c a)

    pub data Steps (w : World S E) (v : Event) : Server S E → Type 0 where
      leaves : comes_up v w ≡ false → Rests v w.server → Steps w v w.server
      moves : {s s' : Server S E} → comes_up v w ≡ false → Moves w.connection w.there w.server v s → Settles s s' → Steps w v s'
      connects : comes_up v w ≡ true → Steps w v (new_server w.server.env)

    pub steps : (v : Event) (w : World S E) → Steps w v (step r p v w).server
    steps (User k) w = leaves refl tt
    steps (Turn t) w = moves refl (turned w.connection w.there w.server t (channel_of t w.server) refl) (settles r _)
    steps ArriveThere w = go w.server.up refl w.there refl
      where
        go : (up : Bool) → w.server.up ≡ up → (ms : List ToServer) → w.there ≡ ms → Steps w ArriveThere (arrive_there r p up ms w).server
        go up u [] h = leaves refl tt
        go true u (m ∷ ms) h = moves refl (receives w.connection w.there w.server m ms u h) (settles r (receive_by r p w.connection m w.server))
        go false u (m ∷ ms) h = leaves refl tt
    steps ArriveHere w = go w.client.up w.back
      where
        go : (up : Bool) (ms : List ToClient) → Steps w ArriveHere (Rattle.model.specs.World.arrive_here r up ms w).server
        go up [] = leaves refl tt
        go true (m ∷ ms) = leaves refl tt
        go false (m ∷ ms) = leaves refl tt
    steps CutHere w = leaves refl tt
    steps CutThere w = moves refl (cut w.connection w.there w.server tt) (settles r (did (cut_server w.server) []))
    steps Connect w = go (can_connect w) refl
      where
        go : (b : Bool) → can_connect w ≡ b → Steps w Connect (cond b (connected w) w).server
        go true h = connects h
        go false h = leaves h tt
    steps Time w = leaves refl tt
