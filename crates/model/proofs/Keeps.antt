-- What arrivals leave of a channel as it was. Assumes nothing.
use Rattle.std.proofs.Common.{◌≡◌, ℕ, suc, ◌+◌, ◌-◌, Bool, true, false, cond, eqb, ltb, List, [], ◌∷◌, ◌++◌, length, Some, None, Ok, Err, Option, Result, sym, refl, ap, ◌∙◌, subst, arith}
use Rattle.std.proofs.lemmas.Bool.{true≢false, eqb-true}
use Rattle.std.specs.Option.{option_map}
use Rattle.model.specs.Keyed.{find, every, gather, each}
use Rattle.model.specs.Messages.{Rules, Request, Run, Input, OutputCredit, Eof, Close, Reply, Runs, Output, InputCredit, Exit, ToServer, Login, Tick, For, ToClient, Accepted, Tock, Of, Programs, Did, did, Fault, OutOfTurn, Uncountable, BeyondWindow, is_some}
use Rattle.model.specs.Client.{Client, ClientChannel, Phase, Asked, Running, Refused, Closed, client, number_of, channel_at, runs, requests_of, flushed, flushed_running, flush, hear, hear_in, heard, receive, take_in, got_more, may_more, told_exit}
use Rattle.model.specs.Server.{Server, ServerChannel, server, number_at, channel_of, replies_of, sent_back, sent_kept, forgot, is_over, flush_back, with_all, hear_at, hear_kept, came_in, may_send, no_more, pass_to, passed, pass, is_refused, receive_by, login_by, start, runs_now, used_now, new_program, whom, serve}
use Rattle.model.specs.World.{World, Event, User, Turn, ArriveThere, ArriveHere, CutHere, CutThere, Connect, Time, after, step, arrive_there, arrive_here}
use Rattle.model.specs.Progress.{All, is_arrival}
use Rattle.model.proofs.Finds.{find-key, find-each, find-change}

pub record SameHere (x y : ClientChannel) : Type 0 where
  pub number : y.number ≡ x.number
  pub command : y.command ≡ x.command
  pub input : y.input ≡ x.input
  pub eof : y.eof ≡ x.eof
  pub taken : y.taken ≡ x.taken

pub record SameThere {S : Type 0} (f g : ServerChannel S) : Type 0 where
  pub number : g.number ≡ f.number
  pub wrote : g.wrote ≡ f.wrote
  pub exit : g.exit ≡ f.exit
  pub read : g.read ≡ f.read

abbrev pub here-same : (x : ClientChannel) → SameHere x x
here-same x = record { number = refl; command = refl; input = refl; eof = refl; taken = refl }

pub here-trans : (x y z : ClientChannel) → SameHere x y → SameHere y z → SameHere x z
here-trans x y z a b = record { number = b.number ∙ a.number; command = b.command ∙ a.command; input = b.input ∙ a.input; eof = b.eof ∙ a.eof; taken = b.taken ∙ a.taken }

module _ {S : Type 0} where
  abbrev pub there-same : (f : ServerChannel S) → SameThere f f
  there-same f = record { number = refl; wrote = refl; exit = refl; read = refl }

  pub there-trans : (x y z : ServerChannel S) → SameThere x y → SameThere y z → SameThere x z
  there-trans x y z a b = record { number = b.number ∙ a.number; wrote = b.wrote ∙ a.wrote; exit = b.exit ∙ a.exit; read = b.read ∙ a.read }

-- a channel is kept: found again, the same
abbrev pub KeptHere : ClientChannel → Option ClientChannel → Type 0
KeptHere x o = (y : ClientChannel) × (o ≡ Some y) × SameHere x y

abbrev pub KeptThere : {S : Type 0} → ServerChannel S → Option (ServerChannel S) → Type 0
KeptThere {S} f o = (g : ServerChannel S) × (o ≡ Some g) × SameThere f g

abbrev AllowedHere : ClientChannel → Result ClientChannel Fault → Type 0
AllowedHere x (Ok y) = SameHere x y
AllowedHere x (Err f) = Unit {0}

hear-allowed : (r : Rules) (m : Reply) (x : ClientChannel) (q : Phase) → AllowedHere x (hear_in r q m x)
hear-allowed r (Runs b) x Asked = record { number = refl; command = refl; input = refl; eof = refl; taken = refl }
hear-allowed r (Output bs) x Asked = tt
hear-allowed r (InputCredit n) x Asked = tt
hear-allowed r (Exit s) x Asked = tt
hear-allowed r (Runs b) x Running = tt
hear-allowed r (Output bs) x Running = go (is_some x.exit) (ltb (x.taken + r.window) (length x.got + length bs))
  where
    go : (a b : Bool) → AllowedHere x (cond a (Err OutOfTurn) (cond b (Err BeyondWindow) (Ok (got_more bs x))))
    go true b = tt
    go false true = tt
    go false false = record { number = refl; command = refl; input = refl; eof = refl; taken = refl }
hear-allowed r (InputCredit n) x Running = go (ltb r.counts (x.may - x.sent + n))
  where
    go : (a : Bool) → AllowedHere x (cond a (Err Uncountable) (Ok (may_more n x)))
    go true = tt
    go false = record { number = refl; command = refl; input = refl; eof = refl; taken = refl }
hear-allowed r (Exit s) x Running = go (is_some x.exit)
  where
    go : (a : Bool) → AllowedHere x (cond a (Err OutOfTurn) (Ok (told_exit s x)))
    go true = tt
    go false = record { number = refl; command = refl; input = refl; eof = refl; taken = refl }
hear-allowed r m x Refused = here-same x
hear-allowed r m x Closed = here-same x

some_inj : {A : Type 0} (x y : A) → Some x ≡ Some y → x ≡ y
some_inj x y e = cc

none-some : {A B : Type 0} (x : A) → None ≡ Some x → B
none-some x e = absurd (let z : ◌≡◌ {A = ℕ} 0 1 = cc in omega arith)

heard-keeps : (t k : ℕ) (c : Client) (x : ClientChannel) (w : Result ClientChannel Fault) → channel_at t c ≡ Some x → ((z : ClientChannel) → channel_at k c ≡ Some z → AllowedHere z w) → (channel_at k c ≡ None → w ≡ Err Fault.NeverStarted) → KeptHere x (channel_at t (heard k w c))
heard-keeps t k c x (Err f) e a b = (x, e, here-same x)
heard-keeps t k c x (Ok y) e a b = go (channel_at k c) refl
  where
    go : (o : Option ClientChannel) → channel_at k c ≡ o → KeptHere x (channel_at t (heard k (Ok y) c))
    go None q = absurd (let w = b q in let z : ◌≡◌ {A = ℕ} 0 1 = cc in omega arith)
    go (Some z) q = test (eqb k t) refl (find-change number_of k (λ _. y) (λ _ _. s.number ∙ find-key number_of k c.channels z q) t c.channels)
      where
        s : SameHere z y
        s = a z q

        test : (b : Bool) → eqb k t ≡ b → channel_at t (heard k (Ok y) c) ≡ cond b (option_map (λ _. y) (find number_of t c.channels)) (find number_of t c.channels) → KeptHere x (channel_at t (heard k (Ok y) c))
        test true i h = (y, h ∙ ap (option_map (λ _. y)) e, subst (λ (v : ClientChannel). SameHere v y) (some_inj z x (sym q ∙ ap (λ n. find number_of n c.channels) (eqb-true k t i) ∙ e)) s)
        test false i h = (x, h ∙ e, here-same x)

receive-keeps : (r : Rules) (t : ℕ) (c : Client) (x : ClientChannel) (m : ToClient) → channel_at t c ≡ Some x → KeptHere x (channel_at t (receive r m c))
receive-keeps r t c x (Accepted b) e = (x, e, here-same x)
receive-keeps r t c x Tock e = (x, e, here-same x)
receive-keeps r t c x (Of k m) e = heard-keeps t k c x (hear r m (channel_at k c)) e (λ z q. subst (λ (o : Option ClientChannel). AllowedHere z (hear r m o)) (sym q) (hear-allowed r m z z.phase)) (λ q. ap (hear r m) q)

flushed-same : (x : ClientChannel) → SameHere x (flushed x)
flushed-same x = go (runs x.phase)
  where
    go : (b : Bool) → SameHere x (cond b (flushed_running x) x)
    go true = record { number = refl; command = refl; input = refl; eof = refl; taken = refl }
    go false = here-same x

pub flush-keeps : (r : Rules) (t : ℕ) (d : Did Client ToServer) (x : ClientChannel) → channel_at t d.side ≡ Some x → KeptHere x (channel_at t (flush r d).side)
flush-keeps r t d x e = go d.side.up
  where
    go : (b : Bool) → KeptHere x (channel_at t (cond b (did (client (each flushed d.side.channels) d.side.accepted d.side.up) (d.sends ++ gather (requests_of r) d.side.channels)) d).side)
    go true = (flushed x, find-each number_of flushed (λ z. (flushed-same z).number) t d.side.channels ∙ ap (option_map flushed) e, flushed-same x)
    go false = (x, e, here-same x)

pub take-keeps : (r : Rules) (t : ℕ) (c : Client) (x : ClientChannel) (m : ToClient) → channel_at t c ≡ Some x → KeptHere x (channel_at t (take_in r m c).side)
take-keeps r t c x m e =
    let a = receive-keeps r t c x m e in
    let b = flush-keeps r t (did (receive r m c) []) a.0 a.1 in
    (b.0, b.1, here-trans x a.0 b.0 a.2 b.2)

find-front : {X : Type 0} (key : X → ℕ) (t : ℕ) (x : X) (xs ys : List X) → find key t xs ≡ Some x → find key t (xs ++ ys) ≡ Some x
unfolding find
find-front key t x [] ys e = none-some x e
find-front key t x (z ∷ zs) ys e = go (eqb (key z) t) e (find-front key t x zs ys)
  where
    go : (b : Bool) → cond b (Some z) (find key t zs) ≡ Some x → (find key t zs ≡ Some x → find key t (zs ++ ys) ≡ Some x) → cond b (Some z) (find key t (zs ++ ys)) ≡ Some x
    go true q ih = q
    go false q ih = ih q

module _ {S : Type 0} where
  abbrev AllowedThere : ServerChannel S → Result (ServerChannel S) Fault → Type 0
  AllowedThere x (Ok y) = SameThere x y
  AllowedThere x (Err f) = Unit {0}

  kept-allowed : (r : Rules) (m : Request) (x : ServerChannel S) → AllowedThere x (hear_kept r m x)
  kept-allowed r (Run k) x = tt
  kept-allowed r (Input bs) x = go x.eof (ltb (x.read + r.window) (length x.input + length bs))
    where
      go : (a b : Bool) → AllowedThere x (cond a (Err OutOfTurn) (cond b (Err BeyondWindow) (Ok (came_in bs x))))
      go true b = tt
      go false true = tt
      go false false = record { number = refl; wrote = refl; exit = refl; read = refl }
  kept-allowed r (OutputCredit n) x = go (ltb r.counts (x.may - x.sent + n))
    where
      go : (a : Bool) → AllowedThere x (cond a (Err Uncountable) (Ok (may_send n x)))
      go true = tt
      go false = record { number = refl; wrote = refl; exit = refl; read = refl }
  kept-allowed r Eof x = go x.eof
    where
      go : (a : Bool) → AllowedThere x (cond a (Err OutOfTurn) (Ok (no_more x)))
      go true = tt
      go false = record { number = refl; wrote = refl; exit = refl; read = refl }
  kept-allowed r Close x = go x.said
    where
      go : (a : Bool) → AllowedThere x (cond a (Ok (forgot x)) (Err OutOfTurn))
      go true = record { number = refl; wrote = refl; exit = refl; read = refl }
      go false = tt

  hear-allowed-there : (r : Rules) (m : Request) (x : ServerChannel S) → AllowedThere x (hear_at r m x)
  hear-allowed-there r m x = go x.forgotten
    where
      go : (b : Bool) → AllowedThere x (cond b (Ok x) (hear_kept r m x))
      go true = there-same x
      go false = kept-allowed r m x

  sent_back-same : (x : ServerChannel S) → SameThere x (sent_back x)
  sent_back-same x = go x.forgotten
    where
      go : (b : Bool) → SameThere x (cond b x (sent_kept x))
      go true = there-same x
      go false = record { number = refl; wrote = refl; exit = refl; read = refl }

  each_keeps : (g : ServerChannel S → ServerChannel S) → ((z : ServerChannel S) → SameThere z (g z)) → (t : ℕ) (cs : List (ServerChannel S)) (f : ServerChannel S) → find number_at t cs ≡ Some f → KeptThere f (find number_at t (each g cs))
  each_keeps g h t cs f e = (g f, find-each number_at g (λ z. (h z).number) t cs ∙ ap (option_map g) e, h f)

module _ {S E : Type 0} where
  passed-keeps : (t k : ℕ) (s : Server S E) (x : ServerChannel S) (w : Result (ServerChannel S) Fault) → channel_of t s ≡ Some x → ((z : ServerChannel S) → channel_of k s ≡ Some z → AllowedThere z w) → (channel_of k s ≡ None → w ≡ Err Fault.NeverStarted) → KeptThere x (channel_of t (passed k w s))
  passed-keeps t k s x (Err f) e a b = (x, e, there-same x)
  passed-keeps t k s x (Ok y) e a b = go (channel_of k s) refl
    where
      go : (o : Option (ServerChannel S)) → channel_of k s ≡ o → KeptThere x (channel_of t (passed k (Ok y) s))
      go None q = absurd (let w = b q in let z : ◌≡◌ {A = ℕ} 0 1 = cc in omega arith)
      go (Some z) q = test (eqb k t) refl (find-change number_at k (λ _. y) (λ _ _. l.number ∙ find-key number_at k s.channels z q) t s.channels)
        where
          l : SameThere z y
          l = a z q

          test : (b : Bool) → eqb k t ≡ b → channel_of t (passed k (Ok y) s) ≡ cond b (option_map (λ _. y) (find number_at t s.channels)) (find number_at t s.channels) → KeptThere x (channel_of t (passed k (Ok y) s))
          test true i h = (y, h ∙ ap (option_map (λ _. y)) e, subst (λ (v : ServerChannel S). SameThere v y) (some_inj z x (sym q ∙ ap (λ n. find number_at n s.channels) (eqb-true k t i) ∙ e)) l)
          test false i h = (x, h ∙ e, there-same x)

  pass-keeps : (r : Rules) (t k : ℕ) (m : Request) (s : Server S E) (x : ServerChannel S) → channel_of t s ≡ Some x → KeptThere x (channel_of t (pass r k m s).side)
  pass-keeps r t k m s x e = go (is_refused k (channel_of k s) s)
    where
      go : (b : Bool) → KeptThere x (channel_of t (cond b (did {M = ToClient} s []) (did (passed k (pass_to r k m (channel_of k s) s) s) [])).side)
      go true = (x, e, there-same x)
      go false = passed-keeps t k s x (pass_to r k m (channel_of k s) s) e (λ z q. subst (λ (o : Option (ServerChannel S)). AllowedThere z (pass_to r k m o s)) (sym q) (hear-allowed-there r m z)) (λ q. ap (λ o. pass_to r k m o s) q)

  login-same : (r : Rules) (n u : ℕ) (q : List ℕ) (o : Option ℕ) (s : Server S E) → (login_by r n u q o s).side.channels ≡ s.channels
  login-same r n u q (Some v) s = refl
  login-same r n u q None s = go (r.accepts n u q) (ltb (suc s.tries) r.tries)
    where
      go : (a b : Bool) → (cond a (did (server s.channels s.used (Some u) s.tries s.env s.up) (Accepted true ∷ []))
          (cond b (did (server s.channels s.used None (suc s.tries) s.env s.up) (Accepted false ∷ [])) (did (server s.channels s.used None (suc s.tries) s.env false) []))).side.channels ≡ s.channels
      go true b = refl
      go false true = refl
      go false false = refl

  start-keeps : (r : Rules) (p : Programs S E) (t k c : ℕ) (s : Server S E) (x : ServerChannel S) → channel_of t s ≡ Some x → KeptThere x (channel_of t (start r p k c s).side)
  start-keeps r p t k c s x e = go (runs_now r k c s)
    where
      go : (b : Bool) → KeptThere x (channel_of t (cond b
          (did (server (s.channels ++ new_program r p k c (whom s.user) s.env ∷ []) (used_now r k s) s.user s.tries s.env s.up) (Of k (Runs true) ∷ (Of k (InputCredit r.window) ∷ [])))
          (did (server s.channels (used_now r k s) s.user s.tries s.env s.up) (Of k (Runs false) ∷ []))).side)
      go true = (x, find-front number_at t x s.channels (new_program r p k c (whom s.user) s.env ∷ []) e, there-same x)
      go false = (x, e, there-same x)

  received-keeps : (r : Rules) (p : Programs S E) (n t : ℕ) (m : ToServer) (s : Server S E) (x : ServerChannel S) → channel_of t s ≡ Some x → KeptThere x (channel_of t (receive_by r p n m s).side)
  received-keeps r p n t (Login u q) s x e = (x, ap (find number_at t) (login-same r n u q s.user s) ∙ e, there-same x)
  received-keeps r p n t Tick s x e = (x, e, there-same x)
  received-keeps r p n t (For k (Run c)) s x e = start-keeps r p t k c s x e
  received-keeps r p n t (For k (Input bs)) s x e = pass-keeps r t k (Input bs) s x e
  received-keeps r p n t (For k (OutputCredit c)) s x e = pass-keeps r t k (OutputCredit c) s x e
  received-keeps r p n t (For k Eof) s x e = pass-keeps r t k Eof s x e
  received-keeps r p n t (For k Close) s x e = pass-keeps r t k Close s x e

  pub flush_back-keeps : (r : Rules) (t : ℕ) (d : Did (Server S E) ToClient) (x : ServerChannel S) → channel_of t d.side ≡ Some x → KeptThere x (channel_of t (flush_back r d).side)
  flush_back-keeps r t d x e = go d.side.up (every is_over d.side.channels)
    where
      go : (b c : Bool) → KeptThere x (channel_of t (cond b (did (with_all (each sent_back d.side.channels) d.side) (d.sends ++ gather (replies_of r) d.side.channels)) (did (cond c (with_all (each forgot d.side.channels) d.side) d.side) d.sends)).side)
      go true c = each_keeps sent_back sent_back-same t d.side.channels x e
      go false true = each_keeps forgot (λ z. record { number = refl; wrote = refl; exit = refl; read = refl }) t d.side.channels x e
      go false false = (x, e, there-same x)

  pub serve-keeps : (r : Rules) (p : Programs S E) (n t : ℕ) (m : ToServer) (s : Server S E) (x : ServerChannel S) → channel_of t s ≡ Some x → KeptThere x (channel_of t (serve r p n m s).side)
  serve-keeps r p n t m s x e =
      let a = received-keeps r p n t m s x e in
      let b = flush_back-keeps r t (receive_by r p n m s) a.0 a.1 in
      (b.0, b.1, there-trans x a.0 b.0 a.2 b.2)

  step-there-client : (r : Rules) (p : Programs S E) (u : Bool) (l : List ToServer) (w : World S E) → (arrive_there r p u l w).client ≡ w.client
  step-there-client r p u [] w = refl
  step-there-client r p true (m ∷ ms) w = refl
  step-there-client r p false (m ∷ ms) w = refl

  step-here-server : (r : Rules) (u : Bool) (l : List ToClient) (w : World S E) → (arrive_here r u l w).server ≡ w.server
  step-here-server r u [] w = refl
  step-here-server r true (m ∷ ms) w = refl
  step-here-server r false (m ∷ ms) w = refl

  step-there-keeps : (r : Rules) (p : Programs S E) (u : Bool) (l : List ToServer) (w : World S E) (t : ℕ) (x : ServerChannel S) → channel_of t w.server ≡ Some x → KeptThere x (channel_of t (arrive_there r p u l w).server)
  step-there-keeps r p u [] w t x e = (x, e, there-same x)
  step-there-keeps r p true (m ∷ ms) w t x e = serve-keeps r p w.connection t m w.server x e
  step-there-keeps r p false (m ∷ ms) w t x e = (x, e, there-same x)

  step-here-keeps : (r : Rules) (u : Bool) (l : List ToClient) (w : World S E) (t : ℕ) (x : ClientChannel) → channel_at t w.client ≡ Some x → KeptHere x (channel_at t (arrive_here r u l w).client)
  step-here-keeps r u [] w t x e = (x, e, here-same x)
  step-here-keeps r true (m ∷ ms) w t x e = take-keeps r t w.client x m e
  step-here-keeps r false (m ∷ ms) w t x e = (x, e, here-same x)

  pub arrival-here : (r : Rules) (p : Programs S E) (v : Event) (w : World S E) → is_arrival v ≡ true → (t : ℕ) (x : ClientChannel) → channel_at t w.client ≡ Some x → KeptHere x (channel_at t (step r p v w).client)
  arrival-here r p (User k) w h t x e = absurd (true≢false (sym h))
  arrival-here r p (Turn n) w h t x e = absurd (true≢false (sym h))
  arrival-here r p ArriveThere w h t x e = (x, ap (channel_at t) (step-there-client r p w.server.up w.there w) ∙ e, here-same x)
  arrival-here r p ArriveHere w h t x e = step-here-keeps r w.client.up w.back w t x e
  arrival-here r p CutHere w h t x e = absurd (true≢false (sym h))
  arrival-here r p CutThere w h t x e = absurd (true≢false (sym h))
  arrival-here r p Connect w h t x e = absurd (true≢false (sym h))
  arrival-here r p Time w h t x e = absurd (true≢false (sym h))

  pub arrival-there : (r : Rules) (p : Programs S E) (v : Event) (w : World S E) → is_arrival v ≡ true → (t : ℕ) (x : ServerChannel S) → channel_of t w.server ≡ Some x → KeptThere x (channel_of t (step r p v w).server)
  arrival-there r p (User k) w h t x e = absurd (true≢false (sym h))
  arrival-there r p (Turn n) w h t x e = absurd (true≢false (sym h))
  arrival-there r p ArriveThere w h t x e = step-there-keeps r p w.server.up w.there w t x e
  arrival-there r p ArriveHere w h t x e = (x, ap (channel_of t) (step-here-server r w.client.up w.back w) ∙ e, there-same x)
  arrival-there r p CutHere w h t x e = absurd (true≢false (sym h))
  arrival-there r p CutThere w h t x e = absurd (true≢false (sym h))
  arrival-there r p Connect w h t x e = absurd (true≢false (sym h))
  arrival-there r p Time w h t x e = absurd (true≢false (sym h))

  pub arrivals-here : (r : Rules) (p : Programs S E) (e : E) (vs fs : List Event) → All is_arrival fs → (t : ℕ) (x : ClientChannel) → channel_at t (after r p e vs).client ≡ Some x → KeptHere x (channel_at t (after r p e (fs ++ vs)).client)
  unfolding All after
  arrivals-here r p e vs [] h t x q = (x, q, here-same x)
  arrivals-here r p e vs (f ∷ fs) h t x q =
      let a = arrivals-here r p e vs fs h.1 t x q in
      let b = arrival-here r p f (after r p e (fs ++ vs)) h.0 t a.0 a.1 in
      (b.0, b.1, here-trans x a.0 b.0 a.2 b.2)

  pub arrivals-there : (r : Rules) (p : Programs S E) (e : E) (vs fs : List Event) → All is_arrival fs → (t : ℕ) (x : ServerChannel S) → channel_of t (after r p e vs).server ≡ Some x → KeptThere x (channel_of t (after r p e (fs ++ vs)).server)
  unfolding All after
  arrivals-there r p e vs [] h t x q = (x, q, there-same x)
  arrivals-there r p e vs (f ∷ fs) h t x q =
      let a = arrivals-there r p e vs fs h.1 t x q in
      let b = arrival-there r p f (after r p e (fs ++ vs)) h.0 t a.0 a.1 in
      (b.0, b.1, there-trans x a.0 b.0 a.2 b.2)
