-- Who is accepted logged in by a command that was obeyed; what runs, runs as who is accepted. Assumes nothing.
use Rattle.std.proofs.Common.{◌≡◌, ℕ, zero, suc, Bool, true, false, cond, ◌⊎◌, List, [], ◌∷◌, ◌++◌, Some, None, Option, sym, refl, ◌∙◌, subst, subst₂, inl, inr, arith}
use mathlib.Core.List.Memᴰ
use mathlib.Core.List.{Memᴰ}
use Rattle.std.proofs.lemmas.Bool.{both_ways}
use Rattle.model.specs.Keyed.{gather, each}
use Rattle.model.specs.Messages.{Rules, Request, ToServer, Login, For, ToClient, Programs, Did, did}
use Rattle.model.specs.Client.{Client, ClientChannel, Command, LogIn, Start, Enter, Finish, Take, Refusal, refusal, output_credit, takeable, channel_at, labelled, requests_of, flushed, flush, command, obey_unless, receive, client}
use Rattle.model.specs.Server.{ServerChannel, Server, sent_kept}
use Rattle.model.specs.World.{World, Event, User, Turn, ArriveThere, ArriveHere, CutHere, CutThere, Connect, Time, arrive_there, arrive_here, can_connect, connected, step, after}
use Rattle.model.specs.History.{comes_up, Obeyed, Began}
use Rattle.model.specs.Promises.{AtServer, AtClient, Started, OneUser}
use Rattle.model.proofs.Lists.{mem-gather}
use Rattle.model.proofs.Turns.{Hears, dropped, input, credit, eof, close, Acts, waits, reads, writes, goes_on, ends, breaks, Takes, whole, counts, runs_out}
use Rattle.model.proofs.Steps.{Settles, sends, forgets, Moves, stays, accepts, begins, hear, turns, Steps, leaves, moves, connects, steps}
use Rattle.model.proofs.Steps as step_by
use Rattle.model.proofs.Origin.{Comes, old, new, heard, turned, Origin, left, sent, forgot-all, waiting, origin}
use Rattle.model.proofs.Drain.{keeps-connection}
use Rattle.model.proofs.Typed.{channel-obeyed}

-- What the client sends.
module _ (u : ℕ) (q : List ℕ) where
  not-for : (t : ℕ) (m : Request) → Login u q ≡ For t m → ⊥
  not-for t m e = let z : ◌≡◌ {A = ℕ} 0 1 = cc in omega arith

  labelled-login : (t : ℕ) (ms : List Request) → Memᴰ (Login u q) (labelled t ms) → ⊥
  unfolding labelled
  labelled-login t [] m = Memᴰ.not-nil m
  labelled-login t (x ∷ ms) (Memᴰ.head e) = not-for t x e
  labelled-login t (x ∷ ms) (Memᴰ.tail m) = labelled-login t ms m

  gather-login : (r : Rules) (cs : List ClientChannel) → Memᴰ (Login u q) (gather (requests_of r) cs) → ⊥
  gather-login r cs m = let (x, k, l) = mem-gather (requests_of r) cs m in labelled-login x.number _ l

  flush-login : (r : Rules) (d : Did Client ToServer) → Memᴰ (Login u q) (flush r d).sends → Memᴰ (Login u q) d.sends
  flush-login r d = go d.side.up
    where
      split : Memᴰ (Login u q) d.sends ⊎ Memᴰ (Login u q) (gather (requests_of r) d.side.channels) → Memᴰ (Login u q) d.sends
      split (inl a) = a
      split (inr a) = absurd (gather-login r d.side.channels a)

      go : (b : Bool) → Memᴰ (Login u q) (cond b (did (client (each flushed d.side.channels) d.side.accepted d.side.up) (d.sends ++ gather (requests_of r) d.side.channels)) d).sends → Memᴰ (Login u q) d.sends
      go true m = split (Memᴰ.append_cases d.sends m)
      go false m = m

  command-login : (k : Command) (c : Client) → Memᴰ (Login u q) (command k c).sends → k ≡ LogIn u q
  command-login (LogIn v s) c m = let e = Memᴰ.eq_of_singleton m in cc
  command-login (Start t n) c m = absurd (not-for t _ (Memᴰ.eq_of_singleton m))
  command-login (Enter t bs) c m = absurd (Memᴰ.not-nil m)
  command-login (Finish t) c m = absurd (Memᴰ.not-nil m)
  command-login (Take t k) c m = absurd (go c.up (takeable k (channel_at t c)) m)
    where
      go : (b : Bool) (n : ℕ) → Memᴰ (Login u q) (cond b (output_credit t n) []) → ⊥
      go true zero m = Memᴰ.not-nil m
      go true (suc n) m = not-for t _ (Memᴰ.eq_of_singleton m)
      go false n m = Memᴰ.not-nil m

module _ {S E : Type 0} (r : Rules) (p : Programs S E) (e : E) where
  -- a login on the way was a command that was obeyed
  abbrev OnTheWay : List Event → List ToServer → Type 0
  OnTheWay vs ms = (u : ℕ) (q : List ℕ) → Memᴰ (Login u q) ms → Obeyed r p e (LogIn u q) vs

  still-way : (v : Event) (vs : List Event) (ms : List ToServer) → comes_up v (after r p e vs) ≡ false → OnTheWay vs ms → OnTheWay (v ∷ vs) ms
  still-way v vs ms c h u q m = Obeyed.still c (h u q m)

  both-way : (vs : List Event) (ms ns : List ToServer) → OnTheWay vs ms → OnTheWay vs ns → OnTheWay vs (ms ++ ns)
  both-way vs ms ns h k u q m = go (Memᴰ.append_cases ms m)
    where
      go : Memᴰ (Login u q) ms ⊎ Memᴰ (Login u q) ns → Obeyed r p e (LogIn u q) vs
      go (inl a) = h u q a
      go (inr a) = k u q a

  step-way : (v : Event) (vs : List Event) → OnTheWay vs (after r p e vs).there → OnTheWay (v ∷ vs) (step r p v (after r p e vs)).there
  step-way (User k) vs h = both-way (User k ∷ vs) (after r p e vs).there _ (still-way (User k) vs _ refl h) (go (refusal r k c) refl)
    where
      c : Client
      c = (after r p e vs).client

      go : (o : Option Refusal) → refusal r k c ≡ o → OnTheWay (User k ∷ vs) (obey_unless r k c o).sends
      go None o = λ u q m. subst (λ j. Obeyed r p e j (User k ∷ vs)) (command-login u q k c (flush-login u q r (command k c) m)) (Obeyed.now o)
      go (Some f) o = λ u q m. absurd (Memᴰ.not-nil m)
  step-way (Turn t) vs h = still-way (Turn t) vs _ refl h
  step-way ArriveThere vs h = go w.server.up w.there (still-way ArriveThere vs w.there refl h)
    where
      w : World S E
      w = after r p e vs

      go : (up : Bool) (ms : List ToServer) → OnTheWay (ArriveThere ∷ vs) ms → OnTheWay (ArriveThere ∷ vs) (arrive_there r p up ms w).there
      go up [] k = still-way ArriveThere vs w.there refl h
      go true (m ∷ ms) k = λ u q l. k u q (Memᴰ.tail l)
      go false (m ∷ ms) k = still-way ArriveThere vs w.there refl h
  step-way ArriveHere vs h = go w.client.up w.back
    where
      w : World S E
      w = after r p e vs

      k : OnTheWay (ArriveHere ∷ vs) w.there
      k = still-way ArriveHere vs w.there refl h

      go : (up : Bool) (ms : List ToClient) → OnTheWay (ArriveHere ∷ vs) (arrive_here r up ms w).there
      go up [] = k
      go true (m ∷ ms) = both-way (ArriveHere ∷ vs) w.there _ k (λ u q l. absurd (Memᴰ.not-nil (flush-login u q r (did (receive r m w.client) []) l)))
      go false (m ∷ ms) = k
  step-way CutHere vs h = still-way CutHere vs _ refl h
  step-way CutThere vs h = still-way CutThere vs _ refl h
  step-way Connect vs h = go (can_connect w) refl
    where
      w : World S E
      w = after r p e vs

      go : (b : Bool) → can_connect w ≡ b → OnTheWay (Connect ∷ vs) (cond b (connected w) w).there
      go true c = λ u q m. absurd (Memᴰ.not-nil m)
      go false c = still-way Connect vs w.there c h
  step-way Time vs h = still-way Time vs _ refl h

  pub login-on-the-way : (vs : List Event) (u : ℕ) (q : List ℕ) → Memᴰ (Login u q) (after r p e vs).there → Obeyed r p e (LogIn u q) vs
  unfolding after
  login-on-the-way [] u q m = absurd (Memᴰ.not-nil m)
  login-on-the-way (v ∷ vs) u q m = step-way v vs (login-on-the-way vs) u q m

  -- in which connection, as whom, by which command
  abbrev pub LoggedIn : List Event → ℕ → ℕ → Type 0
  LoggedIn vs n u = (q : List ℕ) × Obeyed r p e (LogIn u q) vs × (r.accepts n u q ≡ true)

  settles-user : {s s' : Server S E} → Settles s s' → s'.user ≡ s.user
  settles-user (sends a) = refl
  settles-user (forgets a b) = refl
  settles-user (step_by.waits a b) = refl

  abbrev Accepts : List Event → ℕ → Option ℕ → Type 0
  Accepts vs n o = (u : ℕ) → o ≡ Some u → LoggedIn vs n u

  still-accepts : (v : Event) (vs : List Event) (n : ℕ) (o : Option ℕ) → comes_up v (after r p e vs) ≡ false → Accepts vs n o → Accepts (v ∷ vs) n o
  still-accepts v vs n o c h u a = let (q, k, b) = h u a in (q, Obeyed.still c k, b)

  moves-user : (vs : List Event) {v : Event} {s : Server S E} → Moves r p (after r p e vs).connection (after r p e vs).there (after r p e vs).server v s → comes_up v (after r p e vs) ≡ false → Accepts vs (after r p e vs).connection (after r p e vs).server.user → Accepts (v ∷ vs) (after r p e vs).connection s.user
  moves-user vs {v} (stays used tries up a b d) c h = still-accepts v vs _ _ c h
  moves-user vs (accepts t q ms a b d) c h = λ u k.
      let s : t ≡ u = cc in
      subst (λ j. LoggedIn (ArriveThere ∷ vs) (after r p e vs).connection j) s (q, Obeyed.still refl (login-on-the-way vs t q (subst (Memᴰ (Login t q)) (sym b) (Memᴰ.head refl))), d)
  moves-user vs (begins t k ms u a b d f) c h = still-accepts ArriveThere vs _ _ c h
  moves-user vs (hear t a b) c h = still-accepts ArriveThere vs _ _ c h
  moves-user vs (turns t env a b d) c h = still-accepts (Turn t) vs _ _ c h

  steps-user : (vs : List Event) {v : Event} {s : Server S E} → Steps r p (after r p e vs) v s → (n : ℕ) → (comes_up v (after r p e vs) ≡ false → n ≡ (after r p e vs).connection) → Accepts vs (after r p e vs).connection (after r p e vs).server.user → Accepts (v ∷ vs) n s.user
  steps-user vs {v} (leaves a b) n k h = subst (λ m. Accepts (v ∷ vs) m (after r p e vs).server.user) (sym (k a)) (still-accepts v vs _ _ a h)
  steps-user vs {v} (moves {s} a b c) n k h = subst₂ (λ m o. Accepts (v ∷ vs) m o) (sym (k a)) (sym (settles-user c)) (moves-user vs b a h)
  steps-user vs (connects a) n k h = λ u d. absurd (let z : ◌≡◌ {A = ℕ} 0 1 = cc in omega arith)

  -- who is accepted logged in, in this connection
  pub user-logged-in : (vs : List Event) (u : ℕ) → (after r p e vs).server.user ≡ Some u → LoggedIn vs (after r p e vs).connection u
  unfolding after
  user-logged-in [] u a = absurd (let z : ◌≡◌ {A = ℕ} 0 1 = cc in omega arith)
  user-logged-in (v ∷ vs) u a = steps-user vs (steps r p v (after r p e vs)) _ (keeps-connection r p v (after r p e vs)) (user-logged-in vs) u a

  -- who is accepted stays so until a new connection comes up
  moves-stay : {n : ℕ} {there : List ToServer} {s : Server S E} {v : Event} {s' : Server S E} → Moves r p n there s v s' → (u : ℕ) → s.user ≡ Some u → s'.user ≡ Some u
  moves-stay (stays used tries up a b c) u h = h
  moves-stay (accepts t q ms a b c) u h = absurd (let z : ◌≡◌ {A = ℕ} 0 1 = cc in omega arith)
  moves-stay (begins t k ms o a b c d) u h = h
  moves-stay (hear t a b) u h = h
  moves-stay (turns t env a b c) u h = h

  steps-stay : {w : World S E} {v : Event} {s : Server S E} → Steps r p w v s → comes_up v w ≡ false → (u : ℕ) → w.server.user ≡ Some u → s.user ≡ Some u
  steps-stay (leaves a b) c u h = h
  steps-stay (moves a b d) c u h = settles-user d ∙ moves-stay b u h
  steps-stay {w} {v} (connects a) c u h = absurd (both_ways (comes_up v w) c a)

  -- What runs; of a channel only its number, command and user count.
  abbrev Runs : List Event → Option ℕ → ℕ → ℕ → ℕ → Type 0
  Runs vs o t k u = Began r p e t u vs × (r.may u k ≡ true) × (o ≡ Some u)

  hears-keeps : (Q : ℕ → ℕ → ℕ → Type 0) {x y : ServerChannel S} → Hears x y → Q x.number x.command x.user → Q y.number y.command y.user
  hears-keeps Q dropped h = h
  hears-keeps Q (input bs a b) h = h
  hears-keeps Q (credit n a) h = h
  hears-keeps Q (eof a b) h = h
  hears-keeps Q (close a b) h = h

  acts-keeps : (Q : ℕ → ℕ → ℕ → Type 0) {up : Bool} {f : E} {x y : ServerChannel S} → Acts r p up f x y → Q x.number x.command x.user → Q y.number y.command y.user
  acts-keeps Q (waits w) h = h
  acts-keeps Q (reads k a b c) h = h
  acts-keeps Q (writes bs a b c) h = h
  acts-keeps Q (goes_on a) h = h
  acts-keeps Q (ends n a b) h = h
  acts-keeps Q (breaks a) h = h

  takes-keeps : (Q : ℕ → ℕ → ℕ → Type 0) {f : E} {x : ServerChannel S} {up : Bool} {y : ServerChannel S} → Takes r p f x up y → Q x.number x.command x.user → Q y.number y.command y.user
  takes-keeps Q (whole a) h = acts-keeps Q a h
  takes-keeps Q (counts a b) h = acts-keeps Q a h
  takes-keeps Q (runs_out a b) h = acts-keeps Q a h

  module _ (v : Event) (vs : List Event) (o : Option ℕ) (same : comes_up v (after r p e vs) ≡ false) (stay : (u : ℕ) → (after r p e vs).server.user ≡ Some u → o ≡ Some u)
      (was : (x : ServerChannel S) → AtServer x (after r p e vs) → Runs vs (after r p e vs).server.user x.number x.command x.user) where
    old-runs : (x : ServerChannel S) → AtServer x (after r p e vs) → Runs (v ∷ vs) o x.number x.command x.user
    old-runs x m = let (a, b, c) = was x m in (Began.still same a, b, stay x.user c)

  comes-runs : (vs : List Event) {v : Event} {x : ServerChannel S} → Comes r p (after r p e vs) v x → (o : Option ℕ) → ((u : ℕ) → (after r p e vs).server.user ≡ Some u → o ≡ Some u) → ((x : ServerChannel S) → AtServer x (after r p e vs) → Runs (v ∷ vs) o x.number x.command x.user) → Runs (v ∷ vs) o x.number x.command x.user
  comes-runs vs (old {x = x} a b) o s was = was x a
  comes-runs vs (new t k ms u a b c d) o s was = (Began.now k ms a b c, d, s _ c)
  comes-runs vs (heard {x = x} a b) o s was = hears-keeps (Runs (ArriveThere ∷ vs) o) b (was x a)
  comes-runs vs (turned {x = x} a b c d) o s was = takes-keeps (Runs (Turn x.number ∷ vs) o) d (was x a)

  origin-runs : (vs : List Event) {v : Event} {up : Bool} {x : ServerChannel S} → Origin r p (after r p e vs) v up x → (o : Option ℕ) → ((u : ℕ) → (after r p e vs).server.user ≡ Some u → o ≡ Some u) → ((x : ServerChannel S) → AtServer x (after r p e vs) → Runs (v ∷ vs) o x.number x.command x.user) → Runs (v ∷ vs) o x.number x.command x.user
  origin-runs vs (left {x = x} a b c) o s was = was x b
  origin-runs vs {v} (sent {x = x} a b c) o s was = go x.forgotten (comes-runs vs c o s was)
    where
      go : (b : Bool) → Runs (v ∷ vs) o x.number x.command x.user → Runs (v ∷ vs) o (cond b x (sent_kept x)).number (cond b x (sent_kept x)).command (cond b x (sent_kept x)).user
      go true h = h
      go false h = h
  origin-runs vs (forgot-all a b c) o s was = comes-runs vs c o s was
  origin-runs vs (waiting a b) o s was = comes-runs vs b o s was

  -- began: the channel began to run while its user was accepted; the user may run the command, and still is who is accepted
  pub runs_as : (vs : List Event) (f : ServerChannel S) → AtServer f (after r p e vs) → Began r p e f.number f.user vs × (r.may f.user f.command ≡ true) × ((after r p e vs).server.user ≡ Some f.user)
  unfolding after
  runs_as [] f m = absurd (Memᴰ.not-nil m)
  runs_as (v ∷ vs) f m =
      let (c, o) = origin r p e v vs f m in
      let s = steps-stay (steps r p v (after r p e vs)) c in
      origin-runs vs o _ s (old-runs v vs _ c s (runs_as vs))

  -- all that is asked of what runs, once a channel of the client with its number and command is known
  pub started : (vs : List Event) (f : ServerChannel S) → AtServer f (after r p e vs) → (x : ClientChannel) × AtClient x (after r p e vs) × (x.number ≡ f.number) × (x.command ≡ f.command) → Started r p e vs f
  started vs f m c =
      let (began, may, accepted) = runs_as vs f m in
      record {
        channel = c;
        start = subst₂ (λ t k. Obeyed r p e (Start t k) vs) c.2 c.3 (channel-obeyed r p e vs c.0 c.1);
        login = user-logged-in vs f.user accepted;
        began = began;
        may = may;
        accepted = accepted;
      }

module _ {S E : Type 0} where
  pub one-user : OneUser S E
  one-user r fair p e vs f g m n = let a = (runs_as r p e vs f m).2 in let b = (runs_as r p e vs g n).2 in cc
