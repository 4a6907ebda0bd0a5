-- All that is on one way arrives, in its order. Assumes only the invariant.
use Rattle.std.proofs.Common.{◌≡◌, ℕ, suc, ◌+◌, ◌*◌, ◌≤◌, Bool, true, false, cond, ◌⊎◌, List, [], ◌∷◌, ◌++◌, length, Some, None, Ok, Err, Option, Result, sym, refl, ap, ◌∙◌, subst, inl, inr, append_assoc, append-nil, arith}
use Rattle.std.proofs.lemmas.List.{length-append}
use Rattle.std.proofs.lemmas.Bool.{true≢false}
use Rattle.model.specs.Keyed.{every, gather, each}
use Rattle.model.specs.Messages.{Rules, Fair, Request, Run, Input, OutputCredit, Eof, Close, ToServer, Login, Tick, For, ToClient, Of, Runs, InputCredit, Programs, Did, did, Fault, is_some}
use Rattle.model.specs.Client.{Client, ClientChannel, channel_at}
use Rattle.model.specs.Server.{Server, ServerChannel, server, channel_of, replies_of, sent_back, forgot, is_over, flush_back, with_all, pass_to, passed, pass, is_refused, login_by, start, runs_now, used_now, new_program, whom, serve}
use Rattle.model.specs.World.{World, Event, ArriveThere, ArriveHere, after}
use Rattle.model.specs.Promises.{Up}
use Rattle.model.specs.Progress.{NoLogin, is_arrival, Endures}
use Rattle.model.proofs.Inv.{Inv}
use Rattle.model.proofs.Weights.{room_most}
use Rattle.model.proofs.Settle.{there-is, here-is, there-served, steps-there, steps-here}
use Rattle.model.proofs.Keeps.{KeptHere, here-same, here-trans, take-keeps}
use Rattle.model.proofs.Reach.{Comes, comes-now, comes-one, comes-then, comes-more}

-- what keeps the user at the server who it is
abbrev pub Steady : List ToServer → Option ℕ → Type 0
Steady ms o = NoLogin ms ⊎ (is_some o ≡ true)

module _ {S E : Type 0} where
  flush-user : (r : Rules) (d : Did (Server S E) ToClient) → (flush_back r d).side.user ≡ d.side.user
  flush-user r d = go d.side.up (every is_over d.side.channels)
    where
      go : (b c : Bool) → (cond b (did (with_all (each sent_back d.side.channels) d.side) (d.sends ++ gather (replies_of r) d.side.channels)) (did (cond c (with_all (each forgot d.side.channels) d.side) d.side) d.sends)).side.user ≡ d.side.user
      go true c = refl
      go false true = refl
      go false false = refl

  start-user : (r : Rules) (p : Programs S E) (t k : ℕ) (s : Server S E) → (start r p t k s).side.user ≡ s.user
  start-user r p t k s = go (runs_now r t k s)
    where
      go : (b : Bool) → (cond b
          (did (server (s.channels ++ new_program r p t k (whom s.user) s.env ∷ []) (used_now r t s) s.user s.tries s.env s.up) (Of t (Runs true) ∷ (Of t (InputCredit r.window) ∷ [])))
          (did (server s.channels (used_now r t s) s.user s.tries s.env s.up) (Of t (Runs false) ∷ []))).side.user ≡ s.user
      go true = refl
      go false = refl

  pass-user : (r : Rules) (t : ℕ) (m : Request) (s : Server S E) → (pass r t m s).side.user ≡ s.user
  pass-user r t m s = go (is_refused t (channel_of t s) s) (pass_to r t m (channel_of t s) s)
    where
      go : (b : Bool) (w : Result (ServerChannel S) Fault) → (cond b (did {M = ToClient} s []) (did (passed t w s) [])).side.user ≡ s.user
      go true w = refl
      go false (Ok y) = refl
      go false (Err f) = refl

  login-user : (r : Rules) (n u : ℕ) (q : List ℕ) (o : Option ℕ) (s : Server S E) → is_some o ≡ true → (login_by r n u q o s).side.user ≡ s.user
  login-user r n u q None s h = absurd (true≢false (sym h))
  login-user r n u q (Some v) s h = refl

  serve-user : (r : Rules) (p : Programs S E) (n : ℕ) (m : ToServer) (ms : List ToServer) (s : Server S E) → Steady (m ∷ ms) s.user → (serve r p n m s).side.user ≡ s.user
  unfolding NoLogin
  serve-user r p n (Login u q) ms s (inl h) = absurd h
  serve-user r p n (Login u q) ms s (inr h) = flush-user r (login_by r n u q s.user s) ∙ login-user r n u q s.user s h
  serve-user r p n Tick ms s h = flush-user r (did s [])
  serve-user r p n (For t (Run k)) ms s h = flush-user r (start r p t k s) ∙ start-user r p t k s
  serve-user r p n (For t (Input bs)) ms s h = flush-user r (pass r t (Input bs) s) ∙ pass-user r t (Input bs) s
  serve-user r p n (For t (OutputCredit k)) ms s h = flush-user r (pass r t (OutputCredit k) s) ∙ pass-user r t (OutputCredit k) s
  serve-user r p n (For t Eof) ms s h = flush-user r (pass r t Eof s) ∙ pass-user r t Eof s
  serve-user r p n (For t Close) ms s h = flush-user r (pass r t Close s) ∙ pass-user r t Close s

steady-tail : (m : ToServer) (ms : List ToServer) (o : Option ℕ) → Steady (m ∷ ms) o → Steady ms o
unfolding NoLogin
steady-tail (Login u q) ms o (inl h) = absurd h
steady-tail Tick ms o (inl h) = inl h
steady-tail (For t m) ms o (inl h) = inl h
steady-tail m ms o (inr h) = inr h

module _ {S E : Type 0} (r : Rules) (fair : Fair r) (p : Programs S E) (e : E) (inv : (vs : List Event) → Inv r (after r p e vs)) where
  -- all that was on the way there has arrived, and brought n messages back at the most
  pub record There (vs : List Event) (n : ℕ) (post : List ToServer) (ws : List Event) : Type 0 where
    pub up : Up (after r p e ws)
    pub endured : Endures r (after r p e ws)
    pub client : (after r p e ws).client ≡ (after r p e vs).client
    pub connection : (after r p e ws).connection ≡ (after r p e vs).connection
    pub user : (after r p e ws).server.user ≡ (after r p e vs).server.user
    pub there : (after r p e ws).there ≡ post
    pub brought : List ToClient
    pub back : (after r p e ws).back ≡ (after r p e vs).back ++ brought
    pub few : length brought ≤ n

  pub one-there : (vs : List Event) (m : ToServer) (ms ns : List ToServer) → Up (after r p e vs) → Endures r (after r p e vs) → (after r p e vs).there ≡ m ∷ ms → Steady (m ∷ ns) (after r p e vs).server.user → There vs (r.window + 1) ms (ArriveThere ∷ vs)
  unfolding after
  one-there vs m ms ns u en q h =
      let w = after r p e vs in
      let a = there-is r p w m ms u.1 q in
      let s = steps-there r p w fair (inv vs) u en m ms q in
      let d = there-served r p w fair (inv vs) u en m ms q in
      record {
        up = s.up;
        endured = s.endured;
        client = ap (λ (v : World S E). v.client) a;
        connection = ap (λ (v : World S E). v.connection) a;
        user = ap (λ (v : World S E). v.server.user) a ∙ serve-user r p w.connection m ns w.server h;
        there = ap (λ (v : World S E). v.there) a;
        brought = (serve r p w.connection m w.server).sends;
        back = ap (λ (v : World S E). v.back) a;
        few = let k = d.few in let l = room_most r fair m in omega arith;
      }

  pub drain-there : (pre post : List ToServer) (vs : List Event) → Up (after r p e vs) → Endures r (after r p e vs) → (after r p e vs).there ≡ pre ++ post → Steady pre (after r p e vs).server.user → Comes is_arrival vs (length pre) (There vs (length pre * (r.window + 1)) post)
  drain-there [] post vs u en q h = comes-now is_arrival vs 0 (There vs (0 * (r.window + 1)) post) (record { up = u; endured = en; client = refl; connection = refl; user = refl; there = q; brought = []; back = sym (append-nil (after r p e vs).back); few = omega arith })
  drain-there (m ∷ pre) post vs u en q h =
      comes-more is_arrival is_arrival vs (1 + length pre) (suc (length pre)) (There vs (suc (length pre) * (r.window + 1)) post) (λ v a. a) (omega arith)
      (comes-then is_arrival vs 1 (length pre) (λ ws. ws ≡ ArriveThere ∷ vs) (There vs (suc (length pre) * (r.window + 1)) post) (comes-one is_arrival ArriveThere vs (λ ws. ws ≡ ArriveThere ∷ vs) refl refl)
      (λ ws a. subst (λ (l : List Event). Comes is_arrival l (length pre) (There vs (suc (length pre) * (r.window + 1)) post)) (sym a)
      (join (drain-there pre post (ArriveThere ∷ vs) o.up o.endured o.there (subst (λ (x : Option ℕ). Steady pre x) (sym o.user) (steady-tail m pre (after r p e vs).server.user h))))))
    where
      o : There vs (r.window + 1) (pre ++ post) (ArriveThere ∷ vs)
      o = one-there vs m (pre ++ post) pre u en q h

      join : Comes is_arrival (ArriveThere ∷ vs) (length pre) (There (ArriveThere ∷ vs) (length pre * (r.window + 1)) post) → Comes is_arrival (ArriveThere ∷ vs) (length pre) (There vs (suc (length pre) * (r.window + 1)) post)
      join z = let d = z.3 in (
        z.0,
        z.1,
        z.2,
        record {
          up = d.up;
          endured = d.endured;
          client = d.client ∙ o.client;
          connection = d.connection ∙ o.connection;
          user = d.user ∙ o.user;
          there = d.there;
          brought = o.brought ++ d.brought;
          back = d.back ∙ ap (λ l. l ++ d.brought) o.back ∙ append_assoc (after r p e vs).back o.brought d.brought;
          few = let a = o.few in let b = d.few in let c = length-append o.brought d.brought in omega arith;
        },
      )

  -- all that was on the way here has arrived
  pub record Here (vs : List Event) (post : List ToClient) (ws : List Event) : Type 0 where
    pub up : Up (after r p e ws)
    pub endured : Endures r (after r p e ws)
    pub server : (after r p e ws).server ≡ (after r p e vs).server
    pub back : (after r p e ws).back ≡ post
    pub kept : (t : ℕ) (x : ClientChannel) → channel_at t (after r p e vs).client ≡ Some x → KeptHere x (channel_at t (after r p e ws).client)

  pub one-here : (vs : List Event) (m : ToClient) (ms : List ToClient) → Up (after r p e vs) → Endures r (after r p e vs) → (after r p e vs).back ≡ m ∷ ms → Here vs ms (ArriveHere ∷ vs)
  unfolding after
  one-here vs m ms u en q =
      let w = after r p e vs in
      let a = here-is r p w m ms u.0 q in
      let s = steps-here r p w fair (inv vs) u en m ms q in
      record {
        up = s.up;
        endured = s.endured;
        server = ap (λ (v : World S E). v.server) a;
        back = ap (λ (v : World S E). v.back) a;
        kept = λ t x k. subst (λ (c : Client). KeptHere x (channel_at t c)) (sym (ap (λ (v : World S E). v.client) a)) (take-keeps r t w.client x m k);
      }

  pub drain-here : (pre post : List ToClient) (vs : List Event) → Up (after r p e vs) → Endures r (after r p e vs) → (after r p e vs).back ≡ pre ++ post → Comes is_arrival vs (length pre) (Here vs post)
  drain-here [] post vs u en q = comes-now is_arrival vs 0 (Here vs post) (record { up = u; endured = en; server = refl; back = q; kept = λ t x k. (x, k, here-same x) })
  drain-here (m ∷ pre) post vs u en q =
      comes-more is_arrival is_arrival vs (1 + length pre) (suc (length pre)) (Here vs post) (λ v a. a) (omega arith)
      (comes-then is_arrival vs 1 (length pre) (λ ws. ws ≡ ArriveHere ∷ vs) (Here vs post) (comes-one is_arrival ArriveHere vs (λ ws. ws ≡ ArriveHere ∷ vs) refl refl)
      (λ ws a. subst (λ (l : List Event). Comes is_arrival l (length pre) (Here vs post)) (sym a) (join (drain-here pre post (ArriveHere ∷ vs) o.up o.endured o.back))))
    where
      o : Here vs (pre ++ post) (ArriveHere ∷ vs)
      o = one-here vs m (pre ++ post) u en q

      join : Comes is_arrival (ArriveHere ∷ vs) (length pre) (Here (ArriveHere ∷ vs) post) → Comes is_arrival (ArriveHere ∷ vs) (length pre) (Here vs post)
      join z = let d = z.3 in (
        z.0,
        z.1,
        z.2,
        record {
          up = d.up;
          endured = d.endured;
          server = d.server ∙ o.server;
          back = d.back;
          kept = λ t x k. let a = o.kept t x k in let b = d.kept t a.0 a.1 in (b.0, b.1, here-trans x a.0 b.0 a.2 b.2);
        },
      )
