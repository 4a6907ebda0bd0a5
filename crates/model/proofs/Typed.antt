-- Every channel of the client was started by a command that was obeyed, and no more of its input waits than may. Assumes nothing.
use Rattle.std.proofs.Common.{◌≡◌, ℕ, ◌+◌, ◌≤◌, Bool, true, false, cond, not, ltb, List, [], ◌∷◌, ◌++◌, length, Some, None, Ok, Err, Option, Result, sym, refl, ap, ◌∙◌, subst, arith, length-append}
use mathlib.Core.List.Memᴰ
use mathlib.Core.List.{Memᴰ}
use Rattle.std.proofs.lemmas.Bool.{or_parts, not-false, ltb-false}
use Rattle.model.specs.Keyed.{find, change, numbers, above, each}
use Rattle.model.specs.Messages.{Rules, Reply, Runs, Output, InputCredit, Exit, ToServer, ToClient, Accepted, Tock, Of, Fault, Programs, Did, did, is_some}
use Rattle.model.specs.Client.{Client, ClientChannel, Phase, Asked, Running, Refused, Closed, Command, LogIn, Start, Enter, Finish, Take, Refusal, refusal, unless, number_of, channel_at, found_held, found_eof, found_full, entered, finished, took_more, takeable, answered, got_more, may_more, told_exit, hear_in, hear, heard, receive, flushed_running, flushed, flush, command, obey_unless, new_channel, runs, client}
use Rattle.model.specs.World.{World, Event, User, Turn, ArriveThere, ArriveHere, CutHere, CutThere, Connect, Time, arrive_there, arrive_here, can_connect, connected, step, after}
use Rattle.model.specs.History.{comes_up, Obeyed}
use Rattle.model.specs.Promises.{AtClient}
use Rattle.model.proofs.Lists.{All, all_end, all-each, all-change, find-mem, above-none, Found, found-each, found-change, found-end}
use Rattle.model.proofs.Turns.{ok_same, err-never, no-fault}

-- no reason for a refusal
pub unless-none : (b : Bool) (f : Refusal) (rest : Option Refusal) → unless b f rest ≡ None → (b ≡ false) × (rest ≡ None)
unless-none true f rest e = absurd (let z : ◌≡◌ {A = ℕ} 0 1 = cc in omega arith)
unless-none false f rest e = (refl, e)

-- what a message leaves of a channel as it was
pub hear-keeps : (Q : ℕ → ℕ → List ℕ → ℕ → Type 0) (r : Rules) (m : Reply) (x y : ClientChannel) → hear r m (Some x) ≡ Ok y → Q x.number x.command x.input x.sent → Q y.number y.command y.input y.sent
hear-keeps Q r m x y e q = go x.phase m e
  where
    to : (z : ClientChannel) → ◌≡◌ {A = Result ClientChannel Fault} (Ok z) (Ok y) → Q z.number z.command z.input z.sent → Q y.number y.command y.input y.sent
    to z d k = subst (λ w. Q w.number w.command w.input w.sent) (ok_same z y d) k

    go : (h : Phase) (m : Reply) → hear_in r h m x ≡ Ok y → Q y.number y.command y.input y.sent
    go Asked (Runs b) d = to (answered b x) d q
    go Asked (Output bs) d = absurd (err-never _ y d)
    go Asked (InputCredit n) d = absurd (err-never _ y d)
    go Asked (Exit s) d = absurd (err-never _ y d)
    go Running (Runs b) d = absurd (err-never _ y d)
    go Running (Output bs) d = let (b, f) = no-fault (is_some x.exit) _ _ y d in to (got_more bs x) (no-fault _ _ _ y f).1 q
    go Running (InputCredit n) d = to (may_more n x) (no-fault _ _ _ y d).1 q
    go Running (Exit s) d = to (told_exit s x) (no-fault _ _ _ y d).1 q
    go Refused m d = to x d q
    go Closed m d = to x d q

module _ {S E : Type 0} (r : Rules) (p : Programs S E) (e : E) where
  abbrev Fits : List Event → ℕ → ℕ → List ℕ → ℕ → Type 0
  Fits vs t k is n = Obeyed r p e (Start t k) vs × (length is ≤ n + r.waiting)

  abbrev Typed : List Event → ClientChannel → Type 0
  Typed vs x = Fits vs x.number x.command x.input x.sent

  abbrev Inv : List Event → List ClientChannel → Type 0
  Inv vs cs = Found number_of cs × All (Typed vs) cs

  still-typed : (v : Event) (vs : List Event) (cs : List ClientChannel) → comes_up v (after r p e vs) ≡ false → Inv vs cs → Inv (v ∷ vs) cs
  still-typed v vs cs c h = (h.0, λ x m. (Obeyed.still c (h.1 x m).0, (h.1 x m).1))

  flushed-number : (x : ClientChannel) → (flushed x).number ≡ x.number
  flushed-number x = go (runs x.phase)
    where
      go : (b : Bool) → (cond b (flushed_running x) x).number ≡ x.number
      go true = refl
      go false = refl

  flushed-typed : (vs : List Event) (x : ClientChannel) → Typed vs x → Typed vs (flushed x)
  flushed-typed vs x h = go (runs x.phase)
    where
      go : (b : Bool) → Typed vs (cond b (flushed_running x) x)
      go true = (h.0, omega (arith, h.1))
      go false = h

  flush-typed : (vs : List Event) (d : Did Client ToServer) → Inv vs d.side.channels → Inv vs (flush r d).side.channels
  flush-typed vs d h = go d.side.up (d.sends ++ _)
    where
      go : (b : Bool) (ms : List ToServer) → Inv vs (cond b (did (client (each flushed d.side.channels) d.side.accepted d.side.up) ms) d).side.channels
      go true ms = (found-each number_of flushed flushed-number d.side.channels h.0, all-each (Typed vs) (Typed vs) flushed d.side.channels (λ x m k. flushed-typed vs x k) h.1)
      go false ms = h

  change-typed : (vs : List Event) (t : ℕ) (f : ClientChannel → ClientChannel) (cs : List ClientChannel) → ((x : ClientChannel) → x.number ≡ t → (f x).number ≡ t) → ((x : ClientChannel) → Memᴰ x cs → x.number ≡ t → Typed vs x → Typed vs (f x)) → Inv vs cs → Inv vs (change number_of t f cs)
  change-typed vs t f cs k g h = (found-change number_of t f k cs h.0, all-change number_of (Typed vs) (Typed vs) t f cs (λ x m n a. a) g h.1)

  -- an obeyed command; the channels fit what happened with it
  command-typed : (vs : List Event) (k : Command) (c : Client) → refusal r k c ≡ None → ((t n : ℕ) → k ≡ Start t n → Obeyed r p e (Start t n) vs) → Inv vs c.channels → Inv vs (command k c).side.channels
  command-typed vs (LogIn u q) c o s h = h
  command-typed vs (Start t n) c o s h =
      let a = (unless-none _ _ _ o).0 in
      let b = not-false (above t (numbers number_of c.channels)) (or_parts (not (above t (numbers number_of c.channels))) _ a).0 in
      (found-end number_of c.channels (new_channel t n) (above-none number_of t c.channels b) h.0, all_end (Typed vs) c.channels (new_channel t n) h.1 (s t n refl, omega arith))
  command-typed vs (Enter t bs) c o s h = change-typed vs t (entered bs) c.channels (λ x k. k) (λ x m k a. (a.0, more x (full x (ap (λ j. find number_of j c.channels) (sym k) ∙ h.0 x m)))) h
    where
      full : (x : ClientChannel) → channel_at t c ≡ Some x → found_full r (length bs) (Some x) ≡ false
      full x f =
          let (a, o₁) = unless-none (not (found_held (channel_at t c))) _ _ o in
          let (b, o₂) = unless-none (not c.up) _ _ o₁ in
          let (d, o₃) = unless-none (found_eof (channel_at t c)) _ _ o₂ in
          sym (ap (found_full r (length bs)) f) ∙ (unless-none (found_full r (length bs) (channel_at t c)) _ _ o₃).0

      more : (x : ClientChannel) → ltb (x.sent + r.waiting) (length x.input + length bs) ≡ false → length (x.input ++ bs) ≤ x.sent + r.waiting
      more x f = let g = ltb-false (x.sent + r.waiting) (length x.input + length bs) f in simp length-append (omega arith)
  command-typed vs (Finish t) c o s h = change-typed vs t finished c.channels (λ x k. k) (λ x m k a. a) h
  command-typed vs (Take t n) c o s h = change-typed vs t (took_more (takeable n (channel_at t c))) c.channels (λ x k. k) (λ x m k a. a) h

  receive-typed : (vs : List Event) (m : ToClient) (c : Client) → Inv vs c.channels → Inv vs (receive r m c).channels
  receive-typed vs (Accepted b) c h = h
  receive-typed vs Tock c h = h
  receive-typed vs (Of t m) c h = go (channel_at t c) refl
    where
      by : (x : ClientChannel) → channel_at t c ≡ Some x → (o : Result ClientChannel Fault) → hear r m (Some x) ≡ o → Inv vs (heard t o c).channels
      by x f (Ok y) g =
          let (k, n) = find-mem number_of t c.channels x f in
          change-typed vs t (λ _. y) c.channels (λ _ _. hear-keeps (λ j _ _ _. j ≡ t) r m x y g n) (λ _ _ _ _. hear-keeps (Fits vs) r m x y g (h.1 x k)) h
      by x f (Err z) g = h

      go : (o : Option ClientChannel) → channel_at t c ≡ o → Inv vs (heard t (hear r m o) c).channels
      go None f = h
      go (Some x) f = by x f (hear r m (Some x)) refl

  step_typed : (v : Event) (vs : List Event) → Inv vs (after r p e vs).client.channels → Inv (v ∷ vs) (step r p v (after r p e vs)).client.channels
  step_typed (User k) vs h = go (refusal r k c) refl
    where
      c : Client
      c = (after r p e vs).client

      started : refusal r k c ≡ None → (t n : ℕ) → k ≡ Start t n → Obeyed r p e (Start t n) (User k ∷ vs)
      started o t n d = subst (λ j. Obeyed r p e j (User k ∷ vs)) d (Obeyed.now o)

      go : (o : Option Refusal) → refusal r k c ≡ o → Inv (User k ∷ vs) (obey_unless r k c o).side.channels
      go None o = flush-typed (User k ∷ vs) (command k c) (command-typed (User k ∷ vs) k c o (started o) (still-typed (User k) vs c.channels refl h))
      go (Some f) o = still-typed (User k) vs c.channels refl h
  step_typed (Turn t) vs h = still-typed (Turn t) vs _ refl h
  step_typed ArriveThere vs h = go w.server.up w.there
    where
      w : World S E
      w = after r p e vs

      go : (up : Bool) (ms : List ToServer) → Inv (ArriveThere ∷ vs) (arrive_there r p up ms w).client.channels
      go up [] = still-typed ArriveThere vs _ refl h
      go true (m ∷ ms) = still-typed ArriveThere vs _ refl h
      go false (m ∷ ms) = still-typed ArriveThere vs _ refl h
  step_typed ArriveHere vs h = go w.client.up w.back
    where
      w : World S E
      w = after r p e vs

      k : Inv (ArriveHere ∷ vs) w.client.channels
      k = still-typed ArriveHere vs w.client.channels refl h

      go : (up : Bool) (ms : List ToClient) → Inv (ArriveHere ∷ vs) (arrive_here r up ms w).client.channels
      go up [] = k
      go true (m ∷ ms) = flush-typed (ArriveHere ∷ vs) (did (receive r m w.client) []) (receive-typed (ArriveHere ∷ vs) m w.client k)
      go false (m ∷ ms) = k
  step_typed CutHere vs h = still-typed CutHere vs _ refl h
  step_typed CutThere vs h = still-typed CutThere vs _ refl h
  step_typed Connect vs h = go (can_connect w) refl
    where
      w : World S E
      w = after r p e vs

      go : (b : Bool) → can_connect w ≡ b → Inv (Connect ∷ vs) (cond b (connected w) w).client.channels
      go true c = (λ x m. absurd (Memᴰ.not-nil m), λ x m. absurd (Memᴰ.not-nil m))
      go false c = still-typed Connect vs w.client.channels c h
  step_typed Time vs h = still-typed Time vs _ refl h

  typed : (vs : List Event) → Inv vs (after r p e vs).client.channels
  unfolding after
  typed [] = (λ x m. absurd (Memᴰ.not-nil m), λ x m. absurd (Memᴰ.not-nil m))
  typed (v ∷ vs) = step_typed v vs (typed vs)

  -- each channel of the client is found by its number
  pub client-apart : (vs : List Event) → Found number_of (after r p e vs).client.channels
  client-apart vs = (typed vs).0

  pub channel-obeyed : (vs : List Event) (x : ClientChannel) → AtClient x (after r p e vs) → Obeyed r p e (Start x.number x.command) vs
  channel-obeyed vs x m = ((typed vs).1 x m).0

  -- the second part of what is said of windows
  pub input-waits : (vs : List Event) (x : ClientChannel) → AtClient x (after r p e vs) → length x.input ≤ x.sent + r.waiting
  input-waits vs x m = ((typed vs).1 x m).1
