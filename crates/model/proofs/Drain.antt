-- After the cut every program ends within the turns that it has left. Assumes nothing.
use Rattle.std.proofs.Common.{◌≡◌, ℕ, suc, ◌+◌, ◌<◌, ◌≤◌, Bool, true, false, cond, eqb, ◌⊎◌, List, [], ◌∷◌, ◌++◌, sym, refl, ap, ◌∙◌, subst, inl, inr, arith}
use Rattle.std.proofs.lemmas.Bool.{both_ways, eqb-true, eq-eqb, not_from_false}
use Rattle.model.specs.Keyed.{find}
use Rattle.model.specs.Messages.{Rules, ToServer, ToClient, Programs, is_some}
use Rattle.model.specs.Server.{ServerChannel, Server, number_at, is_live}
use Rattle.model.specs.World.{World, Event, User, Turn, ArriveThere, ArriveHere, CutHere, CutThere, Connect, Time, arrive_there, arrive_here, can_connect, connected, step, after}
use Rattle.model.specs.History.{comes_up}
use Rattle.model.specs.Promises.{AtServer, turns_of, DrainEnds}
use Rattle.model.proofs.Turns.{Hears, dropped, input, credit, eof, close, Acts, waits, reads, writes, goes_on, ends, breaks, Takes, whole, counts, runs_out}
use Rattle.model.proofs.Steps.{Settles, sends, forgets, Moves, stays, accepts, begins, hear, turns, Steps, leaves, moves, connects, steps}
use Rattle.model.proofs.Steps as step_by
use Rattle.model.proofs.Origin.{hears-number, takes-number, Comes, old, new, heard, turned, Origin, left, sent, forgot-all, waiting, apart, origin}
use Rattle.model.proofs.Sound.{Sound, sound, live, over}

module _ {S E : Type 0} (r : Rules) (p : Programs S E) where
  -- which connection it is after an event
  pub connection-after : (v : Event) (w : World S E) → ((comes_up v w ≡ false) × ((step r p v w).connection ≡ w.connection)) ⊎ ((comes_up v w ≡ true) × ((step r p v w).connection ≡ suc w.connection))
  connection-after (User k) w = inl (refl, refl)
  connection-after (Turn t) w = inl (refl, refl)
  connection-after ArriveThere w = inl (refl, go w.server.up w.there)
    where
      go : (up : Bool) (ms : List ToServer) → (arrive_there r p up ms w).connection ≡ w.connection
      go up [] = refl
      go true (m ∷ ms) = refl
      go false (m ∷ ms) = refl
  connection-after ArriveHere w = inl (refl, go w.client.up w.back)
    where
      go : (up : Bool) (ms : List ToClient) → (arrive_here r up ms w).connection ≡ w.connection
      go up [] = refl
      go true (m ∷ ms) = refl
      go false (m ∷ ms) = refl
  connection-after CutHere w = inl (refl, refl)
  connection-after CutThere w = inl (refl, refl)
  connection-after Connect w = go (can_connect w) refl
    where
      go : (b : Bool) → can_connect w ≡ b → ((can_connect w ≡ false) × ((cond b (connected w) w).connection ≡ w.connection)) ⊎ ((can_connect w ≡ true) × ((cond b (connected w) w).connection ≡ suc w.connection))
      go true h = inr (h, refl)
      go false h = inl (h, refl)
  connection-after Time w = inl (refl, refl)

  pub keeps-connection : (v : Event) (w : World S E) → comes_up v w ≡ false → (step r p v w).connection ≡ w.connection
  keeps-connection v w c = go (connection-after v w)
    where
      go : ((comes_up v w ≡ false) × ((step r p v w).connection ≡ w.connection)) ⊎ ((comes_up v w ≡ true) × ((step r p v w).connection ≡ suc w.connection)) → (step r p v w).connection ≡ w.connection
      go (inl a) = a.1
      go (inr a) = absurd (both_ways (comes_up v w) c a.0)

  -- a server that is down comes up only by a new connection
  moves-up : {n : ℕ} {there : List ToServer} {s : Server S E} {v : Event} {s' : Server S E} → Moves r p n there s v s' → s'.up ≡ true → s.up ≡ true
  moves-up (stays used tries up a b c) = c
  moves-up (accepts u q ms a b c) = λ h. h
  moves-up (begins t k ms u a b c d) = λ h. h
  moves-up (hear t a b) = λ h. h
  moves-up (turns t env a b c) = λ h. h

  settles-up : {s s' : Server S E} → Settles s s' → s'.up ≡ s.up
  settles-up (sends a) = refl
  settles-up (forgets a b) = refl
  settles-up (step_by.waits a b) = refl

  steps_up : {w : World S E} {v : Event} {s : Server S E} → Steps r p w v s → comes_up v w ≡ false → s.up ≡ true → w.server.up ≡ true
  steps_up (leaves a b) h u = u
  steps_up (moves a b c) h u = moves-up b (sym (settles-up c) ∙ u)
  steps_up {w} {v} (connects a) h u = absurd (both_ways (comes_up v w) h a)

  pub stays-down : (v : Event) (w : World S E) → comes_up v w ≡ false → w.server.up ≡ false → (step r p v w).server.up ≡ false
  stays-down v w c d = go (step r p v w).server.up refl
    where
      go : (b : Bool) → (step r p v w).server.up ≡ b → b ≡ false
      go true h = absurd (both_ways w.server.up d (steps_up (steps r p v w) c h))
      go false h = refl

  module _ (e : E) (vs : List Event) where
    connection-grows : (fs : List Event) → (after r p e vs).connection ≤ (after r p e (fs ++ vs)).connection
    unfolding after
    connection-grows [] = omega arith
    connection-grows (v ∷ fs) = go (connection-after v w) (connection-grows fs)
      where
        w : World S E
        w = after r p e (fs ++ vs)

        go : ((comes_up v w ≡ false) × ((step r p v w).connection ≡ w.connection)) ⊎ ((comes_up v w ≡ true) × ((step r p v w).connection ≡ suc w.connection)) → (after r p e vs).connection ≤ w.connection → (after r p e vs).connection ≤ (step r p v w).connection
        go (inl a) h = omega (arith, a.1)
        go (inr a) h = omega (arith, a.1)

    -- in the same connection at the end, so at every step before
    same-connection : (v : Event) (fs : List Event) → (after r p e (v ∷ fs ++ vs)).connection ≡ (after r p e vs).connection → (comes_up v (after r p e (fs ++ vs)) ≡ false) × ((after r p e (fs ++ vs)).connection ≡ (after r p e vs).connection)
    unfolding after
    same-connection v fs h = go (connection-after v w)
      where
        w : World S E
        w = after r p e (fs ++ vs)

        go : ((comes_up v w ≡ false) × ((step r p v w).connection ≡ w.connection)) ⊎ ((comes_up v w ≡ true) × ((step r p v w).connection ≡ suc w.connection)) → (comes_up v w ≡ false) × (w.connection ≡ (after r p e vs).connection)
        go (inl a) = (a.0, sym a.1 ∙ h)
        go (inr a) = absurd (let b = connection-grows fs in omega (arith, a.1))

    pub still-down : (fs : List Event) → (after r p e vs).server.up ≡ false → (after r p e (fs ++ vs)).connection ≡ (after r p e vs).connection → (after r p e (fs ++ vs)).server.up ≡ false
    unfolding after
    still-down [] d h = d
    still-down (v ∷ fs) d h = let (c, k) = same-connection v fs h in stays-down v (after r p e (fs ++ vs)) c (still-down fs d k)

  turn-counts : (t : ℕ) (fs : List Event) → turns_of t (Turn t ∷ fs) ≡ suc (turns_of t fs)
  unfolding turns_of
  turn-counts t fs = let a : ◌≡◌ {A = ℕ} (cond (eqb t t) 1 0) 1 = ap (λ b. cond {A = ℕ} b 1 0) (eq-eqb t t refl) in omega arith

  turn-or-not : (t : ℕ) (v : Event) (fs : List Event) → (v ≡ Turn t) ⊎ (turns_of t (v ∷ fs) ≡ turns_of t fs)
  unfolding turns_of
  turn-or-not t (User k) fs = inr refl
  turn-or-not t (Turn u) fs = go (eqb u t) refl
    where
      go : (b : Bool) → eqb u t ≡ b → (Turn u ≡ Turn t) ⊎ (cond b 1 0 + turns_of t fs ≡ turns_of t fs)
      go true a = inl (ap Turn (eqb-true u t a))
      go false a = inr (omega arith)
  turn-or-not t ArriveThere fs = inr refl
  turn-or-not t ArriveHere fs = inr refl
  turn-or-not t CutHere fs = inr refl
  turn-or-not t CutThere fs = inr refl
  turn-or-not t Connect fs = inr refl
  turn-or-not t Time fs = inr refl

  hears-left : {x y : ServerChannel S} → Hears x y → (y.left ≡ x.left) × (y.exit ≡ x.exit)
  hears-left dropped = (refl, refl)
  hears-left (input bs a b) = (refl, refl)
  hears-left (credit n a) = (refl, refl)
  hears-left (eof a b) = (refl, refl)
  hears-left (close a b) = (refl, refl)

  acts-left : {up : Bool} {e : E} {x y : ServerChannel S} → Acts r p up e x y → y.left ≡ x.left
  acts-left (waits w) = refl
  acts-left (reads k a b c) = refl
  acts-left (writes bs a b c) = refl
  acts-left (goes_on a) = refl
  acts-left (ends n a b) = refl
  acts-left (breaks a) = refl

  -- of the channel t there were so many turns, and it has ended or has the rest left
  abbrev Left : ℕ → ℕ → ServerChannel S → Type 0
  Left all n x = (is_some x.exit ≡ true) ⊎ (x.left + n ≤ all)

  takes-left : {e : E} {x : ServerChannel S} {up : Bool} {y : ServerChannel S} (all n : ℕ) → Takes r p e x up y → up ≡ false → x.left + n ≤ all → Left all (suc n) y
  takes-left all n (whole a) u h = absurd (both_ways true u refl)
  takes-left all n (counts a (inl b)) u h = inl b
  takes-left all n (counts a (inr b)) u h = inr (omega (arith, acts-left a))
  takes-left all n (runs_out a b) u h = inl refl

  module _ (w : World S E) (down : w.server.up ≡ false) (t all : ℕ) (sound : (x : ServerChannel S) → AtServer x w → Sound r.drain x) (fs : List Event) (was : (x : ServerChannel S) → AtServer x w → x.number ≡ t → Left all (turns_of t fs) x) where
    old-left : (v : Event) (x : ServerChannel S) → AtServer x w → (v ≡ Turn x.number → is_live x ≡ false) → x.number ≡ t → Left all (turns_of t (v ∷ fs)) x
    old-left v x m b k = go (turn-or-not t v fs) (was x m k)
      where
        go : (v ≡ Turn t) ⊎ (turns_of t (v ∷ fs) ≡ turns_of t fs) → Left all (turns_of t fs) x → Left all (turns_of t (v ∷ fs)) x
        go (inl c) h = inl (over x (sound x m) (not_from_false (is_live x) (b (c ∙ ap Turn (sym k)))))
        go (inr c) (inl d) = inl d
        go (inr c) (inr d) = inr (omega arith)

    comes-left : {v : Event} {x : ServerChannel S} → Comes r p w v x → x.number ≡ t → Left all (turns_of t (v ∷ fs)) x
    unfolding turns_of
    comes-left {v} (old {x = x} a b) k = old-left v x a b k
    comes-left (new n c ms u a b d f) k = absurd (both_ways w.server.up down u)
    comes-left (heard {x = x} {y = y} a b) k = go (was x a (sym (hears-number b) ∙ k))
      where
        go : Left all (turns_of t fs) x → Left all (turns_of t (ArriveThere ∷ fs)) y
        go (inl h) = inl (ap is_some (hears-left b).1 ∙ h)
        go (inr h) = inr (omega (arith, (hears-left b).0))
    comes-left (turned {x = x} {y = y} a b c d) k = go (was x a e)
      where
        e : x.number ≡ t
        e = sym (takes-number r p d) ∙ k

        go : Left all (turns_of t fs) x → Left all (turns_of t (Turn x.number ∷ fs)) y
        go (inl h) = absurd (let l = (live x c).1 in both_ways (is_some x.exit) (ap is_some l) h)
        go (inr h) = subst (λ n. Left all n y) (sym (turn-counts t fs) ∙ ap (λ n. turns_of t (Turn n ∷ fs)) (sym e)) (takes-left all (turns_of t fs) d down h)

    origin-left : {v : Event} {up : Bool} {x : ServerChannel S} → Origin r p w v up x → x.number ≡ t → Left all (turns_of t (v ∷ fs)) x
    origin-left {v} (left {x = x} a b c) k = old-left v x b c k
    origin-left (sent a b c) k = absurd (both_ways w.server.up down b)
    origin-left (forgot-all a b c) k = comes-left c k
    origin-left (waiting a b) k = comes-left b k

module _ {S E : Type 0} where
  drain-left : (r : Rules) (p : Programs S E) (e : E) (vs : List Event) → (after r p e vs).server.up ≡ false → (f : ServerChannel S) → AtServer f (after r p e vs) → (fs : List Event) → (after r p e (fs ++ vs)).connection ≡ (after r p e vs).connection →
      (g : ServerChannel S) → AtServer g (after r p e (fs ++ vs)) → g.number ≡ f.number → (is_some g.exit ≡ true) ⊎ (g.left + turns_of f.number fs ≤ f.left)
  unfolding turns_of
  drain-left r p e vs d f m [] h g n k =
      let a = (apart r p e vs).0 in
      let b = a g n in
      let c = ap (λ t. find number_at t (after r p e vs).server.channels) k ∙ a f m in
      let s : g ≡ f = cc in
      inr (let l = ap (λ x. x.left) s in omega arith)
  drain-left r p e vs d f m (v ∷ fs) h g n k =
      let (c, o) = same-connection r p e vs v fs h in
      origin-left r p (after r p e (fs ++ vs)) (still-down r p e vs fs d o) f.number f.left (sound r p e (fs ++ vs)) fs (drain-left r p e vs d f m fs o) (origin r p e v (fs ++ vs) g n).1 k

  pub drain-ends : DrainEnds S E
  drain-ends r fair p e vs d f m = ((sound r p e vs f m).few, λ fs l h g n k. go g fs l (drain-left r p e vs d f m fs h g n k) ((sound r p e (fs ++ vs) g n).some fair.drain))
    where
      go : (g : ServerChannel S) (fs : List Event) → f.left ≤ turns_of f.number fs → (is_some g.exit ≡ true) ⊎ (g.left + turns_of f.number fs ≤ f.left) → (is_some g.exit ≡ true) ⊎ (0 < g.left) → is_some g.exit ≡ true
      go g fs l (inl a) b = a
      go g fs l (inr a) (inl b) = b
      go g fs l (inr a) (inr b) = absurd (omega arith)
