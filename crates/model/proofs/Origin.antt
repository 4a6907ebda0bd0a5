-- The numbers of the server's channels differ and were used; from where a channel of the server comes. Assumes nothing.
use Rattle.std.proofs.Common.{◌≡◌, ℕ, Bool, true, false, cond, List, [], ◌∷◌, ◌++◌, Some, None, sym, refl, ap, ◌∙◌, subst, arith}
use mathlib.Core.List.Memᴰ
use Rattle.std.proofs.lemmas.Bool.{eqb-false}
use Rattle.model.specs.Keyed.{find, change, is_in, above, each}
use Rattle.model.specs.Messages.{Rules, Run, ToServer, For, Programs}
use Rattle.model.specs.Server.{ServerChannel, Server, number_at, is_live, is_over, forgot, sent_back, sent_kept, whom, channel_of, new_program}
use Rattle.model.specs.World.{World, Event, User, Turn, ArriveThere, ArriveHere, CutHere, CutThere, Connect, Time, after}
use Rattle.model.specs.History.{comes_up}
use Rattle.model.specs.Promises.{AtServer}
use Rattle.model.proofs.Lists.{All, all_end, all-each, every-all, all-change, find-mem, find_none, Found, found-each, found-change, found-end, used-below, used-end}
use Rattle.model.proofs.Turns.{Hears, dropped, input, credit, eof, close, Acts, waits, reads, writes, goes_on, ends, breaks, Takes, whole, counts, runs_out}
use Rattle.model.proofs.Steps.{used-more, Rests, Settles, sends, forgets, Moves, stays, accepts, begins, hear, turns, Steps, leaves, moves, connects, steps}
use Rattle.model.proofs.Steps as step_by

module _ {S : Type 0} where
  -- what is done to a channel leaves its number
  pub sent-number : (x : ServerChannel S) → (sent_back x).number ≡ x.number
  sent-number x = go x.forgotten
    where
      go : (b : Bool) → (cond b x (sent_kept x)).number ≡ x.number
      go true = refl
      go false = refl

  pub hears-number : {x y : ServerChannel S} → Hears x y → y.number ≡ x.number
  hears-number dropped = refl
  hears-number (input bs a b) = refl
  hears-number (credit n a) = refl
  hears-number (eof a b) = refl
  hears-number (close a b) = refl

module _ {S E : Type 0} (r : Rules) (p : Programs S E) where
  acts-number : {up : Bool} {e : E} {x y : ServerChannel S} → Acts r p up e x y → y.number ≡ x.number
  acts-number (waits w) = refl
  acts-number (reads k a b c) = refl
  acts-number (writes bs a b c) = refl
  acts-number (goes_on a) = refl
  acts-number (ends n a b) = refl
  acts-number (breaks a) = refl

  pub takes-number : {e : E} {x : ServerChannel S} {up : Bool} {y : ServerChannel S} → Takes r p e x up y → y.number ≡ x.number
  takes-number (whole a) = acts-number a
  takes-number (counts a b) = acts-number a
  takes-number (runs_out a b) = acts-number a

  -- numbers differ, and were used
  abbrev pub Apart : Server S E → Type 0
  Apart s = Found number_at s.channels × All (λ x. is_in x.number s.used ≡ true) s.channels

  -- a number above all that were used is not found
  pub unused-none : (s : Server S E) (t : ℕ) → Apart s → above t s.used ≡ true → channel_of t s ≡ None
  unused-none s t a h = find_none number_at t s.channels (λ x m e. let l = used-below x.number t s.used (a.1 x m) h in omega arith)

  change-apart : (s : Server S E) (t : ℕ) (y : ServerChannel S) → y.number ≡ t → Apart s → Found number_at (change number_at t (λ _. y) s.channels) × All (λ x. is_in x.number s.used ≡ true) (change number_at t (λ _. y) s.channels)
  change-apart s t y e a =
      (found-change number_at t (λ _. y) (λ _ _. e) s.channels a.0, all-change number_at (λ x. is_in x.number s.used ≡ true) (λ x. is_in x.number s.used ≡ true) t (λ _. y) s.channels (λ x m n h. h) (λ x m n h. ap (λ k. is_in k s.used) (e ∙ sym n) ∙ h) a.1)

  moves-apart : {n : ℕ} {there : List ToServer} {s : Server S E} {v : Event} {s' : Server S E} → Moves r p n there s v s' → Apart s → Apart s'
  moves-apart (stays used tries up a b c) h = (h.0, λ x m. b x.number (h.1 x m))
  moves-apart (accepts u q ms a b c) h = h
  moves-apart {s = s} (begins t k ms u a b c d) h =
      (found-end number_at s.channels _ (unused-none s t h b) h.0, all_end (λ x. is_in x.number (s.used ++ t ∷ []) ≡ true) s.channels _ (λ x m. used-more x.number t s.used (h.1 x m)) (used-end t s.used))
  moves-apart {s = s} (hear t {x} {y} a b) h = change-apart s t y (hears-number b ∙ (find-mem number_at t s.channels x a).1) h
  moves-apart {s = s} (turns t env {x} {y} a b c) h = change-apart s t y (takes-number c ∙ (find-mem number_at t s.channels x a).1) h

  each-apart : (s : Server S E) (f : ServerChannel S → ServerChannel S) → ((x : ServerChannel S) → (f x).number ≡ x.number) → Apart s → Found number_at (each f s.channels) × All (λ x. is_in x.number s.used ≡ true) (each f s.channels)
  each-apart s f e a = (found-each number_at f e s.channels a.0, all-each (λ x. is_in x.number s.used ≡ true) (λ x. is_in x.number s.used ≡ true) f s.channels (λ x m h. ap (λ k. is_in k s.used) (e x) ∙ h) a.1)

  settles-apart : {s s' : Server S E} → Settles s s' → Apart s → Apart s'
  settles-apart {s} (sends a) h = each-apart s sent_back sent-number h
  settles-apart {s} (forgets a b) h = each-apart s forgot (λ x. refl) h
  settles-apart (step_by.waits a b) h = h

  steps_apart : {w : World S E} {v : Event} {s : Server S E} → Steps r p w v s → Apart w.server → Apart s
  steps_apart (leaves a b) h = h
  steps_apart (moves a b c) h = settles-apart c (moves-apart b h)
  steps_apart (connects a) h = (λ x m. absurd (Memᴰ.not-nil m), λ x m. absurd (Memᴰ.not-nil m))

  pub apart : (e : E) (vs : List Event) → Apart (after r p e vs).server
  unfolding after
  apart e [] = (λ x m. absurd (Memᴰ.not-nil m), λ x m. absurd (Memᴰ.not-nil m))
  apart e (v ∷ vs) = steps_apart (steps r p v (after r p e vs)) (apart e vs)

  -- from where a channel comes, before the server sends by itself
  pub data Comes (w : World S E) : Event → ServerChannel S → Type 0 where
    old : {v : Event} {x : ServerChannel S} → AtServer x w → (v ≡ Turn x.number → is_live x ≡ false) → Comes w v x
    new : (t k : ℕ) (ms : List ToServer) → w.server.up ≡ true → w.there ≡ For t (Run k) ∷ ms → channel_of t w.server ≡ None → w.server.user ≡ Some (whom w.server.user) → r.may (whom w.server.user) k ≡ true → Comes w ArriveThere (new_program r p t k (whom w.server.user) w.server.env)
    heard : {x y : ServerChannel S} → AtServer x w → Hears x y → Comes w ArriveThere y
    turned : {x y : ServerChannel S} → AtServer x w → channel_of x.number w.server ≡ Some x → is_live x ≡ true → Takes r p w.server.env x w.server.up y → Comes w (Turn x.number) y

  -- and behind that; up: whether the server is, after it
  pub data Origin (w : World S E) (v : Event) (up : Bool) : ServerChannel S → Type 0 where
    left : {x : ServerChannel S} → up ≡ w.server.up → AtServer x w → (v ≡ Turn x.number → is_live x ≡ false) → Origin w v up x
    sent : {x : ServerChannel S} → up ≡ true → w.server.up ≡ true → Comes w v x → Origin w v up (sent_back x)
    forgot-all : {x : ServerChannel S} → up ≡ false → is_over x ≡ true → Comes w v x → Origin w v up (forgot x)
    waiting : {x : ServerChannel S} → up ≡ false → Comes w v x → Origin w v up x

  module _ (w : World S E) (apart : Apart w.server) where
    rests : (v : Event) → Rests v w.server → (x : ServerChannel S) → AtServer x w → v ≡ Turn x.number → is_live x ≡ false
    rests (User k) a x m e = absurd (let z : ◌≡◌ {A = ℕ} 0 1 = cc in omega arith)
    rests (Turn t) a x m e = let d : t ≡ x.number = cc in a x (ap (λ k. find number_at k w.server.channels) d ∙ apart.0 x m)
    rests ArriveThere a x m e = absurd (let z : ◌≡◌ {A = ℕ} 0 1 = cc in omega arith)
    rests ArriveHere a x m e = absurd (let z : ◌≡◌ {A = ℕ} 0 1 = cc in omega arith)
    rests CutHere a x m e = absurd (let z : ◌≡◌ {A = ℕ} 0 1 = cc in omega arith)
    rests CutThere a x m e = absurd (let z : ◌≡◌ {A = ℕ} 0 1 = cc in omega arith)
    rests Connect a x m e = absurd (let z : ◌≡◌ {A = ℕ} 0 1 = cc in omega arith)
    rests Time a x m e = absurd (let z : ◌≡◌ {A = ℕ} 0 1 = cc in omega arith)

    comes : {v : Event} {s : Server S E} → Moves r p w.connection w.there w.server v s → All (Comes w v) s.channels × (s.up ≡ true → w.server.up ≡ true)
    comes {v} (stays used tries up a b c) = (λ x m. old m (rests v a x m), c)
    comes (accepts u q ms a b c) = (λ x m. old m (rests ArriveThere tt x m), λ e. e)
    comes (begins t k ms u a b c d) = (all_end (Comes w ArriveThere) w.server.channels _ (λ x m. old m (rests ArriveThere tt x m)) (new t k ms u a (unused-none w.server t apart b) c d), λ e. e)
    comes (hear t {x} {y} a b) =
        (all-change number_at (λ z. AtServer z w) (Comes w ArriveThere) t (λ _. y) w.server.channels (λ z m n h. old m (rests ArriveThere tt z m)) (λ z m n h. heard (find-mem number_at t w.server.channels x a).0 b) (λ z m. m), λ e. e)
    comes (turns t env {x} {y} a b c) =
        let (m, e) = find-mem number_at t w.server.channels x a in (
          all-change number_at (λ z. AtServer z w) (Comes w (Turn t)) t (λ _. y) w.server.channels
              (λ z m n h. old m (λ k. absurd (eqb-false z.number t n (let d : z.number ≡ t = cc in d))))
              (λ z _ _ _. subst (λ k. Comes w (Turn k) y) e (turned m (apart.0 x m) b c)) (λ z m. m),
          λ k. k,
        )

    origins : {v : Event} {s : Server S E} → Steps r p w v s → All (λ x. (comes_up v w ≡ false) × Origin w v s.up x) s.channels
    origins {v} (leaves a b) x m = (a, left refl m (rests v b x m))
    origins {v} {s} (moves a b c) x m = (a, go c (comes b).0 (comes b).1 x m)
      where
        go : {s s' : Server S E} → Settles s s' → All (Comes w v) s.channels → (s.up ≡ true → w.server.up ≡ true) → All (Origin w v s'.up) s'.channels
        go {s} (sends a) h u = all-each (Comes w v) (Origin w v s.up) sent_back s.channels (λ x m k. sent a (u a) k) h
        go {s} (forgets a b) h u = all-each (Comes w v) (Origin w v s.up) forgot s.channels (λ x m k. forgot-all a (every-all is_over s.channels b x m) k) h
        go (step_by.waits a b) h u = λ x m. waiting a (h x m)
    origins (connects a) x m = absurd (Memᴰ.not-nil m)

  pub origin : (e : E) (v : Event) (vs : List Event) (x : ServerChannel S) → AtServer x (after r p e (v ∷ vs)) → (comes_up v (after r p e vs) ≡ false) × Origin (after r p e vs) v (after r p e (v ∷ vs)).server.up x
  unfolding after
  origin e v vs x m = origins (after r p e vs) (apart e vs) (steps r p v (after r p e vs)) x m
