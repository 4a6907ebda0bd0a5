-- Worlds that come by events of some kind, so many at most; first, one with nothing on the way. Assumes only the invariant.
use Rattle.std.proofs.Common.{◌≡◌, ℕ, ◌+◌, ◌≤◌, Bool, true, List, [], ◌∷◌, ◌++◌, length, Some, None, Option, sym, refl, subst, append_assoc, arith}
use Rattle.std.proofs.lemmas.List.{length-append}
use Rattle.std.proofs.lemmas.Bool.{true≢false}
use Rattle.model.specs.Messages.{Rules, Fair, ToServer, ToClient, Programs, is_some}
use Rattle.model.specs.Client.{ClientChannel, channel_at}
use Rattle.model.specs.Server.{ServerChannel, channel_of}
use Rattle.model.specs.World.{World, Event, User, Turn, ArriveThere, ArriveHere, CutHere, CutThere, Connect, Time, after}
use Rattle.model.specs.Promises.{Up}
use Rattle.model.specs.Progress.{All, Empty, is_arrival, brings_in, brings_out, endures, Endures}
use Rattle.model.proofs.Ways.{asks, tells-of}
use Rattle.model.proofs.Local.{Local, Pair}
use Rattle.model.proofs.Inv.{Inv}
use Rattle.model.proofs.Weights.{endures-some}
use Rattle.model.proofs.Settle.{load, busy-went, can-settle, busy-arrivals}
use Rattle.model.proofs.Keeps.{KeptHere, KeptThere, arrivals-here, arrivals-there}

-- by at most n events that pass a test, some list for which P
abbrev pub Comes : (Event → Bool) → List Event → ℕ → (List Event → Type 0) → Type 0
Comes q vs n P = (fs : List Event) × All q fs × (length fs ≤ n) × P (fs ++ vs)

all_append : (q : Event → Bool) (a b : List Event) → All q a → All q b → All q (a ++ b)
unfolding All
all_append q [] b h k = k
all_append q (v ∷ a) b h k = (h.0, all_append q a b h.1 k)

pub all-weaken : (q s : Event → Bool) → ((v : Event) → q v ≡ true → s v ≡ true) → (fs : List Event) → All q fs → All s fs
unfolding All
all-weaken q s h [] a = tt
all-weaken q s h (v ∷ fs) a = (h v a.0, all-weaken q s h fs a.1)

pub comes-now : (q : Event → Bool) (vs : List Event) (n : ℕ) (P : List Event → Type 0) → P vs → Comes q vs n P
unfolding All
comes-now q vs n P h = ([], tt, omega arith, h)

pub comes-one : (q : Event → Bool) (v : Event) (vs : List Event) (P : List Event → Type 0) → q v ≡ true → P (v ∷ vs) → Comes q vs 1 P
unfolding All
comes-one q v vs P e h = (v ∷ [], (e, tt), omega arith, h)

pub comes-then : (q : Event → Bool) (vs : List Event) (n m : ℕ) (P Q : List Event → Type 0) → Comes q vs n P → ((ws : List Event) → P ws → Comes q ws m Q) → Comes q vs (n + m) Q
comes-then q vs n m P Q a h =
    let b = h (a.0 ++ vs) a.3 in
    (b.0 ++ a.0, all_append q b.0 a.0 b.1 a.1, let l = length-append b.0 a.0 in let k = a.2 in let j = b.2 in omega arith, subst (λ (l : List Event). Q l) (sym (append_assoc b.0 a.0 vs)) b.3)

-- one event, and then others
pub comes-event : (q : Event → Bool) (v : Event) (vs : List Event) (n : ℕ) (P : List Event → Type 0) → q v ≡ true → Comes q (v ∷ vs) n P → Comes q vs (1 + n) P
comes-event q v vs n P e h = comes-then q vs 1 n (λ ws. ws ≡ v ∷ vs) P (comes-one q v vs (λ ws. ws ≡ v ∷ vs) e refl) (λ ws a. subst (λ (l : List Event). Comes q l n P) (sym a) h)

pub comes-more : (q s : Event → Bool) (vs : List Event) (n m : ℕ) (P : List Event → Type 0) → ((v : Event) → q v ≡ true → s v ≡ true) → n ≤ m → Comes q vs n P → Comes s vs m P
comes-more q s vs n m P h l a = (a.0, all-weaken q s h a.0 a.1, let k = a.2 in omega arith, a.3)

pub arrival-out : (t : ℕ) (v : Event) → is_arrival v ≡ true → brings_out t v ≡ true
arrival-out t (User k) h = absurd (true≢false (sym h))
arrival-out t (Turn n) h = absurd (true≢false (sym h))
arrival-out t ArriveThere h = refl
arrival-out t ArriveHere h = refl
arrival-out t CutHere h = absurd (true≢false (sym h))
arrival-out t CutThere h = absurd (true≢false (sym h))
arrival-out t Connect h = absurd (true≢false (sym h))
arrival-out t Time h = absurd (true≢false (sym h))

pub arrival-in : (t : ℕ) (v : Event) → is_arrival v ≡ true → brings_in t v ≡ true
arrival-in t (User k) h = absurd (true≢false (sym h))
arrival-in t (Turn n) h = absurd (true≢false (sym h))
arrival-in t ArriveThere h = refl
arrival-in t ArriveHere h = refl
arrival-in t CutHere h = absurd (true≢false (sym h))
arrival-in t CutThere h = absurd (true≢false (sym h))
arrival-in t Connect h = absurd (true≢false (sym h))
arrival-in t Time h = absurd (true≢false (sym h))

-- one channel at both sides at rest
pub record Rested {S E : Type 0} (r : Rules) (w : World S E) (t : ℕ) (x : ClientChannel) (f : ServerChannel S) : Type 0 where
  pub up : Up w
  pub empty : Empty w
  pub here : channel_at t w.client ≡ Some x
  pub there : channel_of t w.server ≡ Some f
  pub pair : Pair r true true x f [] []

module _ {S E : Type 0} (r : Rules) where
  -- of a channel at the server both ends are known
  pub pair_of : (w : World S E) → Inv r w → Up w → (t : ℕ) (f : ServerChannel S) → channel_of t w.server ≡ Some f → (x : ClientChannel) × (channel_at t w.client ≡ Some x) × Pair r true true x f (asks t w.there) (tells-of t w.back)
  pair_of w i u t f e = go (channel_at t w.client) refl
      (subst (λ (o : Option (ServerChannel S)). Local r true true (channel_at t w.client) o (asks t w.there) (tells-of t w.back)) e
      (subst (λ (b : Bool). Local r b true (channel_at t w.client) (channel_of t w.server) (asks t w.there) (tells-of t w.back)) u.0
      (subst (λ (b : Bool). Local r w.client.up b (channel_at t w.client) (channel_of t w.server) (asks t w.there) (tells-of t w.back)) u.1 (i.local t))))
    where
      go : (o : Option ClientChannel) → channel_at t w.client ≡ o → Local r true true o (Some f) (asks t w.there) (tells-of t w.back) → (x : ClientChannel) × (o ≡ Some x) × Pair r true true x f (asks t w.there) (tells-of t w.back)
      go None q l = absurd l
      go (Some x) q l = (x, refl, l)

  pub rested : (w : World S E) → Inv r w → Up w → Empty w → (t : ℕ) (f : ServerChannel S) → channel_of t w.server ≡ Some f → (x : ClientChannel) × Rested r w t x f
  unfolding asks tells-of
  rested w i u m t f e =
      let z = pair_of w i u t f e in
      (z.0, record { up = u; empty = m; here = z.1; there = e; pair = subst (λ (l : List ToClient). Pair r true true z.0 f [] (tells-of t l)) m.1 (subst (λ (l : List ToServer). Pair r true true z.0 f (asks t l) (tells-of t w.back)) m.0 z.2) })

  pub endures-user : (w : World S E) → is_some w.server.user ≡ true → Endures r w
  endures-user w h = go w.server.user h
    where
      go : (o : Option ℕ) → is_some o ≡ true → endures r w.connection o w.server.tries w.there ≡ true
      go None e = absurd (true≢false (sym e))
      go (Some u) e = endures-some r w.connection u w.server.tries w.there

module _ {S E : Type 0} (r : Rules) (fair : Fair r) (p : Programs S E) (e : E) (inv : (vs : List Event) → Inv r (after r p e vs)) where
  -- a world with nothing on the way, with what it kept
  pub record Settled (vs ws : List Event) : Type 0 where
    pub up : Up (after r p e ws)
    pub empty : Empty (after r p e ws)
    pub here : (t : ℕ) (x : ClientChannel) → channel_at t (after r p e vs).client ≡ Some x → KeptHere x (channel_at t (after r p e ws).client)
    pub there : (t : ℕ) (f : ServerChannel S) → channel_of t (after r p e vs).server ≡ Some f → KeptThere f (channel_of t (after r p e ws).server)

  pub settle : (vs : List Event) → Up (after r p e vs) → Endures r (after r p e vs) → Comes is_arrival vs (load r (after r p e vs)) (Settled vs)
  settle vs u en =
      let z = can-settle r fair p e inv vs u en in
      let w = busy-went r fair p e inv vs z.0 u en z.1 in
      let a = busy-arrivals r p e vs z.0 z.1 in
      (z.0, a, let l = w.less in omega arith, record { up = w.up; empty = z.2; here = arrivals-here r p e vs z.0 a; there = arrivals-there r p e vs z.0 a })
