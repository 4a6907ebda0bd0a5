-- All that a program wrote, and its exit, come by arrivals and takings. Assumes only the invariant.
use Rattle.std.proofs.Common.{◌≡◌, ℕ, zero, suc, ◌+◌, ◌*◌, ◌≤◌, Bool, true, false, cond, not, eqb, ◌⊎◌, List, [], ◌∷◌, ◌++◌, length, Some, None, Option, sym, refl, ap, ◌∙◌, subst, inl, inr, mul-le-mul_left, arith}
use mathlib.Core.List.{Memᴰ}
use Rattle.std.proofs.lemmas.Bool.{cond-true, eqb-true}
use Rattle.std.specs.Option.{option_map}
use Rattle.model.specs.Keyed.{find, change, numbers, is_in, Rising, gather, each}
use Rattle.model.specs.Messages.{Rules, Fair, ToServer, ToClient, Programs, Did, did}
use Rattle.model.specs.Client.{Client, ClientChannel, Phase, Running, client, number_of, channel_at, holds, runs, requests, requests_of, flushed, flush, Take, NotHeld, refusal, unless, found_held, obey, obey_unless, takeable, took_more, output_credit, with_channels}
use Rattle.model.specs.Server.{ServerChannel, number_at, channel_of}
use Rattle.model.specs.World.{Event, User, after}
use Rattle.model.specs.Promises.{Up, AtClient, AtServer}
use Rattle.model.specs.Progress.{All, Empty, is_arrival, brings_out, Endures}
use Rattle.model.proofs.Finds.{find-key, find-change, find-mem, found, eqb_same, rising-tail, rising-first}
use Rattle.model.proofs.Inv.{Inv}
use Rattle.model.proofs.Still.{change-none, gather-one, of_members, requests-none}
use Rattle.model.proofs.Dropped.{labelled-none}
use Rattle.model.proofs.Takes.{requests-few}
use Rattle.model.proofs.Weights.{weights, weights-append, weights-requests, heavy}
use Rattle.model.proofs.Settle.{load, load-most}
use Rattle.model.proofs.Keeps.{SameThere, KeptHere, flush-keeps}
use Rattle.model.proofs.Users.{has-user}
use Rattle.model.proofs.Rest.{AllOut, SomeOut, out-rest}
use Rattle.model.proofs.Reach.{Comes, comes-now, comes-one, comes-then, comes-more, arrival-out, Rested, rested, endures-user, Settled, settle}

-- only one channel has the number
change-at : {X : Type 0} (key : X → ℕ) (t : ℕ) (f : X → X) (x : X) (xs : List X) → Rising (numbers key xs) → find key t xs ≡ Some x → change key t f xs ≡ change key t (λ _. f x) xs
unfolding change numbers find is_in
change-at key t f x [] r e = refl
change-at key t f x (y ∷ ys) r e = go (eqb (key y) t) refl e (change-at key t f x ys (rising-tail (key y) (numbers key ys) r))
  where
    later : is_in t (numbers key ys) ≡ true → eqb (key y) t ≡ true → ⊥
    later i q = let l = rising-first (key y) t (numbers key ys) r i in let z = eqb-true (key y) t q in omega arith

    none : (b : Bool) → is_in t (numbers key ys) ≡ b → eqb (key y) t ≡ true → b ≡ false
    none true i q = absurd (later i q)
    none false i q = refl

    go : (b : Bool) → eqb (key y) t ≡ b → cond b (Some y) (find key t ys) ≡ Some x → (find key t ys ≡ Some x → change key t f ys ≡ change key t (λ _. f x) ys) → cond b (f y) y ∷ change key t f ys ≡ cond b (f x) y ∷ change key t (λ _. f x) ys
    go true q k ih =
        let z : y ≡ x = cc in
        let i = none (is_in t (numbers key ys)) refl q in
        let a = change-none key t f ys i in
        let b = change-none key t (λ _. f x) ys i in
        let c = ap f z in cc
    go false q k ih = ap (λ l. y ∷ l) (ih k)

credit-weight : (r : Rules) (b : Bool) (t n : ℕ) → weights r (cond b (output_credit t n) []) ≤ heavy r
unfolding weights
credit-weight r true t zero = omega arith
credit-weight r true t (suc n) = omega arith
credit-weight r false t n = omega arith

pub record Taken (r : Rules) (t : ℕ) (y : ClientChannel) (d : Did Client ToServer) : Type 0 where
  pub up : d.side.up ≡ true
  pub light : weights r d.sends ≤ heavy r + 2
  pub kept : KeptHere y (channel_at t d.side)

-- the user takes of a channel that runs
taking : (r : Rules) (c : Client) (t k : ℕ) (x : ClientChannel) → Rising (numbers number_of c.channels) → ((z : ClientChannel) → Memᴰ z c.channels → requests r z ≡ []) → c.up ≡ true → channel_at t c ≡ Some x → x.phase ≡ Running → Taken r t (took_more (takeable k (Some x)) x) (obey r (Take t k) c)
taking r c t k x ris idle cu e q = subst (λ (d : Did Client ToServer). Taken r t (took_more n x) d) (sym obeyed)
    (record {
      up = cu;
      light = let a = weights-append r ms (gather (requests_of r) cs) in let b = credit-weight r c.up t n in let g = ap (weights r) sent in let v = weights-requests r (took_more n x) in let f = requests-few r (took_more n x) in let z = ap length (requests-none r x (ap runs q) (idle x (find-mem number_of t c.channels x e))).0 in omega arith;
      kept = subst (λ (d : Did Client ToServer). KeptHere (took_more n x) (channel_at t d.side)) flushes (flush-keeps r t (did (with_channels cs c) ms) (took_more n x) at);
    })
  where
    n : ℕ
    n = takeable k (Some x)

    cs : List ClientChannel
    cs = change number_of t (took_more n) c.channels

    ms : List ToServer
    ms = cond c.up (output_credit t n) []

    free : refusal r (Take t k) c ≡ None
    free = ap (λ o. unless (not (found_held o)) NotHeld None) e ∙ ap (λ (s : Phase). unless (not (holds s)) NotHeld None) q

    flushes : flush r (did (with_channels cs c) ms) ≡ did (client (each flushed cs) c.accepted c.up) (ms ++ gather (requests_of r) cs)
    flushes = cond-true c.up (did (client (each flushed cs) c.accepted c.up) (ms ++ gather (requests_of r) cs)) (did (with_channels cs c) ms) cu

    obeyed : obey r (Take t k) c ≡ did (client (each flushed cs) c.accepted c.up) (ms ++ gather (requests_of r) cs)
    obeyed = ap (obey_unless r (Take t k) c) free
        ∙ ap (λ (o : Option ClientChannel). flush r (did (with_channels (change number_of t (took_more (takeable k o)) c.channels) c) (cond c.up (output_credit t (takeable k o)) []))) e
        ∙ flushes

    sent : gather (requests_of r) cs ≡ requests_of r (took_more n x)
    sent = ap (gather (requests_of r)) (change-at number_of t (took_more n) x c.channels ris e) ∙ gather-one number_of (requests_of r) t x (took_more n x) c.channels ris e (λ z m. labelled-none r z (idle z m))

    at : find number_of t cs ≡ Some (took_more n x)
    at = find-change number_of t (took_more n) (λ z h. h) t c.channels ∙ ap (λ b. cond b (option_map (took_more n) (find number_of t c.channels)) (find number_of t c.channels)) (eqb_same t) ∙ ap (option_map (took_more n)) e

pub some_same : {A : Type 0} (o : Option A) (x y : A) → o ≡ Some x → o ≡ Some y → x ≡ y
some_same o x y a b = cc

pub bound : (r : Rules) (a b c k : ℕ) → a ≤ b * heavy r → a + c * (heavy r + 3) ≤ (c + b + k) * ((r.window + 4) * (r.window + 4))
bound r a b c k h =
    let g : heavy r + 3 ≤ (r.window + 4) * (r.window + 4) = omega arith in
    let i = mul-le-mul_left c g in
    let j : b * heavy r ≤ b * ((r.window + 4) * (r.window + 4)) = mul-le-mul_left b (let m : heavy r ≤ (r.window + 4) * (r.window + 4) = omega arith in m) in
    let l : (c + b + k) * ((r.window + 4) * (r.window + 4)) ≡ c * ((r.window + 4) * (r.window + 4)) + b * ((r.window + 4) * (r.window + 4)) + k * ((r.window + 4) * (r.window + 4)) = omega arith in
    omega arith

module _ {S E : Type 0} (r : Rules) (fair : Fair r) (p : Programs S E) (e : E) (inv : (vs : List Event) → Inv r (after r p e vs)) where
  -- what the user then has
  pub record Shown (t : ℕ) (all : List ℕ) (end : Option ℕ) (ws : List Event) : Type 0 where
    pub up : Up (after r p e ws)
    pub channel : ClientChannel
    pub at : channel_at t (after r p e ws).client ≡ Some channel
    pub got : channel.got ≡ all
    pub exit : channel.exit ≡ end

  -- one round: the user takes all that came, and all that this brings comes
  pub record Round (t k : ℕ) (f : ServerChannel S) (ws : List Event) : Type 0 where
    pub up : Up (after r p e ws)
    pub empty : Empty (after r p e ws)
    pub channel : ServerChannel S
    pub at : channel_of t (after r p e ws).server ≡ Some channel
    pub same : SameThere f channel
    pub here : (x : ClientChannel) → channel_at t (after r p e ws).client ≡ Some x → x.taken ≡ k

  take-event : (vs : List Event) (t k : ℕ) (x : ClientChannel) (f : ServerChannel S) → Rested r (after r p e vs) t x f → x.phase ≡ Running → Taken r t (took_more (takeable k (Some x)) x) (obey r (Take t k) (after r p e vs).client)
  take-event vs t k x f h q = let i = inv vs in taking r (after r p e vs).client t k x i.rising (of_members number_of (requests r) (after r p e vs).client.channels i.rising (i.idle h.up.0)) h.up.0 h.here q

  round : (vs : List Event) (t : ℕ) (x : ClientChannel) (f : ServerChannel S) → Rested r (after r p e vs) t x f → SomeOut r x f → Comes (brings_out t) vs (heavy r + 3) (Round t (x.taken + r.window) f)
  unfolding after weights
  round vs t x f h s =
      comes-more (brings_out t) (brings_out t) vs (1 + (heavy r + 2)) (heavy r + 3) (Round t (x.taken + r.window) f) (λ v q. q) (omega arith)
      (comes-then (brings_out t) vs 1 (heavy r + 2) (λ ws. ws ≡ u ∷ vs) (Round t (x.taken + r.window) f) (comes-one (brings_out t) u vs (λ ws. ws ≡ u ∷ vs) (eqb_same t) refl)
      (λ ws q. subst (λ (l : List Event). Comes (brings_out t) l (heavy r + 2) (Round t (x.taken + r.window) f)) (sym q) then-settle))
    where
      k : ℕ
      k = length x.got

      u : Event
      u = User (Take t k)

      d : Taken r t (took_more (takeable k (Some x)) x) (obey r (Take t k) (after r p e vs).client)
      d = take-event vs t k x f h s.running

      y : ClientChannel
      y = d.kept.0

      up : Up (after r p e (u ∷ vs))
      up = (d.up, h.up.1)

      en : Endures r (after r p e (u ∷ vs))
      en = endures-user r (after r p e (u ∷ vs)) (has-user r p e vs t f h.there)

      lo : load r (after r p e (u ∷ vs)) ≤ heavy r + 2
      lo = let a = weights-append r (after r p e vs).there (obey r (Take t k) (after r p e vs).client).sends in let b = ap (weights r) h.empty.0 in let c = ap (λ (l : List ToClient). length l * (r.window + 3)) h.empty.1 in let l = d.light in omega arith

      then-settle : Comes (brings_out t) (u ∷ vs) (heavy r + 2) (Round t (x.taken + r.window) f)
      then-settle =
          let z = settle r fair p e inv (u ∷ vs) up en in
          let g = z.3.there t f h.there in
          let c = z.3.here t y d.kept.1 in
          comes-more is_arrival (brings_out t) (u ∷ vs) (load r (after r p e (u ∷ vs))) (heavy r + 2) (Round t (x.taken + r.window) f) (arrival-out t) lo (
            z.0,
            z.1,
            z.2,
            record {
              up = z.3.up;
              empty = z.3.empty;
              channel = g.0;
              at = g.1;
              same = g.2;
              here = λ w q.
                  ap (λ (v : ClientChannel). v.taken) (some_same (channel_at t (after r p e (z.0 ++ (u ∷ vs))).client) w c.0 q c.1) ∙ c.2.taken ∙ d.kept.2.taken ∙ (let a = s.full in omega arith);
            },
          )

  rounds : (n : ℕ) (vs : List Event) (t : ℕ) (x : ClientChannel) (f : ServerChannel S) → Rested r (after r p e vs) t x f → length f.wrote ≤ x.taken + n → Comes (brings_out t) vs (n * (heavy r + 3)) (Shown t f.wrote f.exit)
  rounds zero vs t x f h l = go (out-rest r x f h.pair ((inv vs).idle-there h.up.1 t f h.there))
    where
      go : AllOut x f ⊎ SomeOut r x f → Comes (brings_out t) vs (0 * (heavy r + 3)) (Shown t f.wrote f.exit)
      go (inl a) = comes-now (brings_out t) vs (0 * (heavy r + 3)) (Shown t f.wrote f.exit) (record { up = h.up; channel = x; at = h.here; got = a.0; exit = a.1 })
      go (inr s) = absurd (let a = s.full in let b = s.more in omega arith)
  rounds (suc n) vs t x f h l = go (out-rest r x f h.pair ((inv vs).idle-there h.up.1 t f h.there)) (λ ws y g q k. rounds n ws t y g q k)
    where
      P : List Event → Type 0
      P = Shown t f.wrote f.exit

      go : AllOut x f ⊎ SomeOut r x f → ((ws : List Event) (y : ClientChannel) (g : ServerChannel S) → Rested r (after r p e ws) t y g → length g.wrote ≤ y.taken + n → Comes (brings_out t) ws (n * (heavy r + 3)) (Shown t g.wrote g.exit)) → Comes (brings_out t) vs (suc n * (heavy r + 3)) P
      go (inl a) ih = comes-now (brings_out t) vs (suc n * (heavy r + 3)) P (record { up = h.up; channel = x; at = h.here; got = a.0; exit = a.1 })
      go (inr s) ih = comes-more (brings_out t) (brings_out t) vs ((heavy r + 3) + n * (heavy r + 3)) (suc n * (heavy r + 3)) P (λ v q. q) (omega arith)
          (comes-then (brings_out t) vs (heavy r + 3) (n * (heavy r + 3)) (Round t (x.taken + r.window) f) P (round vs t x f h s) again)
        where
          again : (ws : List Event) → Round t (x.taken + r.window) f ws → Comes (brings_out t) ws (n * (heavy r + 3)) P
          again ws d =
              let z = rested r (after r p e ws) (inv ws) d.up d.empty t d.channel d.at in
              let k : length d.channel.wrote ≤ z.0.taken + n = let a = ap length d.same.wrote in let b = d.here z.0 z.1.here in let c = fair.window in omega arith in
              subst (λ (a : List ℕ). Comes (brings_out t) ws (n * (heavy r + 3)) (Shown t a f.exit)) d.same.wrote
              (subst (λ (a : Option ℕ). Comes (brings_out t) ws (n * (heavy r + 3)) (Shown t d.channel.wrote a)) d.same.exit (ih ws z.0 d.channel z.1 k))

  pub output-comes : (vs : List Event) (f : ServerChannel S) → AtServer f (after r p e vs) → Up (after r p e vs) →
      (fs : List Event) × All (brings_out f.number) fs × (length fs ≤ (length f.wrote + length (after r p e vs).there + length (after r p e vs).back + 4) * ((r.window + 4) * (r.window + 4))) ×
      Up (after r p e (fs ++ vs)) × ((y : ClientChannel) × AtClient y (after r p e (fs ++ vs)) × (y.number ≡ f.number) × (y.got ≡ f.wrote) × (y.exit ≡ f.exit))
  output-comes vs f m u =
      let w = after r p e vs in
      let t = f.number in
      let q : channel_of t w.server ≡ Some f = found number_at f w.server.channels (inv vs).rising-there m in
      let en = endures-user r w (has-user r p e vs t f q) in
      let P : List Event → Type 0 = Shown t f.wrote f.exit in
      let a = comes-more is_arrival (brings_out t) vs (load r w) (load r w) (Settled r fair p e inv vs) (arrival-out t) (omega arith) (settle r fair p e inv vs u en) in
      let b = comes-then (brings_out t) vs (load r w) (length f.wrote * (heavy r + 3)) (Settled r fair p e inv vs) P a
      (λ ws d. let g = d.there t f q in let z = rested r (after r p e ws) (inv ws) d.up d.empty t g.0 g.1 in
      subst (λ (l : List ℕ). Comes (brings_out t) ws (length l * (heavy r + 3)) (Shown t l f.exit)) g.2.wrote
      (subst (λ (o : Option ℕ). Comes (brings_out t) ws (length g.0.wrote * (heavy r + 3)) (Shown t g.0.wrote o)) g.2.exit (rounds (length g.0.wrote) ws t z.0 g.0 z.1 (omega arith)))) in
      let s = b.3 in (
        b.0,
        b.1,
        (let l = b.2 in let k = bound r (load r w) (length w.there + length w.back) (length f.wrote) 4 (load-most r w) in let j : (length f.wrote + (length w.there + length w.back) + 4) * ((r.window + 4) * (r.window + 4)) ≡ (length f.wrote + length w.there + length w.back + 4) * ((r.window + 4) * (r.window + 4)) = ap (λ n. n * ((r.window + 4) * (r.window + 4))) (let v : length f.wrote + (length w.there + length w.back) + 4 ≡ length f.wrote + length w.there + length w.back + 4 = omega arith in v) in omega arith),
        s.up,
        (s.channel, find-mem number_of t (after r p e (b.0 ++ vs)).client.channels s.channel s.at, find-key number_of t (after r p e (b.0 ++ vs)).client.channels s.channel s.at, s.got, s.exit),
      )
