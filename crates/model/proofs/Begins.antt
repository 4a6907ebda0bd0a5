-- A start by who may is told to run. Assumes only the invariant.
use Rattle.std.proofs.Common.{◌≡◌, ℕ, ◌+◌, ◌*◌, ◌<◌, ◌≤◌, Bool, true, false, cond, not, ◌&&◌, eqb, ltb, List, [], ◌∷◌, ◌++◌, length, Some, None, Option, sym, refl, ap, ◌∙◌, subst, inl, inr, ⊎_elim, arith}
use mathlib.Core.List.Memᴰ
use mathlib.Core.List.{Memᴰ}
use Rattle.std.proofs.lemmas.List.{length-append}
use Rattle.std.proofs.lemmas.Bool.{true≢false, cond-true, or_parts, or_from, and_from, not-false, not-true, not_from_true, not_from_false, ltb-true, lt-ltb, ne_eqb}
use Rattle.std.specs.Option.{option_map}
use Rattle.model.specs.Keyed.{find, change, numbers, above, Rising, gather, each}
use Rattle.model.specs.Messages.{Rules, Fair, Request, Run, Reply, Runs, InputCredit, ToServer, For, ToClient, Of, Programs, Did, did, is_some}
use Rattle.model.specs.Client.{Client, ClientChannel, Phase, Asked, Running, Refused, Closed, client, number_of, channel_at, is_held, holds, new_channel, requests, requests_of, runs, flushed, flushed_running, flush, hear, hear_in, heard, answered, take_in, with_channels, Start, Refusal, BadNumber, TooManyHeld, Down, refusal, unless, bad_number, held_count, obey, obey_unless}
use Rattle.model.specs.Server.{Server, ServerChannel, server, number_at, channel_of, is_kept, replies_of, sent_back, flush_back, with_all, forget_all, runs_now, used_now, bad_start, may_run, kept_count, new_program, whom, serve}
use Rattle.model.specs.World.{World, Event, User, ArriveThere, ArriveHere, after, step, by_server, by_client}
use Rattle.model.specs.Promises.{Up, AtClient}
use Rattle.model.specs.Progress.{All, is_arrival}
use Rattle.model.proofs.Finds.{find-append, find-change, find-each, find-key, find-mem, above_in, above-not-in, in-find, rising-above, eqb_same}
use Rattle.model.proofs.Ways.{asks, tells-of}
use Rattle.model.proofs.Local.{Local, Pair, InPhase, AloneIn, Answered, has_close}
use Rattle.model.proofs.Inv.{Inv, starts}
use Rattle.model.proofs.Still.{of_members}
use Rattle.model.proofs.Dropped.{flush-still}
use Rattle.model.proofs.Arrive.{local-both, tells_first}
use Rattle.model.proofs.Settle.{Steps, there-is, here-is, steps-there}
use Rattle.model.proofs.Reach.{Comes, comes-one, comes-then, comes-more, comes-event, pair_of, endures-user}
use Rattle.model.proofs.Emptied.{There, drain-there, Here, drain-here}
use Rattle.model.proofs.Counts.{count-within}

unless-none : (b : Bool) (f : Refusal) (rest : Option Refusal) → unless b f rest ≡ None → (b ≡ false) × (rest ≡ None)
unless-none true f rest e = absurd (let z : ◌≡◌ {A = ℕ} 0 1 = cc in omega arith)
unless-none false f rest e = (refl, e)

-- what a start that is not refused says of the client
record Free (r : Rules) (t : ℕ) (c : Client) : Type 0 where
  above-all : above t (numbers number_of c.channels) ≡ true
  small : ltb r.last t ≡ false
  room : held_count c < r.most

free : (r : Rules) (t k : ℕ) (c : Client) → refusal r (Start t k) c ≡ None → Free r t c
free r t k c e =
    let a = unless-none (bad_number r t c) BadNumber (unless (not (ltb (held_count c) r.most)) TooManyHeld (unless (not c.up) Down None)) e in
    let b = unless-none (not (ltb (held_count c) r.most)) TooManyHeld (unless (not c.up) Down None) a.1 in
    let d = or_parts (not (above t (numbers number_of c.channels))) (ltb r.last t) a.0 in
    record { above-all = not-false (above t (numbers number_of c.channels)) d.0; small = d.1; room = ltb-true (held_count c) r.most (not-false (ltb (held_count c) r.most) b.0) }

abbrev more : ℕ → ℕ → Client → Client
more t k c = with_channels (c.channels ++ new_channel t k ∷ []) c

start_is : (r : Rules) (c : Client) (t k : ℕ) → refusal r (Start t k) c ≡ None → c.up ≡ true → ((x : ClientChannel) → Memᴰ x c.channels → requests r x ≡ []) → obey r (Start t k) c ≡ did (more t k c) (For t (Run k) ∷ [])
start_is r c t k no-refusal cu idle = ap (obey_unless r (Start t k) c) no-refusal ∙ flush-still r (more t k c) (For t (Run k) ∷ []) cu (λ x m. ⊎_elim (idle x) (λ q. ap (requests r) (Memᴰ.eq_of_singleton q)) (Memᴰ.append_cases c.channels m))

no-close : (j t k : ℕ) → has_close (asks j (For t (Run k) ∷ [])) ≡ false
unfolding has_close asks
no-close j t k = go (eqb t j)
  where
    go : (b : Bool) → has_close (cond b (Run k ∷ []) []) ≡ false
    go true = refl
    go false = refl

-- a channel that the server keeps, of which no close is on the way, is held
held : {S : Type 0} (r : Rules) (x : ClientChannel) (f : ServerChannel S) (us : List Request) (ds : List Reply) → Pair r true true x f us ds → has_close us ≡ false → f.forgotten ≡ false → is_held x ≡ true
held {S} r x f us ds h c k = go x.phase h.phase
  where
    go : (q : Phase) → InPhase q true x f us ds → holds q ≡ true
    go Asked p = refl
    go Running p = refl
    go Refused p = absurd p
    go Closed p = absurd (true≢false (sym (p.close refl k) ∙ c))

module _ {S E : Type 0} (r : Rules) where
  -- of a channel that was started and is the last there: it runs
  runs-now : (c : Client) (w : World S E) (t k u : ℕ) → Rising (numbers number_of c.channels) → Free r t c → Inv r w → Up w → w.client ≡ more t k c → w.there ≡ For t (Run k) ∷ [] → w.server.user ≡ Some u → r.may u k ≡ true → runs_now r t k w.server ≡ true
  unfolding starts
  runs-now c w t k u ris fr i up ec et eu may =
      and_from (not (bad_start r t s)) (may_run r k s.user && ltb (kept_count s) r.most) (not_from_false (bad_start r t s) (or_from (not (above t s.used)) (ltb r.last t) (not_from_true (above t s.used) top) fr.small))
      (and_from (may_run r k s.user) (ltb (kept_count s) r.most) (ap (may_run r k) eu ∙ may) (lt-ltb (kept_count s) r.most (let a = fits in let b = fr.room in omega arith)))
    where
      s : Server S E
      s = w.server

      order : numbers number_of w.client.channels ≡ s.used ++ t ∷ []
      order = i.order ∙ ap (λ l. s.used ++ starts l) et

      top : above t s.used ≡ true
      top = rising-above s.used t [] (subst (λ (l : List ℕ). Rising l) order i.rising)

      below : (j : ℕ) (f : ServerChannel S) → channel_of j s ≡ Some f → j < t
      below j f q = above_in t j s.used top (i.used j (in-find number_at j s.channels f q))

      old : (j : ℕ) (x : ClientChannel) → j < t → channel_at j w.client ≡ Some x → channel_at j c ≡ Some x
      old j x l q = sym (ap (λ b. cond b (Some (new_channel t k)) (find number_of j c.channels)) (ne_eqb t j (λ z. omega arith))) ∙ sym (find-append number_of j c.channels (new_channel t k) (above-not-in t (numbers number_of c.channels) fr.above-all)) ∙ ap (channel_at j) (sym ec) ∙ q

      fits : kept_count s ≤ held_count c
      fits = count-within number_at is_kept s.channels number_of is_held c.channels i.rising-there ris
          (λ j f q kept. let z = pair_of r w i up j f q in
          (z.0, old j z.0 (below j f q) z.1, held r z.0 f (asks j w.there) (tells-of j w.back) z.2 (ap (λ l. has_close (asks j l)) et ∙ no-close j t k) (not-true f.forgotten kept)))

  -- and that is told
  serve-start : (p : Programs S E) (n t k : ℕ) (s : Server S E) → s.up ≡ true → runs_now r t k s ≡ true → (rest : List ToClient) × ((serve r p n (For t (Run k)) s).sends ≡ Of t (Runs true) ∷ rest)
  serve-start p n t k s su now = (Of t (InputCredit r.window) ∷ gather (replies_of r) s2.channels, ap (λ (d : Did (Server S E) ToClient). d.sends) is)
    where
      s2 : Server S E
      s2 = server (s.channels ++ new_program r p t k (whom s.user) s.env ∷ []) (used_now r t s) s.user s.tries s.env s.up

      ms : List ToClient
      ms = Of t (Runs true) ∷ (Of t (InputCredit r.window) ∷ [])

      is : serve r p n (For t (Run k)) s ≡ did (with_all (each sent_back s2.channels) s2) (ms ++ gather (replies_of r) s2.channels)
      is = ap (flush_back r) (cond-true (runs_now r t k s) (did s2 ms) (did (server s.channels (used_now r t s) s.user s.tries s.env s.up) (Of t (Runs false) ∷ [])) now)
          ∙ cond-true s.up (did (with_all (each sent_back s2.channels) s2) (ms ++ gather (replies_of r) s2.channels)) (did (forget_all s2) ms) su

module _ {S : Type 0} (r : Rules) where
  -- whoever is told that it runs had asked
  asked_of : (x : ClientChannel) (o : Option (ServerChannel S)) (us : List Request) (ds : List Reply) → Local r true true (Some x) o us (Runs true ∷ ds) → (x.phase ≡ Asked) × (x.exit ≡ None)
  unfolding Answered
  asked_of x None us ds l = go x.phase refl l.1
    where
      go : (q : Phase) → x.phase ≡ q → AloneIn q x us (Runs true ∷ ds) → (x.phase ≡ Asked) × (x.exit ≡ None)
      go Asked q (inl p) = absurd (let a = p.1 in let z : ◌≡◌ {A = ℕ} 0 1 = cc in omega arith)
      go Asked q (inr p) = (q, l.0.exit)
      go Running q p = absurd p
      go Refused q p = absurd (let a = p.1 in let z : ◌≡◌ {A = ℕ} 0 1 = cc in omega arith)
      go Closed q p = absurd p
  asked_of x (Some f) us ds l = go x.phase refl l.phase
    where
      go : (q : Phase) → x.phase ≡ q → InPhase q true x f us (Runs true ∷ ds) → (x.phase ≡ Asked) × (x.exit ≡ None)
      go Asked q p = (q, p.fresh.exit)
      go Running q p = absurd p.answered
      go Refused q p = absurd p
      go Closed q p = absurd (let a = p.none-back in let z : ◌≡◌ {A = ℕ} 0 1 = cc in omega arith)

-- the client is told that a channel runs
told-runs : (r : Rules) (c : Client) (t : ℕ) (x : ClientChannel) → c.up ≡ true → channel_at t c ≡ Some x → x.phase ≡ Asked → channel_at t (take_in r (Of t (Runs true)) c).side ≡ Some (flushed_running (answered true x))
told-runs r c t x cu e q =
    ap (λ d. channel_at t (flush r (did d [])).side) (ap (λ o. heard t (hear r (Runs true) o) c) e ∙ ap (λ s. heard t (hear_in r s (Runs true) x) c) q)
    ∙ ap (λ (d : Did Client ToServer). channel_at t d.side) (cond-true c.up (did (client (each flushed cs) c.accepted c.up) (gather (requests_of r) cs)) (did (with_channels cs c) []) cu)
    ∙ find-each number_of flushed number-kept t cs ∙ ap (option_map flushed) at
  where
    y : ClientChannel
    y = answered true x

    cs : List ClientChannel
    cs = change number_of t (λ _. y) c.channels

    number-kept : (z : ClientChannel) → (flushed z).number ≡ z.number
    number-kept z = go (runs z.phase)
      where
        go : (b : Bool) → (cond b (flushed_running z) z).number ≡ z.number
        go true = refl
        go false = refl

    at : find number_of t cs ≡ Some y
    at = find-change number_of t (λ _. y) (λ _ _. find-key number_of t c.channels x e) t c.channels ∙ ap (λ b. cond b (option_map (λ _. y) (find number_of t c.channels)) (find number_of t c.channels)) (eqb_same t) ∙ ap (option_map (λ _. y)) e

module _ {S E : Type 0} (r : Rules) (fair : Fair r) (p : Programs S E) (e : E) (inv : (vs : List Event) → Inv r (after r p e vs)) where
  pub record Runs-there (t k : ℕ) (ws : List Event) : Type 0 where
    pub channel : ClientChannel
    pub at : channel_at t (after r p e ws).client ≡ Some channel
    pub command : channel.command ≡ k
    pub phase : channel.phase ≡ Running

  told_here : (ws : List Event) (t k : ℕ) (x : ClientChannel) (rest : List ToClient) → Up (after r p e ws) → (after r p e ws).back ≡ Of t (Runs true) ∷ rest → channel_at t (after r p e ws).client ≡ Some x → x.command ≡ k → Runs-there t k (ArriveHere ∷ ws)
  unfolding after
  told_here ws t k x rest up b q ck =
      let w = after r p e ws in
      let a = here-is r p w (Of t (Runs true)) rest up.0 b in
      let l = subst (λ (o : Option ClientChannel). Local r true true o (channel_of t w.server) (asks t w.there) (Runs true ∷ tells-of t rest)) q
      (subst (λ (ds : List Reply). Local r true true (channel_at t w.client) (channel_of t w.server) (asks t w.there) ds) (ap (tells-of t) b ∙ tells_first t (Runs true) rest) (local-both r fair w.client w.server w.there w.back (inv ws) up.0 up.1 t)) in
      let z = asked_of r x (channel_of t w.server) (asks t w.there) (tells-of t rest) l in
      record {
        channel = flushed_running (answered true x);
        at = ap (λ (v : World S E). channel_at t v.client) a ∙ told-runs r w.client t x up.0 q z.0;
        command = ck;
        phase = ap (λ (o : Option ℕ). cond (is_some o && eqb x.taken (length x.got)) Closed Running) z.1;
      }

  module _ (vs : List Event) (u t k : ℕ) (user : (after r p e vs).server.user ≡ Some u) (may : r.may u k ≡ true) (up : Up (after r p e vs)) (allowed : refusal r (Start t k) (after r p e vs).client ≡ None) where
    abbrev begun : List Event
    begun = User (Start t k) ∷ vs

    abbrev back-most : ℕ
    back-most = length (after r p e vs).back + length (after r p e vs).there * (r.window + 1)

    begin-is : after r p e begun ≡ by_client (did (more t k (after r p e vs).client) (For t (Run k) ∷ [])) (after r p e vs).back (after r p e vs)
    unfolding after
    begin-is = let w = after r p e vs in ap (λ d. by_client d w.back w) (start_is r w.client t k allowed up.0 (of_members number_of (requests r) w.client.channels (inv vs).rising ((inv vs).idle up.0)))

    fresh_at : channel_at t (after r p e begun).client ≡ Some (new_channel t k)
    fresh_at = let c = (after r p e vs).client in
        ap (λ (v : World S E). channel_at t v.client) begin-is ∙ find-append number_of t c.channels (new_channel t k) (above-not-in t (numbers number_of c.channels) (free r t k c allowed).above-all) ∙ ap (λ b. cond b (Some (new_channel t k)) (find number_of t c.channels)) (eqb_same t)

    -- the start arrives, then all that is on the way back, then what it brought
    arrives : (ws : List Event) → There r fair p e inv begun (length (after r p e vs).there * (r.window + 1)) (For t (Run k) ∷ []) ws → Comes is_arrival ws (1 + (back-most + 1)) (Runs-there t k)
    unfolding after
    arrives ws d = comes-event is_arrival ArriveThere ws (back-most + 1) (Runs-there t k) refl
        (comes-then is_arrival (ArriveThere ∷ ws) back-most 1 (Here r fair p e inv (ArriveThere ∷ ws) (Of t (Runs true) ∷ z.0)) (Runs-there t k)
        (comes-more is_arrival is_arrival (ArriveThere ∷ ws) (length (after r p e ws).back) back-most (Here r fair p e inv (ArriveThere ∷ ws) (Of t (Runs true) ∷ z.0)) (λ v a. a) few
        (drain-here r fair p e inv (after r p e ws).back (Of t (Runs true) ∷ z.0) (ArriveThere ∷ ws) s.up s.endured (ap (λ (v : World S E). v.back) is ∙ ap (λ l. (after r p e ws).back ++ l) z.1)))
        (λ xs h. let y = h.kept t (new_channel t k) at in comes-one is_arrival ArriveHere xs (Runs-there t k) refl (told_here xs t k y.0 z.0 h.up h.back y.1 y.2.command)))
      where
        c : Client
        c = (after r p e vs).client

        client-is : (after r p e ws).client ≡ more t k c
        client-is = d.client ∙ ap (λ (v : World S E). v.client) begin-is

        now : runs_now r t k (after r p e ws).server ≡ true
        now = runs-now r c (after r p e ws) t k u (inv vs).rising (free r t k c allowed) (inv ws) d.up client-is d.there (d.user ∙ ap (λ (v : World S E). v.server.user) begin-is ∙ user) may

        z : (rest : List ToClient) × ((serve r p (after r p e ws).connection (For t (Run k)) (after r p e ws).server).sends ≡ Of t (Runs true) ∷ rest)
        z = serve-start r p (after r p e ws).connection t k (after r p e ws).server d.up.1 now

        is : step r p ArriveThere (after r p e ws) ≡ by_server (serve r p (after r p e ws).connection (For t (Run k)) (after r p e ws).server) [] (after r p e ws)
        is = there-is r p (after r p e ws) (For t (Run k)) [] d.up.1 d.there

        s : Steps r (after r p e ws) (step r p ArriveThere (after r p e ws))
        s = steps-there r p (after r p e ws) fair (inv ws) d.up d.endured (For t (Run k)) [] d.there

        at : channel_at t (step r p ArriveThere (after r p e ws)).client ≡ Some (new_channel t k)
        at = ap (λ (v : World S E). channel_at t v.client) is ∙ ap (channel_at t) d.client ∙ fresh_at

        few : length (after r p e ws).back ≤ back-most
        few = let a = ap length (d.back ∙ ap (λ l. l ++ d.brought) (ap (λ (v : World S E). v.back) begin-is)) in let b = length-append (after r p e vs).back d.brought in let f = d.few in omega arith

    pub can-start : (fs : List Event) × All is_arrival fs × (length fs ≤ length (after r p e vs).back + 2 + length (after r p e vs).there * (r.window + 4)) ×
        ((x : ClientChannel) × AtClient x (after r p e (fs ++ begun)) × (x.number ≡ t) × (x.command ≡ k) × (x.phase ≡ Running))
    can-start =
        let w = after r p e vs in
        let n = length w.there in
        let a = begin-is in
        let some : is_some w.server.user ≡ true = ap is_some user in
        let up1 : Up (after r p e begun) = (ap (λ (v : World S E). v.client.up) a ∙ up.0, ap (λ (v : World S E). v.server.up) a ∙ up.1) in
        let user1 : is_some (after r p e begun).server.user ≡ true = ap (λ (v : World S E). is_some v.server.user) a ∙ some in
        let z = comes-then is_arrival begun n (1 + (back-most + 1)) (There r fair p e inv begun (n * (r.window + 1)) (For t (Run k) ∷ [])) (Runs-there t k)
        (drain-there r fair p e inv w.there (For t (Run k) ∷ []) begun up1 (endures-user r (after r p e begun) user1) (ap (λ (v : World S E). v.there) a) (inr user1)) arrives in
        let cs = (after r p e (z.0 ++ begun)).client.channels in
        (z.0, z.1, (let l = z.2 in omega arith), (z.3.channel, find-mem number_of t cs z.3.channel z.3.at, find-key number_of t cs z.3.channel z.3.at, z.3.command, z.3.phase))
