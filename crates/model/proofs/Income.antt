-- What was typed comes in, by arrivals, and all of it where the program reads. Assumes only the invariant.
use Rattle.std.proofs.Common.{◌≡◌, ℕ, zero, suc, ◌+◌, ◌*◌, ◌<◌, ◌≤◌, Bool, true, false, cond, not, ◌||◌, ltb, leb, ◌⊎◌, List, [], ◌∷◌, ◌++◌, length, take, drop, Some, None, Option, sym, refl, ap, ◌∙◌, subst, inl, inr, mul-le-mul_right, arith}
use mathlib.Core.List.{Memᴰ}
use Rattle.std.proofs.lemmas.List.{length-append, length-take, length-drop, take_all}
use Rattle.std.proofs.lemmas.Bool.{cond-true, ltb-true, lt-ltb, and_parts, cases_lt}
use Rattle.std.specs.Option.{option_map}
use Rattle.model.specs.Keyed.{find, change, numbers, Rising, gather, each}
use Rattle.model.specs.Messages.{Rules, Fair, ToClient, Programs, Reads, Did, did, is_some}
use Rattle.model.specs.Client.{ClientChannel, number_of, channel_at}
use Rattle.model.specs.Server.{Server, ServerChannel, server, number_at, channel_of, replies, replies_of, sent_back, is_live, is_part, flush_back, with_all, forget_all, input_credit, portion, Turned, turned, turn, turn_of, turn_in, took_turn, doing, reads, ends}
use Rattle.model.specs.World.{Event, Turn, after}
use Rattle.model.specs.Promises.{Up, AtClient, AtServer}
use Rattle.model.specs.Progress.{All, is_arrival, brings_in, AlwaysReads, Endures}
use Rattle.model.proofs.Finds.{find-key, find-change, find-mem, found, eqb_same}
use Rattle.model.proofs.Inv.{Inv}
use Rattle.model.proofs.Still.{gather-one, of_members}
use Rattle.model.proofs.Dropped.{returned-none}
use Rattle.model.proofs.Weights.{weights, heavy}
use Rattle.model.proofs.Settle.{load, load-most}
use Rattle.model.proofs.Keeps.{SameHere, SameThere, KeptHere, KeptThere, flush_back-keeps}
use Rattle.model.proofs.Users.{has-user}
use Rattle.model.proofs.Rest.{InRest, in_rest}
use Rattle.model.proofs.Reach.{Comes, comes-now, comes-one, comes-then, comes-more, arrival-in, Rested, rested, endures-user, Settled, settle}
use Rattle.model.proofs.Outgo.{some_same, bound}

credit-one : (b : Bool) (t n : ℕ) → length (input_credit b t n) ≤ 1
credit-one b t zero = omega arith
credit-one true t (suc n) = omega arith
credit-one false t (suc n) = omega arith

module _ {S E : Type 0} where
  pub record Read (t : ℕ) (f : ServerChannel S) (d : Did (Server S E) ToClient) : Type 0 where
    pub up : d.side.up ≡ true
    pub few : length d.sends ≤ 1
    pub channel : ServerChannel S
    pub at : channel_of t d.side ≡ Some channel
    pub more : f.read < channel.read
    pub exit : channel.exit ≡ f.exit

  -- a turn of a program that reads, where something is to be read
  turning : (r : Rules) (p : Programs S E) (s : Server S E) (t : ℕ) (f : ServerChannel S) (k : ℕ) → Rising (numbers number_at s.channels) → ((z : ServerChannel S) → Memᴰ z s.channels → replies r z ≡ []) → s.up ≡ true → channel_of t s ≡ Some f → f.forgotten ≡ false → f.exit ≡ None →
      p.does s.env f.state ≡ Reads k → is_part r k ≡ true → f.read < length f.input → Read t f (turn r p t s)
  turning r p s t f k ris idle su e fo ex does pa l = subst (λ (d : Did (Server S E) ToClient). Read t f d) (sym turns)
      (record {
        up = su;
        few = let a = length-append ms (gather (replies_of r) cs) in let b = credit-one s.up t (length bs) in let c = ap length sent in omega arith;
        channel = kept.0;
        at = kept.1;
        more = let a = kept.2.read in let b = some in omega arith;
        exit = kept.2.exit;
      })
    where
      bs : List ℕ
      bs = portion k f

      y : Turned S E
      y = reads p s.env f bs

      g : ServerChannel S
      g = y.channel

      cs : List (ServerChannel S)
      cs = change number_at t (λ _. g) s.channels

      ms : List ToClient
      ms = input_credit s.up t (length bs)

      s2 : Server S E
      s2 = server cs s.used s.user s.tries y.env s.up

      some : 0 < length bs
      some = let a = length-take k (drop f.read f.input) in let b = length-drop f.read f.input in let c = ltb-true 0 k (and_parts (ltb 0 k) (leb k r.part) pa).0 in omega arith

      live : is_live f ≡ true
      live = ap (λ b. not (b || is_some f.exit)) fo ∙ ap (λ (o : Option ℕ). not (is_some o)) ex

      did_read : turn_in r p s.up s.env f ≡ y
      did_read = ap (λ b. turn_in r p b s.env f) su ∙ ap (doing r p true s.env f) does ∙ cond-true (is_part r k) (cond (ltb 0 (length bs) || f.eof) y (turned s.env f 0)) (ends p s.env f 255) pa
          ∙ ap (λ b. cond (b || f.eof) y (turned s.env f 0)) (lt-ltb 0 (length bs) some)

      took : turn_of r p t (channel_of t s) s ≡ did s2 ms
      took = ap (λ o. turn_of r p t o s) e ∙ cond-true (is_live f) (took_turn t (turn_in r p s.up s.env f) s) (did s []) live ∙ ap (λ z. took_turn t z s) did_read

      flushes : flush_back r (did s2 ms) ≡ did (with_all (each sent_back cs) s2) (ms ++ gather (replies_of r) cs)
      flushes = cond-true s.up (did (with_all (each sent_back cs) s2) (ms ++ gather (replies_of r) cs)) (did (forget_all s2) ms) su

      turns : turn r p t s ≡ did (with_all (each sent_back cs) s2) (ms ++ gather (replies_of r) cs)
      turns = ap (flush_back r) took ∙ flushes

      sent : gather (replies_of r) cs ≡ []
      sent = gather-one number_at (replies_of r) t f g s.channels ris e (λ z m. returned-none r z (idle z m)) ∙ returned-none r g (idle f (find-mem number_at t s.channels f e))

      at : find number_at t cs ≡ Some g
      at = find-change number_at t (λ _. g) (λ _ _. find-key number_at t s.channels f e) t s.channels ∙ ap (λ b. cond b (option_map (λ _. g) (find number_at t s.channels)) (find number_at t s.channels)) (eqb_same t) ∙ ap (option_map (λ _. g)) e

      kept : KeptThere g (channel_of t (did (with_all (each sent_back cs) s2) (ms ++ gather (replies_of r) cs)).side)
      kept = subst (λ (d : Did (Server S E) ToClient). KeptThere g (channel_of t d.side)) flushes (flush_back-keeps r t (did s2 ms) g at)

-- what came in, in terms of what was typed and read before
in-before : {S : Type 0} (r : Rules) (x y : ClientChannel) (f g : ServerChannel S) → InRest r y g → SameThere f g → SameHere x y → (g.input ≡ take (f.read + r.window) x.input) × (length x.input ≤ f.read + r.window → g.eof ≡ x.eof)
in-before r x y f g i st sh = (i.input ∙ ap (λ n. take (n + r.window) y.input) st.read ∙ ap (take (f.read + r.window)) sh.input, λ l. i.eof (let a = ap length sh.input in let b = st.read in omega arith) ∙ sh.eof)

-- whatever else is found under the number
found-same : (o : Option ClientChannel) (x y : ClientChannel) → o ≡ Some y → KeptHere x o → SameHere x y
found-same o x y e k = subst (λ (z : ClientChannel). SameHere x z) (some_same o k.0 y k.1 e) k.2

module _ {S E : Type 0} (r : Rules) (fair : Fair r) (p : Programs S E) (e : E) (inv : (vs : List Event) → Inv r (after r p e vs)) where
  -- the channel at the client, under the number at the server
  at-client : (vs : List Event) (x : ClientChannel) (t : ℕ) → AtClient x (after r p e vs) → x.number ≡ t → channel_at t (after r p e vs).client ≡ Some x
  at-client vs x t m q = ap (λ n. find number_of n (after r p e vs).client.channels) (sym q) ∙ found number_of x (after r p e vs).client.channels (inv vs).rising m

  rest_of : (vs : List Event) (t : ℕ) (x : ClientChannel) (f : ServerChannel S) → Rested r (after r p e vs) t x f → f.exit ≡ None → InRest r x f
  rest_of vs t x f h n = in_rest r x f h.pair ((inv vs).idle h.up.0 t x h.here) n

  pub input-comes : (vs : List Event) (x : ClientChannel) (f : ServerChannel S) → AtClient x (after r p e vs) → AtServer f (after r p e vs) → x.number ≡ f.number → f.forgotten ≡ false → f.exit ≡ None → Up (after r p e vs) →
      (fs : List Event) × All is_arrival fs × (length fs ≤ (length (after r p e vs).there + length (after r p e vs).back) * ((r.window + 2) * (r.window + 2))) × Up (after r p e (fs ++ vs)) ×
      ((g : ServerChannel S) × AtServer g (after r p e (fs ++ vs)) × (g.number ≡ f.number) × (g.input ≡ take (f.read + r.window) x.input) × (length x.input ≤ f.read + r.window → g.eof ≡ x.eof))
  input-comes vs x f mx mf nu fo ex u =
      let w = after r p e vs in
      let t = f.number in
      let q : channel_of t w.server ≡ Some f = found number_at f w.server.channels (inv vs).rising-there mf in
      let z = settle r fair p e inv vs u (endures-user r w (has-user r p e vs t f q)) in
      let d = z.3 in
      let v = after r p e (z.0 ++ vs) in
      let g = d.there t f q in
      let y = d.here t x (at-client vs x t mx nu) in
      let k = rested r v (inv (z.0 ++ vs)) d.up d.empty t g.0 g.1 in
      let i = rest_of (z.0 ++ vs) t k.0 g.0 k.1 (g.2.exit ∙ ex) in
      let b = in-before r x k.0 f g.0 i g.2 (found-same (channel_at t v.client) x k.0 k.1.here y) in
      (z.0, z.1, (let l = z.2 in let m = load-most r w in omega arith), d.up, (g.0, find-mem number_at t v.server.channels g.0 g.1, g.2.number, b.0, b.1))

  pub record Fed (t : ℕ) (all : List ℕ) (eof : Bool) (ws : List Event) : Type 0 where
    pub up : Up (after r p e ws)
    pub channel : ServerChannel S
    pub at : channel_of t (after r p e ws).server ≡ Some channel
    pub input : channel.input ≡ all
    pub read : channel.read ≡ length all
    pub eof-came : channel.eof ≡ eof

  pub record Round (t : ℕ) (x : ClientChannel) (f : ServerChannel S) (ws : List Event) : Type 0 where
    pub client-channel : ClientChannel
    pub channel : ServerChannel S
    pub rest : Rested r (after r p e ws) t client-channel channel
    pub input : client-channel.input ≡ x.input
    pub eof : client-channel.eof ≡ x.eof
    pub exit : channel.exit ≡ None
    pub more : f.read < channel.read

  turn-event : (vs : List Event) (t : ℕ) (x : ClientChannel) (f : ServerChannel S) → AlwaysReads r p → Rested r (after r p e vs) t x f → f.exit ≡ None → f.read < length x.input → Read t f (turn r p t (after r p e vs).server)
  turn-event vs t x f ar h n l =
      let i = inv vs in
      let s = (after r p e vs).server in
      let k = rest_of vs t x f h n in
      let a = ar s.env f.state in
      turning r p s t f a.0 i.rising-there (of_members number_at (replies r) s.channels i.rising-there (i.idle-there h.up.1)) h.up.1 h.there k.kept n a.1 a.2
      (let b = ap length k.input in let c = length-take (f.read + r.window) x.input in let d = fair.window in omega arith)

  round : (vs : List Event) (t : ℕ) (x : ClientChannel) (f : ServerChannel S) → AlwaysReads r p → Rested r (after r p e vs) t x f → f.exit ≡ None → f.read < length x.input → Comes (brings_in t) vs (heavy r + 3) (Round t x f)
  unfolding after weights
  round vs t x f ar h n l =
      comes-more (brings_in t) (brings_in t) vs (1 + (heavy r + 2)) (heavy r + 3) (Round t x f) (λ v q. q) (omega arith)
      (comes-then (brings_in t) vs 1 (heavy r + 2) (λ ws. ws ≡ Turn t ∷ vs) (Round t x f) (comes-one (brings_in t) (Turn t) vs (λ ws. ws ≡ Turn t ∷ vs) (eqb_same t) refl)
      (λ ws q. subst (λ (m : List Event). Comes (brings_in t) m (heavy r + 2) (Round t x f)) (sym q) then-settle))
    where
      d : Read t f (turn r p t (after r p e vs).server)
      d = turn-event vs t x f ar h n l

      us : List Event
      us = Turn t ∷ vs

      up : Up (after r p e us)
      up = (h.up.0, d.up)

      en : Endures r (after r p e us)
      en = endures-user r (after r p e us) (has-user r p e us t d.channel d.at)

      lo : load r (after r p e us) ≤ heavy r + 2
      lo = let a = length-append (after r p e vs).back (turn r p t (after r p e vs).server).sends in let b = ap (weights r) h.empty.0 in let c = ap (λ (m : List ToClient). length m) h.empty.1 in let k = d.few in
          let j : length ((after r p e vs).back ++ (turn r p t (after r p e vs).server).sends) * (r.window + 3) ≤ 1 * (r.window + 3) = mul-le-mul_right (r.window + 3) (let i : length ((after r p e vs).back ++ (turn r p t (after r p e vs).server).sends) ≤ 1 = omega arith in i) in omega arith

      then-settle : Comes (brings_in t) us (heavy r + 2) (Round t x f)
      then-settle =
          let z = settle r fair p e inv us up en in
          let ws = z.0 ++ us in
          let g = z.3.there t d.channel d.at in
          let c = z.3.here t x h.here in
          let k = rested r (after r p e ws) (inv ws) z.3.up z.3.empty t g.0 g.1 in
          let s = found-same (channel_at t (after r p e ws).client) x k.0 k.1.here c in
          comes-more is_arrival (brings_in t) us (load r (after r p e us)) (heavy r + 2) (Round t x f) (arrival-in t) lo (
            z.0,
            z.1,
            z.2,
            record {
              client-channel = k.0;
              channel = g.0;
              rest = k.1;
              input = s.input;
              eof = s.eof;
              exit = g.2.exit ∙ d.exit ∙ n;
              more = let a = g.2.read in let b = d.more in omega arith;
            },
          )

  fed : (vs : List Event) (t : ℕ) (x : ClientChannel) (f : ServerChannel S) → Rested r (after r p e vs) t x f → f.exit ≡ None → length x.input ≤ f.read → Fed t x.input x.eof vs
  fed vs t x f h ex l =
      let k = rest_of vs t x f h ex in
      let i : f.input ≡ x.input = k.input ∙ take_all (f.read + r.window) x.input (omega arith) in
      record { up = h.up; channel = f; at = h.there; input = i; read = let a = k.read in let b = ap length i in omega arith; eof-came = k.eof (omega arith) }

  rounds : (n : ℕ) (vs : List Event) (t : ℕ) (x : ClientChannel) (f : ServerChannel S) → AlwaysReads r p → Rested r (after r p e vs) t x f → f.exit ≡ None → length x.input ≤ f.read + n → Comes (brings_in t) vs (n * (heavy r + 3)) (Fed t x.input x.eof)
  rounds zero vs t x f ar h ex l = comes-now (brings_in t) vs (0 * (heavy r + 3)) (Fed t x.input x.eof) (fed vs t x f h ex (omega arith))
  rounds (suc n) vs t x f ar h ex l = go (cases_lt f.read (length x.input)) (λ ws y g q i k. rounds n ws t y g ar q i k)
    where
      P : List Event → Type 0
      P = Fed t x.input x.eof

      go : (f.read < length x.input) ⊎ (length x.input ≤ f.read) → ((ws : List Event) (y : ClientChannel) (g : ServerChannel S) → Rested r (after r p e ws) t y g → g.exit ≡ None → length y.input ≤ g.read + n → Comes (brings_in t) ws (n * (heavy r + 3)) (Fed t y.input y.eof)) → Comes (brings_in t) vs (suc n * (heavy r + 3)) P
      go (inr m) ih = comes-now (brings_in t) vs (suc n * (heavy r + 3)) P (fed vs t x f h ex m)
      go (inl m) ih = comes-more (brings_in t) (brings_in t) vs ((heavy r + 3) + n * (heavy r + 3)) (suc n * (heavy r + 3)) P (λ v q. q) (omega arith)
          (comes-then (brings_in t) vs (heavy r + 3) (n * (heavy r + 3)) (Round t x f) P (round vs t x f ar h ex m) again)
        where
          again : (ws : List Event) → Round t x f ws → Comes (brings_in t) ws (n * (heavy r + 3)) P
          again ws d = subst (λ (a : List ℕ). Comes (brings_in t) ws (n * (heavy r + 3)) (Fed t a x.eof)) d.input
              (subst (λ (b : Bool). Comes (brings_in t) ws (n * (heavy r + 3)) (Fed t d.client-channel.input b)) d.eof
              (ih ws d.client-channel d.channel d.rest d.exit (let a = ap length d.input in let b = d.more in omega arith)))

  pub all-input-comes : AlwaysReads r p → (vs : List Event) (x : ClientChannel) (f : ServerChannel S) → AtClient x (after r p e vs) → AtServer f (after r p e vs) → x.number ≡ f.number → f.forgotten ≡ false → f.exit ≡ None → Up (after r p e vs) →
      (fs : List Event) × All (brings_in f.number) fs × (length fs ≤ (length x.input + length (after r p e vs).there + length (after r p e vs).back + 4) * ((r.window + 4) * (r.window + 4))) × Up (after r p e (fs ++ vs)) ×
      ((g : ServerChannel S) × AtServer g (after r p e (fs ++ vs)) × (g.number ≡ f.number) × (g.input ≡ x.input) × (g.read ≡ length x.input) × (g.eof ≡ x.eof))
  all-input-comes ar vs x f mx mf nu fo ex u =
      let w = after r p e vs in
      let t = f.number in
      let q : channel_of t w.server ≡ Some f = found number_at f w.server.channels (inv vs).rising-there mf in
      let en = endures-user r w (has-user r p e vs t f q) in
      let P : List Event → Type 0 = Fed t x.input x.eof in
      let a = comes-more is_arrival (brings_in t) vs (load r w) (load r w) (Settled r fair p e inv vs) (arrival-in t) (omega arith) (settle r fair p e inv vs u en) in
      let b = comes-then (brings_in t) vs (load r w) (length x.input * (heavy r + 3)) (Settled r fair p e inv vs) P a
      (λ ws d. let g = d.there t f q in let y = d.here t x (at-client vs x t mx nu) in let k = rested r (after r p e ws) (inv ws) d.up d.empty t g.0 g.1 in
      let h = found-same (channel_at t (after r p e ws).client) x k.0 k.1.here y in
      subst (λ (l : List ℕ). Comes (brings_in t) ws (length l * (heavy r + 3)) (Fed t l x.eof)) h.input
      (subst (λ (o : Bool). Comes (brings_in t) ws (length k.0.input * (heavy r + 3)) (Fed t k.0.input o)) h.eof (rounds (length k.0.input) ws t k.0 g.0 ar k.1 (g.2.exit ∙ ex) (omega arith)))) in
      let s = b.3 in (
        b.0,
        b.1,
        (let l = b.2 in let k = bound r (load r w) (length w.there + length w.back) (length x.input) 4 (load-most r w) in let j : (length x.input + (length w.there + length w.back) + 4) * ((r.window + 4) * (r.window + 4)) ≡ (length x.input + length w.there + length w.back + 4) * ((r.window + 4) * (r.window + 4)) = ap (λ n. n * ((r.window + 4) * (r.window + 4))) (let v : length x.input + (length w.there + length w.back) + 4 ≡ length x.input + length w.there + length w.back + 4 = omega arith in v) in omega arith),
        s.up,
        (s.channel, find-mem number_at t (after r p e (b.0 ++ vs)).server.channels s.channel s.at, find-key number_at t (after r p e (b.0 ++ vs)).server.channels s.channel s.at, s.input, s.read, s.eof-came),
      )
