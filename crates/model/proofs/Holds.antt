-- The invariant holds after every list of events, and what it says of a channel at both sides. Assumes nothing.
use Rattle.std.proofs.Common.{◌≡◌, ℕ, Bool, true, false, cond, ◌⊎◌, List, [], ◌∷◌, ◌++◌, length, drop, Some, None, Option, sym, refl, ap, ◌∙◌, subst, inl, inr, append-nil, arith}
use Rattle.std.proofs.lemmas.Bool.{true≢false}
use Rattle.model.specs.Keyed.{find, numbers, is_in, Rising}
use Rattle.model.specs.Messages.{Rules, Fair, ToServer, ToClient, Programs, is_some}
use Rattle.model.specs.Client.{ClientChannel, new_client, number_of, channel_at, Phase, Asked, Running, Refused, Closed}
use Rattle.model.specs.Server.{ServerChannel, new_server, number_at, channel_of}
use Rattle.model.specs.World.{World, Event, User, Turn, ArriveThere, ArriveHere, CutHere, CutThere, Connect, Time, arrive_there, arrive_here, can_connect, connected, step, after}
use Rattle.model.specs.Promises.{AtClient, AtServer, InputTrue, OutputTrue, InWindow, InputIsPrefix, OutputIsPrefix, ForgottenWasShown, ClosedWasTaken}
use Rattle.model.proofs.Finds.{found, find-mem, find-key}
use Rattle.model.proofs.Ways.{asks, tells-of}
use Rattle.model.proofs.Flow.{bytes, Flow, flow-prefix, flow-told, flow-count}
use Rattle.model.proofs.Local.{cells_in, cells_out, eofs, AloneIn, InPhase, Pair, Local}
use Rattle.model.proofs.Inv.{starts, InvOf, Inv}
use Rattle.model.proofs.ByClient.{obeyed, taken_in, cut-client}
use Rattle.model.proofs.ByServer.{took-turn, lost}
use Rattle.model.proofs.ByMessage.{served}

module _ {S E : Type 0} (r : Rules) where
  -- a connection that has just come up
  pub fresh : (e : E) → InvOf {S = S} r new_client (new_server e) [] []
  unfolding numbers Rising starts find asks tells-of is_in
  fresh e =
      record {
        rising = tt;
        rising-there = tt;
        order = refl;
        used = λ t q. q;
        local = λ t. (refl, refl);
        small = λ t q. absurd (true≢false (sym q));
        idle = λ u t x q. absurd (let z : ◌≡◌ {A = ℕ} 0 1 = cc in omega arith);
        idle-there = λ u t x q. absurd (let z : ◌≡◌ {A = ℕ} 0 1 = cc in omega arith);
      }

module _ {S E : Type 0} (r : Rules) (fair : Fair r) (p : Programs S E) (w : World S E) (h : Inv r w) where
  arrived-there : (b : Bool) → w.server.up ≡ b → (ms : List ToServer) → w.there ≡ ms → Inv r (arrive_there r p b ms w)
  arrived-there b u [] e = h
  arrived-there true u (m ∷ ms) e = served r fair p w.client w.server ms w.back u w.connection m (subst (λ (l : List ToServer). InvOf r w.client w.server l w.back) e h)
  arrived-there false u (m ∷ ms) e = h

  arrived-here : (b : Bool) → w.client.up ≡ b → (ms : List ToClient) → w.back ≡ ms → Inv r (arrive_here r b ms w)
  arrived-here b u [] e = h
  arrived-here true u (m ∷ ms) e = taken_in r fair w.client w.server w.there ms u m (subst (λ (l : List ToClient). InvOf r w.client w.server w.there l) e h)
  arrived-here false u (m ∷ ms) e = h

  came_up : (b : Bool) → Inv r (cond b (connected w) w)
  came_up true = fresh r w.server.env
  came_up false = h

  stepped : (v : Event) → Inv r (step r p v w)
  stepped (User k) = obeyed r fair w.client w.server w.there w.back h k
  stepped (Turn t) = took-turn r fair p w.client w.server w.there w.back t h
  stepped ArriveThere = arrived-there w.server.up refl w.there refl
  stepped ArriveHere = arrived-here w.client.up refl w.back refl
  stepped CutHere = cut-client r w.client w.server w.there w.back h
  stepped CutThere = lost r fair p w.client w.server w.there w.back h
  stepped Connect = came_up (can_connect w)
  stepped Time = h

module _ {S E : Type 0} (r : Rules) (fair : Fair r) (p : Programs S E) (e : E) where
  -- The invariant, after every list of events.
  pub inv : (vs : List Event) → Inv r (after r p e vs)
  unfolding after
  inv [] = fresh r e
  inv (v ∷ vs) = stepped r fair p (after r p e vs) (inv vs) v

  module _ (vs : List Event) where
    found_here : (x : ClientChannel) → AtClient x (after r p e vs) → channel_at x.number (after r p e vs).client ≡ Some x
    found_here x m = found number_of x (after r p e vs).client.channels (inv vs).rising m

    found-there : (f : ServerChannel S) → AtServer f (after r p e vs) → channel_of f.number (after r p e vs).server ≡ Some f
    found-there f m = found number_at f (after r p e vs).server.channels (inv vs).rising-there m

    -- what is known of a channel at both sides
    pub pair_of : (x : ClientChannel) (f : ServerChannel S) → AtClient x (after r p e vs) → AtServer f (after r p e vs) → x.number ≡ f.number →
        Pair r (after r p e vs).client.up (after r p e vs).server.up x f (asks x.number (after r p e vs).there) (tells-of x.number (after r p e vs).back)
    pair_of x f mx mf q =
        let w = after r p e vs in
        let a = found_here x mx in
        let b : channel_of x.number w.server ≡ Some f = ap (λ n. channel_of n w.server) q ∙ found-there f mf in
        subst (λ (o : Option (ServerChannel S)). Local r w.client.up w.server.up (Some x) o (asks x.number w.there) (tells-of x.number w.back)) b
        (subst (λ (o : Option ClientChannel). Local r w.client.up w.server.up o (channel_of x.number w.server) (asks x.number w.there) (tells-of x.number w.back)) a ((inv vs).local x.number))

    -- a channel of the server is one of the client
    pub partner : (f : ServerChannel S) → AtServer f (after r p e vs) → (x : ClientChannel) × AtClient x (after r p e vs) × (x.number ≡ f.number) × (x.command ≡ f.command)
    partner f mf = go (channel_at f.number (after r p e vs).client) refl
      where
        go : (o : Option ClientChannel) → channel_at f.number (after r p e vs).client ≡ o → (x : ClientChannel) × AtClient x (after r p e vs) × (x.number ≡ f.number) × (x.command ≡ f.command)
        go None q = absurd (subst (λ (o : Option (ServerChannel S)). Local r (after r p e vs).client.up (after r p e vs).server.up None o (asks f.number (after r p e vs).there) (tells-of f.number (after r p e vs).back)) (found-there f mf) (subst (λ (o : Option ClientChannel). Local r (after r p e vs).client.up (after r p e vs).server.up o (channel_of f.number (after r p e vs).server) (asks f.number (after r p e vs).there) (tells-of f.number (after r p e vs).back)) q ((inv vs).local f.number)))
        go (Some x) q =
            let mx = find-mem number_of f.number (after r p e vs).client.channels x q in
            let n = find-key number_of f.number (after r p e vs).client.channels x q in
            (x, mx, n, (pair_of x f mx mf n).command)

    input-true : (x : ClientChannel) (f : ServerChannel S) → Pair r (after r p e vs).client.up (after r p e vs).server.up x f (asks x.number (after r p e vs).there) (tells-of x.number (after r p e vs).back) → InputTrue x f
    input-true x f h =
        record {
          rest = bytes (cells_in (asks x.number (after r p e vs).there)) ++ drop x.sent x.input;
          prefix = flow-prefix h.input;
          eof = λ q. eof-of x.eof f.eof q h.input;
        }
      where
        eof-of : (a b : Bool) → b ≡ true → Flow x.input x.sent (eofs a) x.said (cells_in (asks x.number (after r p e vs).there)) f.input (eofs b) → (a ≡ true) × (bytes (cells_in (asks x.number (after r p e vs).there)) ++ drop x.sent x.input ≡ [])
        eof-of true true q g = (refl, (flow-told 0 g).1)
        eof-of false true q g = absurd (let z = (flow-told 0 g).0 in let y : ◌≡◌ {A = ℕ} 0 1 = cc in omega arith)
        eof-of a false q g = absurd (true≢false (sym q))

    output-true : (x : ClientChannel) (f : ServerChannel S) → Pair r (after r p e vs).client.up (after r p e vs).server.up x f (asks x.number (after r p e vs).there) (tells-of x.number (after r p e vs).back) → OutputTrue x f
    output-true x f h =
        record {
          rest = bytes (cells_out (tells-of x.number (after r p e vs).back)) ++ drop f.sent f.wrote;
          prefix = flow-prefix h.output;
          exit = λ n q. flow-told n (subst (λ (o : Option ℕ). Flow f.wrote f.sent f.exit f.said (cells_out (tells-of x.number (after r p e vs).back)) x.got o) q h.output);
        }

    windows : (x : ClientChannel) (f : ServerChannel S) → Pair r (after r p e vs).client.up (after r p e vs).server.up x f (asks x.number (after r p e vs).there) (tells-of x.number (after r p e vs).back) → InWindow r x f
    windows x f h =
        let a = flow-count h.input in
        let b = flow-count h.output in
        let i = h.in_window in
        let o = h.out_window in
        let i0 = i.within in
        let i2 = i.sent in
        let o0 = o.within in
        let o2 = o.sent in
        record { output = omega arith; input = omega arith; taken = o.taken; read = i.taken }

    -- a channel of the client is at the server too, or nothing came of it
    shown : (x : ClientChannel) → AtClient x (after r p e vs) → ((f : ServerChannel S) × AtServer f (after r p e vs) × (x.number ≡ f.number) × OutputTrue x f) ⊎ ((x.got ≡ []) × (x.exit ≡ None))
    shown x mx = go (channel_of x.number (after r p e vs).server) refl
      where
        go : (o : Option (ServerChannel S)) → channel_of x.number (after r p e vs).server ≡ o → ((f : ServerChannel S) × AtServer f (after r p e vs) × (x.number ≡ f.number) × OutputTrue x f) ⊎ ((x.got ≡ []) × (x.exit ≡ None))
        go None q = inr (let l = subst (λ (o : Option (ServerChannel S)). Local r (after r p e vs).client.up (after r p e vs).server.up (Some x) o (asks x.number (after r p e vs).there) (tells-of x.number (after r p e vs).back)) q (subst (λ (o : Option ClientChannel). Local r (after r p e vs).client.up (after r p e vs).server.up o (channel_of x.number (after r p e vs).server) (asks x.number (after r p e vs).there) (tells-of x.number (after r p e vs).back)) (found_here x mx) ((inv vs).local x.number)) in (l.0.got, l.0.exit))
        go (Some f) q =
            let mf = find-mem number_at x.number (after r p e vs).server.channels f q in
            let n = sym (find-key number_at x.number (after r p e vs).server.channels f q) in
            inl (f, mf, n, output-true x f (pair_of x f mx mf n))

    forgotten-shown : (x : ClientChannel) (f : ServerChannel S) → AtClient x (after r p e vs) → AtServer f (after r p e vs) → x.number ≡ f.number → (after r p e vs).server.up ≡ true → f.forgotten ≡ true → (x.got ≡ f.wrote) × (x.exit ≡ f.exit) × (is_some x.exit ≡ true)
    forgotten-shown x f mx mf n up q =
        let h = pair_of x f mx mf n in
        let t = told x.phase h.phase in
        all_told x.exit refl t h.output
      where
        told : (ph : Phase) → InPhase ph (after r p e vs).server.up x f (asks x.number (after r p e vs).there) (tells-of x.number (after r p e vs).back) → is_some x.exit ≡ true
        told Asked k = absurd (true≢false (sym q ∙ k.kept up))
        told Running k = absurd (true≢false (sym q ∙ k.kept up))
        told Refused k = absurd k
        told Closed k = k.told

        all_told : (o : Option ℕ) → x.exit ≡ o → is_some o ≡ true → Flow f.wrote f.sent f.exit f.said (cells_out (tells-of x.number (after r p e vs).back)) x.got o → (x.got ≡ f.wrote) × (o ≡ f.exit) × (is_some o ≡ true)
        all_told None eo t g = absurd (true≢false (sym t))
        all_told (Some m) eo t g = (sym (append-nil x.got) ∙ ap (λ l. x.got ++ l) (sym (flow-told m g).1) ∙ flow-prefix g, sym (flow-told m g).0, refl)

module _ {S E : Type 0} (r : Rules) (fair : Fair r) (p : Programs S E) (e : E) (vs : List Event) (x : ClientChannel) (mx : AtClient x (after r p e vs)) (cl : x.phase ≡ Closed) where
  abbrev Whole : Type 0
  Whole = (x.taken ≡ length x.got) × (is_some x.exit ≡ true) × ((f : ServerChannel S) × AtServer f (after r p e vs) × (x.number ≡ f.number) × (x.got ≡ f.wrote) × (x.exit ≡ f.exit))

  whole_of : (f : ServerChannel S) → AtServer f (after r p e vs) → x.number ≡ f.number → Whole
  whole_of f mf n =
      let h = pair_of r fair p e vs x f mx mf n in
      let k = subst (λ (q : Phase). InPhase q (after r p e vs).server.up x f (asks x.number (after r p e vs).there) (tells-of x.number (after r p e vs).back)) cl h.phase in
      let t = told x.exit k.told h.output in
      (k.all, k.told, (f, mf, n, t.0, t.1))
    where
      told : (o : Option ℕ) → is_some o ≡ true → Flow f.wrote f.sent f.exit f.said (cells_out (tells-of x.number (after r p e vs).back)) x.got o → (x.got ≡ f.wrote) × (o ≡ f.exit)
      told None t g = absurd (true≢false (sym t))
      told (Some m) t g = (sym (append-nil x.got) ∙ ap (λ l. x.got ++ l) (sym (flow-told m g).1) ∙ flow-prefix g, sym (flow-told m g).0)

  closed-whole : Whole
  closed-whole = go (channel_of x.number (after r p e vs).server) refl
    where
      go : (o : Option (ServerChannel S)) → channel_of x.number (after r p e vs).server ≡ o → Whole
      go None q = absurd (subst (λ (ph : Phase). AloneIn ph x (asks x.number (after r p e vs).there) (tells-of x.number (after r p e vs).back)) cl
          (subst (λ (o : Option (ServerChannel S)). Local r (after r p e vs).client.up (after r p e vs).server.up (Some x) o (asks x.number (after r p e vs).there) (tells-of x.number (after r p e vs).back)) q
          (subst (λ (o : Option ClientChannel). Local r (after r p e vs).client.up (after r p e vs).server.up o (channel_of x.number (after r p e vs).server) (asks x.number (after r p e vs).there) (tells-of x.number (after r p e vs).back)) (found_here r fair p e vs x mx) ((inv r fair p e vs).local x.number))).1)
      go (Some f) q = whole_of f (find-mem number_at x.number (after r p e vs).server.channels f q) (sym (find-key number_at x.number (after r p e vs).server.channels f q))

module _ {S E : Type 0} where
  pub closed-was-taken : ClosedWasTaken S E
  closed-was-taken r fair p e vs x m c = closed-whole r fair p e vs x m c

  pub input-is-prefix : InputIsPrefix S E
  input-is-prefix r fair p e vs x f mx mf q = input-true r fair p e vs x f (pair_of r fair p e vs x f mx mf q)

  pub output-is-prefix : OutputIsPrefix S E
  output-is-prefix r fair p e vs x mx = shown r fair p e vs x mx

  pub forgotten-was-shown : ForgottenWasShown S E
  forgotten-was-shown r fair p e vs x f mx mf q up g = forgotten-shown r fair p e vs x f mx mf q up g

  pub windows-of-both : (r : Rules) → Fair r → (p : Programs S E) (e : E) (vs : List Event) (x : ClientChannel) (f : ServerChannel S) → AtClient x (after r p e vs) → AtServer f (after r p e vs) → x.number ≡ f.number → InWindow r x f
  windows-of-both r fair p e vs x f mx mf q = windows r fair p e vs x f (pair_of r fair p e vs x f mx mf q)
