-- What holds stays so at what the server does. Assumes nothing.
use Rattle.std.proofs.Common.{◌≡◌, ℕ, zero, suc, Bool, true, false, cond, not, ◌&&◌, ◌||◌, eqb, ltb, leb, List, [], ◌∷◌, ◌++◌, length, Some, None, Option, sym, refl, ap, ◌∙◌, subst, append-nil}
use Rattle.std.proofs.lemmas.Bool.{true≢false}
use Rattle.std.specs.Option.{option_map}
use Rattle.model.specs.Keyed.{change}
use Rattle.model.specs.Messages.{Rules, Fair, Reply, InputCredit, ToServer, ToClient, Does, Reads, Writes, Ends, GoesOn, Programs, Did, did, is_some}
use Rattle.model.specs.Client.{Client, ClientChannel, channel_at}
use Rattle.model.specs.Server.{Server, ServerChannel, server, number_at, channel_of, is_live, cut_server, Turned, turned, ends, reads, writes, is_part, portion, doing, drained_by, turn_in, input_credit, took_turn, turn_of, turn, lose, flush_back}
use Rattle.model.proofs.Finds.{eqb_same, find-key}
use Rattle.model.proofs.Ways.{asks, tells-of, tells-append}
use Rattle.model.proofs.Local.{Local}
use Rattle.model.proofs.Inv.{InvOf}
use Rattle.model.proofs.InTurn.{turn-local, credit_back, cut-there}
use Rattle.model.proofs.Known.{Known, parts-of, server-flush, server-changes}

-- a turn leaves a channel its number
module _ {S E : Type 0} (r : Rules) (p : Programs S E) (e : E) (x : ServerChannel S) where
  abbrev Same : Turned S E → Type 0
  Same y = y.channel.number ≡ x.number

  pick : (b : Bool) (y z : Turned S E) → Same y → Same z → Same (cond b y z)
  pick true y z a c = a
  pick false y z a c = c

  doing-number : (up : Bool) (d : Does) → Same (doing r p up e x d)
  doing-number up (Reads k) = pick (is_part r k) (cond (ltb 0 (length (portion k x)) || x.eof) (reads p e x (portion k x)) (turned e x 0)) (ends p e x 255) (pick (ltb 0 (length (portion k x)) || x.eof) (reads p e x (portion k x)) (turned e x 0) refl refl) refl
  doing-number up (Writes bs) = pick (is_part r (length bs)) (cond (not up || leb (length x.wrote) x.may) (writes p e x bs) (turned e x 0)) (ends p e x 255) (pick (not up || leb (length x.wrote) x.may) (writes p e x bs) (turned e x 0) refl refl) refl
  doing-number up (Ends n) = refl
  doing-number up GoesOn = refl

  drained-number : (y : Turned S E) (b : Bool) → Same y → Same (drained_by p y b)
  drained-number y true h = h
  drained-number y false h = h

  turn-number : (up : Bool) → Same (turn_in r p up e x)
  turn-number true = doing-number true (p.does e x.state)
  turn-number false = let y = doing r p false e x (p.does e x.state) in drained-number y (not (is_some y.channel.exit) && leb y.channel.left 1) (doing-number false (p.does e x.state))

-- what a turn tells
freed-own : (up : Bool) (t n : ℕ) → tells-of t (input_credit up t n) ≡ credit_back up n
unfolding tells-of
freed-own up t zero = refl
freed-own true t (suc n) = ap (λ b. cond b (InputCredit (suc n) ∷ []) []) (eqb_same t)
freed-own false t (suc n) = refl

freed-other : (up : Bool) (t n k : ℕ) → eqb t k ≡ false → tells-of k (input_credit up t n) ≡ []
unfolding tells-of
freed-other up t zero k e = refl
freed-other true t (suc n) k e = ap (λ b. cond b (InputCredit (suc n) ∷ []) []) e
freed-other false t (suc n) k e = refl

module _ {S E : Type 0} (r : Rules) (fair : Fair r) (p : Programs S E) (c : Client) (s : Server S E) (there : List ToServer) (back : List ToClient) where
  abbrev Goes : Did (Server S E) ToClient → Type 0
  Goes d = InvOf r c d.side there (back ++ d.sends)

  -- nothing but what is not of a channel was sent
  unchanged : (d : Server S E) (ms : List ToClient) → d.channels ≡ s.channels → d.used ≡ s.used → d.up ≡ s.up → ((t : ℕ) → tells-of t ms ≡ []) → Known r c.channels c.up s.channels s.used s.up there back → Known r c.channels c.up d.channels d.used d.up there (back ++ ms)
  unchanged d ms ec eu ep none h =
      subst (λ (l : List (ServerChannel S)). Known r c.channels c.up l d.used d.up there (back ++ ms)) (sym ec)
      (subst (λ (l : List ℕ). Known r c.channels c.up s.channels l d.up there (back ++ ms)) (sym eu)
      (subst (λ (b : Bool). Known r c.channels c.up s.channels s.used b there (back ++ ms)) (sym ep)
      (record {
        rising = h.rising;
        rising-there = h.rising-there;
        order = h.order;
        used = h.used;
        small = h.small;
        local = λ t. subst (λ (l : List Reply). Local r c.up s.up (channel_at t c) (channel_of t s) (asks t there) l) (sym (tells-append t back ms ∙ ap (λ l. tells-of t back ++ l) (none t) ∙ append-nil (tells-of t back))) (h.local t);
      })))

  -- the server goes down
  down : Known r c.channels c.up s.channels s.used s.up there back → Known r c.channels c.up s.channels s.used false there (back ++ [])
  down h =
      subst (λ (l : List ToClient). Known r c.channels c.up s.channels s.used false there l) (sym (append-nil back))
      (record { rising = h.rising; rising-there = h.rising-there; order = h.order; used = h.used; small = h.small; local = λ t. cut-there r c.up s.up (channel_at t c) (channel_of t s) (asks t there) (tells-of t back) (h.local t) })

  pub lost : InvOf r c s there back → Goes (lose r s)
  lost h = server-flush r fair c (cut_server s) [] there back (down (parts-of r c s there back h)) h.idle

  live_exit : (f : Bool) (o : Option ℕ) → not (f || is_some o) ≡ true → o ≡ None
  live_exit f None e = refl
  live_exit true (Some n) e = absurd (true≢false (sym e))
  live_exit false (Some n) e = absurd (true≢false (sym e))

  -- a turn of a program that runs
  turned-one : (t : ℕ) (f : ServerChannel S) → channel_of t s ≡ Some f → is_live f ≡ true → InvOf r c s there back → Goes (flush_back r (took_turn t (turn_in r p s.up s.env f) s))
  turned-one t f ff live h =
      let y = turn_in r p s.up s.env f in
      let ms = input_credit s.up t y.freed in
      let n : y.channel.number ≡ t = turn-number r p s.env f s.up ∙ find-key number_at t s.channels f ff in
      let l1 = subst (λ (o : Option (ServerChannel S)). Local r c.up s.up (channel_at t c) o (asks t there) (tells-of t back)) ff (h.local t) in
      let k = server-changes r c.channels c.up s.channels s.used s.up there there back (back ++ ms) t (λ _. y.channel) (λ z e. n) refl
      (λ k e. (refl, tells-append k back ms ∙ ap (λ l. tells-of k back ++ l) (freed-other s.up t y.freed k e) ∙ append-nil (tells-of k back)))
      (subst (λ (o : Option (ServerChannel S)). Local r c.up s.up (channel_at t c) (option_map (λ _. y.channel) o) (asks t there) (tells-of t (back ++ ms))) (sym ff)
      (subst (λ (l : List Reply). Local r c.up s.up (channel_at t c) (Some y.channel) (asks t there) l) (sym (tells-append t back ms ∙ ap (λ l. tells-of t back ++ l) (freed-own s.up t y.freed))) (here t f (live_exit f.forgotten f.exit live) (channel_at t c) l1)))
      (parts-of r c s there back h) in
      server-flush r fair c (server (change number_at t (λ _. y.channel) s.channels) s.used s.user s.tries y.env s.up) ms there back k h.idle
    where
      here : (t : ℕ) (f : ServerChannel S) → f.exit ≡ None → (cx : Option ClientChannel) → Local r c.up s.up cx (Some f) (asks t there) (tells-of t back) → Local r c.up s.up cx (Some (turn_in r p s.up s.env f).channel) (asks t there) (tells-of t back ++ credit_back s.up (turn_in r p s.up s.env f).freed)
      here t f live None l = absurd l
      here t f live (Some x) l = turn-local r fair p c.up x (asks t there) (tells-of t back) s.up s.env f live l

  nothing : InvOf r c s there back → Goes (flush_back r (did s []))
  unfolding tells-of
  nothing h = server-flush r fair c s [] there back (unchanged s [] refl refl refl (λ t. refl) (parts-of r c s there back h)) h.idle

  turned-if : (t : ℕ) (f : ServerChannel S) → channel_of t s ≡ Some f → (b : Bool) → is_live f ≡ b → InvOf r c s there back → Goes (flush_back r (cond b (took_turn t (turn_in r p s.up s.env f) s) (did s [])))
  turned-if t f ff true e h = turned-one t f ff e h
  turned-if t f ff false e h = nothing h

  pub took-turn : (t : ℕ) → InvOf r c s there back → Goes (turn r p t s)
  took-turn t h = go (channel_of t s) refl
    where
      go : (o : Option (ServerChannel S)) → channel_of t s ≡ o → Goes (flush_back r (turn_of r p t o s))
      go None e = nothing h
      go (Some f) e = turned-if t f e (is_live f) refl h
