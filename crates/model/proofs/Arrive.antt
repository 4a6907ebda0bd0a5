-- A message that arrives at a side while both are up: the side stays up, and how much it sends. Assumes nothing.
use Rattle.std.proofs.Common.{◌≡◌, ℕ, zero, suc, ◌+◌, ◌-◌, ◌≤◌, Bool, true, false, cond, ◌&&◌, ◌||◌, ltb, List, [], ◌∷◌, ◌++◌, length, take, Some, None, Option, sym, refl, ap, ◌∙◌, subst, inl, inr, ⊎_elim, arith}
use mathlib.Core.List.Memᴰ
use mathlib.Core.List.{Memᴰ}
use Rattle.std.proofs.lemmas.Bool.{true≢false, cond-true}
use Rattle.model.specs.Keyed.{change, numbers, Rising, gather, each}
use Rattle.model.specs.Messages.{Rules, Fair, Request, Run, Input, OutputCredit, Eof, Close, Reply, Runs, InputCredit, ToServer, Login, Tick, For, ToClient, Accepted, Tock, Of, Programs, Did, did, parts}
use Rattle.model.specs.Client.{Client, ClientChannel, Phase, Asked, Running, Refused, Closed, client, number_of, channel_at, requests, requests_of, labelled, flushed, flush, hear, heard, receive, take_in, with_channels}
use Rattle.model.specs.Server.{Server, ServerChannel, server, number_at, channel_of, outputs, replies, replies_of, sent_back, flush_back, with_all, forget_all, pass_to, passed, pass, is_refused, login_by, start, runs_now, used_now, new_program, whom, serve}
use Rattle.model.specs.Dropped.{is_run}
use Rattle.model.specs.Progress.{endures}
use Rattle.model.proofs.Finds.{eqb_same}
use Rattle.model.proofs.Ways.{asks, tells-of}
use Rattle.model.proofs.Local.{Local, AloneIn}
use Rattle.model.proofs.Inv.{InvOf}
use Rattle.model.proofs.Still.{gather-one, of_members}
use Rattle.model.proofs.Dropped.{labelled-none, returned-none, flush-still, flush_back-still}
use Rattle.model.proofs.Takes.{Hears, hears-both, hears-alone, Takes, takes}
use Rattle.model.proofs.Weights.{endures-some, endures-tick, endures-for, endures-login, weights, weights-requests, room_of, length-returned}

asks-first : (t : ℕ) (m : Request) (ms : List ToServer) → asks t (For t m ∷ ms) ≡ m ∷ asks t ms
unfolding asks
asks-first t m ms = ap (λ b. cond b (m ∷ asks t ms) (asks t ms)) (eqb_same t)

pub tells_first : (t : ℕ) (m : Reply) (ms : List ToClient) → tells-of t (Of t m ∷ ms) ≡ m ∷ tells-of t ms
unfolding tells-of
tells_first t m ms = ap (λ b. cond b (m ∷ tells-of t ms) (tells-of t ms)) (eqb_same t)

no-cons : {A B : Type 0} (x : A) (xs : List A) → x ∷ xs ≡ [] → B
no-cons x xs e = absurd (let z : ◌≡◌ {A = ℕ} 0 1 = cc in omega arith)

-- what the client does with a message
pub record Took (r : Rules) (d : Did Client ToServer) : Type 0 where
  pub up : d.side.up ≡ true
  pub light : weights r d.sends ≤ r.window + 2
  pub number : ℕ
  pub asked : List Request
  pub sends : d.sends ≡ labelled number asked

pub record Served {S E : Type 0} (r : Rules) (n : ℕ) (m : ToServer) (ms : List ToServer) (d : Did (Server S E) ToClient) : Type 0 where
  pub up : d.side.up ≡ true
  pub few : length d.sends ≤ room_of r m
  pub endured : endures r n d.side.user d.side.tries ms ≡ true

took-none : (r : Rules) (c : Client) (d : Did Client ToServer) → c.up ≡ true → d ≡ did c [] → Took r d
unfolding weights labelled
took-none r c d u e = subst (λ (y : Did Client ToServer). Took r y) (sym e) (record { up = u; light = omega arith; number = 0; asked = []; sends = refl })

took-heard : (r : Rules) (c : Client) (t : ℕ) (m : Reply) (x : ClientChannel) → Rising (numbers number_of c.channels) → ((z : ClientChannel) → Memᴰ z c.channels → requests r z ≡ []) → c.up ≡ true → channel_at t c ≡ Some x → Hears r m x → Took r (take_in r (Of t m) c)
took-heard r c t m x ris idle cu e h =
    let y = h.new in
    let cs = change number_of t (λ _. y) c.channels in
    let a : receive r (Of t m) c ≡ with_channels cs c = ap (λ o. heard t (hear r m o) c) e ∙ ap (λ o. heard t o c) h.is in
    let b : flush r (did (with_channels cs c) []) ≡ did (client (each flushed cs) c.accepted c.up) (gather (requests_of r) cs) = cond-true c.up (did (client (each flushed cs) c.accepted c.up) (gather (requests_of r) cs)) (did (with_channels cs c) []) cu in
    let g : gather (requests_of r) cs ≡ requests_of r y = gather-one number_of (requests_of r) t x y c.channels ris e (λ z k. labelled-none r z (idle z k)) in
    subst (λ (d : Did Client ToServer). Took r d) (sym (ap (λ d. flush r (did d [])) a ∙ b))
    (record { up = cu; light = let w = ap (weights r) g in let v = weights-requests r y in let f = h.few in omega arith; number = y.number; asked = requests r y; sends = g })

-- a program that has just started has nothing to send
new-still : {S E : Type 0} (r : Rules) (p : Programs S E) (t k u : ℕ) (e : E) → replies r (new_program r p t k u e) ≡ []
unfolding outputs parts
new-still r p t k u e = nothing (r.window - 0)
  where
    nothing : (v : ℕ) → outputs (parts (length (take {A = ℕ} v [])) r.part (take {A = ℕ} v [])) ++ [] ≡ []
    nothing zero = refl
    nothing (suc v) = refl

module _ {S E : Type 0} (r : Rules) (fair : Fair r) where
  -- the channel that a message is for, at both sides
  pub local-both : (c : Client) (s : Server S E) (there : List ToServer) (back : List ToClient) → InvOf r c s there back → c.up ≡ true → s.up ≡ true → (t : ℕ) → Local r true true (channel_at t c) (channel_of t s) (asks t there) (tells-of t back)
  local-both c s there back i cu su t =
      subst (λ (b : Bool). Local r b true (channel_at t c) (channel_of t s) (asks t there) (tells-of t back)) cu
      (subst (λ (b : Bool). Local r c.up b (channel_at t c) (channel_of t s) (asks t there) (tells-of t back)) su (i.local t))

  -- the client finds the channel of a message, and hears it
  hears : (c : Client) (s : Server S E) (there : List ToServer) (t : ℕ) (m : Reply) (ms : List ToClient) → InvOf r c s there (Of t m ∷ ms) → c.up ≡ true → s.up ≡ true → (x : ClientChannel) × (channel_at t c ≡ Some x) × Hears r m x
  hears c s there t m ms i cu su = go (channel_at t c) refl (channel_of t s) (subst (λ (l : List Reply). Local r true true (channel_at t c) (channel_of t s) (asks t there) l) (tells_first t m ms) (local-both c s there (Of t m ∷ ms) i cu su t))
    where
      go : (o : Option ClientChannel) → channel_at t c ≡ o → (p : Option (ServerChannel S)) → Local r true true o p (asks t there) (m ∷ tells-of t ms) → (x : ClientChannel) × (o ≡ Some x) × Hears r m x
      go None e None l = no-cons m (tells-of t ms) l.1
      go None e (Some f) l = absurd l
      go (Some x) e None l = (x, refl, hears-alone r x (asks t there) m (tells-of t ms) l.0 l.1)
      go (Some x) e (Some f) l = (x, refl, hears-both r fair x f (asks t there) m (tells-of t ms) l (i.idle cu t x e))

  idle-members : (c : Client) (s : Server S E) (there : List ToServer) (back : List ToClient) → InvOf r c s there back → c.up ≡ true → (x : ClientChannel) → Memᴰ x c.channels → requests r x ≡ []
  idle-members c s there back i cu = of_members number_of (requests r) c.channels i.rising (i.idle cu)

  idle-members-there : (c : Client) (s : Server S E) (there : List ToServer) (back : List ToClient) → InvOf r c s there back → s.up ≡ true → (f : ServerChannel S) → Memᴰ f s.channels → replies r f ≡ []
  idle-members-there c s there back i su = of_members number_at (replies r) s.channels i.rising-there (i.idle-there su)

  pub took : (c : Client) (s : Server S E) (there : List ToServer) (m : ToClient) (ms : List ToClient) → InvOf r c s there (m ∷ ms) → c.up ≡ true → s.up ≡ true → Took r (take_in r m c)
  took c s there (Accepted b) ms i cu su = took-none r (client c.channels (c.accepted || b) c.up) (take_in r (Accepted b) c) cu (flush-still r (client c.channels (c.accepted || b) c.up) [] cu (idle-members c s there (Accepted b ∷ ms) i cu))
  took c s there Tock ms i cu su = took-none r c (take_in r Tock c) cu (flush-still r c [] cu (idle-members c s there (Tock ∷ ms) i cu))
  took c s there (Of t m) ms i cu su = let z = hears c s there t m ms i cu su in took-heard r c t m z.0 i.rising (idle-members c s there (Of t m ∷ ms) i cu) cu z.1 z.2

  -- the server finds the channel of a message that is no start, and takes it
  finds : (c : Client) (s : Server S E) (t : ℕ) (m : Request) (ms : List ToServer) (back : List ToClient) → InvOf r c s (For t m ∷ ms) back → c.up ≡ true → s.up ≡ true → is_run m ≡ false → (f : ServerChannel S) × (channel_of t s ≡ Some f) × Takes r m f
  finds c s t m ms back i cu su nr = go (channel_at t c) (channel_of t s) refl (subst (λ (l : List Request). Local r true true (channel_at t c) (channel_of t s) l (tells-of t back)) (asks-first t m ms) (local-both c s (For t m ∷ ms) back i cu su t))
    where
      alone : (q : Phase) (x : ClientChannel) → AloneIn q x (m ∷ asks t ms) (tells-of t back) → ⊥
      alone Asked x (inl l) = true≢false (let z = l.0 in let y : m ≡ Run x.command = cc in sym (ap is_run y) ∙ nr)
      alone Asked x (inr l) = no-cons m (asks t ms) l.0
      alone Running x l = l
      alone Refused x l = no-cons m (asks t ms) l.0
      alone Closed x l = l

      go : (o : Option ClientChannel) (p : Option (ServerChannel S)) → channel_of t s ≡ p → Local r true true o p (m ∷ asks t ms) (tells-of t back) → (f : ServerChannel S) × (p ≡ Some f) × Takes r m f
      go None None e l = no-cons m (asks t ms) l.0
      go None (Some f) e l = absurd l
      go (Some x) None e l = absurd (alone x.phase x l.1)
      go (Some x) (Some f) e l = (f, refl, takes r fair x f m (asks t ms) (tells-of t back) l (i.idle-there su t f e))

  served-passed : (p : Programs S E) (n : ℕ) (s : Server S E) (t : ℕ) (m : Request) (ms : List ToServer) (f : ServerChannel S) → Rising (numbers number_at s.channels) → ((z : ServerChannel S) → Memᴰ z s.channels → replies r z ≡ []) → s.up ≡ true → channel_of t s ≡ Some f → Takes r m f → endures r n s.user s.tries (For t m ∷ ms) ≡ true → Served r n (For t m) ms (flush_back r (pass r t m s))
  served-passed p n s t m ms f ris idle su e h en =
      let y = h.new in
      let cs = change number_at t (λ _. y) s.channels in
      let a : pass r t m s ≡ did (with_all cs s) [] = ap (λ o. cond (is_refused t o s) (did s []) (did (passed t (pass_to r t m o s) s) [])) e ∙ ap (λ o. did (passed t o s) []) h.is in
      let b : flush_back r (did (with_all cs s) []) ≡ did (with_all (each sent_back cs) s) (gather (replies_of r) cs) = cond-true s.up (did (with_all (each sent_back cs) s) (gather (replies_of r) cs)) (did (forget_all (with_all cs s)) []) su in
      let g : gather (replies_of r) cs ≡ replies_of r y = gather-one number_at (replies_of r) t f y s.channels ris e (λ z k. returned-none r z (idle z k)) in
      subst (λ (d : Did (Server S E) ToClient). Served r n (For t m) ms d) (sym (ap (flush_back r) a ∙ b))
      (record { up = su; few = let w = ap length g in let v = length-returned y.number (replies r y) in let q = h.few in omega arith; endured = sym (endures-for r n s.user s.tries t m ms) ∙ en })

  served-still : (n : ℕ) (m : ToServer) (ms : List ToServer) (s : Server S E) (bs : List ToClient) → ((z : ServerChannel S) → Memᴰ z s.channels → replies r z ≡ []) → s.up ≡ true → length bs ≤ room_of r m → endures r n s.user s.tries ms ≡ true → Served r n m ms (flush_back r (did s bs))
  served-still n m ms s bs idle su l en = subst (λ (d : Did (Server S E) ToClient). Served r n m ms d) (sym (flush_back-still r s bs su idle)) (record { up = su; few = l; endured = en })

  served-login : (n u : ℕ) (q : List ℕ) (ms : List ToServer) (s : Server S E) → ((z : ServerChannel S) → Memᴰ z s.channels → replies r z ≡ []) → s.up ≡ true → endures r n s.user s.tries (Login u q ∷ ms) ≡ true → Served r n (Login u q) ms (flush_back r (login_by r n u q s.user s))
  served-login n u q ms s idle su en = go s.user refl en
    where
      bad : (b : Bool) → ltb (suc s.tries) r.tries ≡ b → (b && endures r n None (suc s.tries) ms) ≡ true →
          Served r n (Login u q) ms (flush_back r (cond b (did (server s.channels s.used None (suc s.tries) s.env s.up) (Accepted false ∷ [])) (did (server s.channels s.used None (suc s.tries) s.env false) [])))
      bad true e h = served-still n (Login u q) ms (server s.channels s.used None (suc s.tries) s.env s.up) (Accepted false ∷ []) idle su (omega arith) h
      bad false e h = absurd (true≢false (sym h))

      try : (b : Bool) → cond b true (ltb (suc s.tries) r.tries && endures r n None (suc s.tries) ms) ≡ true →
          Served r n (Login u q) ms (flush_back r (cond b (did (server s.channels s.used (Some u) s.tries s.env s.up) (Accepted true ∷ []))
          (cond (ltb (suc s.tries) r.tries) (did (server s.channels s.used None (suc s.tries) s.env s.up) (Accepted false ∷ [])) (did (server s.channels s.used None (suc s.tries) s.env false) []))))
      try true h = served-still n (Login u q) ms (server s.channels s.used (Some u) s.tries s.env s.up) (Accepted true ∷ []) idle su (omega arith) (endures-some r n u s.tries ms)
      try false h = bad (ltb (suc s.tries) r.tries) refl h

      go : (o : Option ℕ) → s.user ≡ o → endures r n o s.tries (Login u q ∷ ms) ≡ true → Served r n (Login u q) ms (flush_back r (login_by r n u q o s))
      go (Some v) e h = served-still n (Login u q) ms s (Accepted false ∷ []) idle su (omega arith) (ap (λ o. endures r n o s.tries ms) e ∙ endures-some r n v s.tries ms)
      go None e h = try (r.accepts n u q) (sym (endures-login r n s.tries u q ms) ∙ h)

  served-start : (p : Programs S E) (n t k : ℕ) (ms : List ToServer) (s : Server S E) → ((z : ServerChannel S) → Memᴰ z s.channels → replies r z ≡ []) → s.up ≡ true → endures r n s.user s.tries (For t (Run k) ∷ ms) ≡ true → Served r n (For t (Run k)) ms (flush_back r (start r p t k s))
  served-start p n t k ms s idle su en = go (runs_now r t k s)
    where
      kept : endures r n s.user s.tries ms ≡ true
      kept = sym (endures-for r n s.user s.tries t (Run k) ms) ∙ en

      new : ServerChannel S
      new = new_program r p t k (whom s.user) s.env

      all : (z : ServerChannel S) → Memᴰ z (s.channels ++ new ∷ []) → replies r z ≡ []
      all z m = ⊎_elim (idle z) (λ q. ap (replies r) (Memᴰ.eq_of_singleton q) ∙ new-still r p t k (whom s.user) s.env) (Memᴰ.append_cases s.channels m)

      go : (b : Bool) → Served r n (For t (Run k)) ms (flush_back r (cond b
          (did (server (s.channels ++ new ∷ []) (used_now r t s) s.user s.tries s.env s.up) (Of t (Runs true) ∷ (Of t (InputCredit r.window) ∷ [])))
          (did (server s.channels (used_now r t s) s.user s.tries s.env s.up) (Of t (Runs false) ∷ []))))
      go true = served-still n (For t (Run k)) ms (server (s.channels ++ new ∷ []) (used_now r t s) s.user s.tries s.env s.up) (Of t (Runs true) ∷ (Of t (InputCredit r.window) ∷ [])) all su (omega arith) kept
      go false = served-still n (For t (Run k)) ms (server s.channels (used_now r t s) s.user s.tries s.env s.up) (Of t (Runs false) ∷ []) idle su (omega arith) kept

  pub served : (p : Programs S E) (n : ℕ) (c : Client) (s : Server S E) (m : ToServer) (ms : List ToServer) (back : List ToClient) → InvOf r c s (m ∷ ms) back → c.up ≡ true → s.up ≡ true → endures r n s.user s.tries (m ∷ ms) ≡ true → Served r n m ms (serve r p n m s)
  served p n c s (Login u q) ms back i cu su en = served-login n u q ms s (idle-members-there c s (Login u q ∷ ms) back i su) su en
  served p n c s Tick ms back i cu su en = served-still n Tick ms s [] (idle-members-there c s (Tick ∷ ms) back i su) su (omega arith) (sym (endures-tick r n s.user s.tries ms) ∙ en)
  served p n c s (For t (Run k)) ms back i cu su en = served-start p n t k ms s (idle-members-there c s (For t (Run k) ∷ ms) back i su) su en
  served p n c s (For t (Input bs)) ms back i cu su en = let z = finds c s t (Input bs) ms back i cu su refl in served-passed p n s t (Input bs) ms z.0 i.rising-there (idle-members-there c s (For t (Input bs) ∷ ms) back i su) su z.1 z.2 en
  served p n c s (For t (OutputCredit k)) ms back i cu su en = let z = finds c s t (OutputCredit k) ms back i cu su refl in served-passed p n s t (OutputCredit k) ms z.0 i.rising-there (idle-members-there c s (For t (OutputCredit k) ∷ ms) back i su) su z.1 z.2 en
  served p n c s (For t Eof) ms back i cu su en = let z = finds c s t Eof ms back i cu su refl in served-passed p n s t Eof ms z.0 i.rising-there (idle-members-there c s (For t Eof ∷ ms) back i su) su z.1 z.2 en
  served p n c s (For t Close) ms back i cu su en = let z = finds c s t Close ms back i cu su refl in served-passed p n s t Close ms z.0 i.rising-there (idle-members-there c s (For t Close ∷ ms) back i su) su z.1 z.2 en
