-- What holds stays so when a message arrives at the server. Assumes nothing.
use Rattle.std.proofs.Common.{◌≡◌, ℕ, suc, ◌<◌, ◌≤◌, Bool, true, false, cond, not, ◌||◌, eqb, ltb, ◌⊎◌, List, [], ◌∷◌, ◌++◌, Some, None, Option, Result, sym, refl, ap, ◌∙◌, subst, inl, inr, append_assoc, append-nil, arith}
use Rattle.std.proofs.lemmas.Bool.{eqb-true, or_from, or_cases, le-ltb, lt-ltb, and_from, or_right, not_from_true}
use Rattle.std.specs.Option.{option_map}
use Rattle.model.specs.Keyed.{change, numbers, is_in, above, Rising}
use Rattle.model.specs.Messages.{Rules, Fair, Request, Run, Input, OutputCredit, Eof, Close, Reply, Runs, InputCredit, ToServer, Login, Tick, For, ToClient, Accepted, Of, Programs, Did, did, Fault}
use Rattle.model.specs.Client.{Client, ClientChannel, number_of, channel_at, Asked}
use Rattle.model.specs.Server.{Server, ServerChannel, server, number_at, channel_of, login_by, new_program, bad_start, runs_now, used_now, whom, hear_at, pass_to, passed, is_refused, pass, for_channel, serve, flush_back, with_all}
use Rattle.model.proofs.Finds.{eqb_same, find-append, numbers-append, above-not-in, above_in, rising-append, rising-above, in-append, in-middle, find-key}
use Rattle.model.proofs.Ways.{asks, tells-of, tells-append}
use Rattle.model.proofs.Local.{Local, Fresh, Begun}
use Rattle.model.proofs.Inv.{starts, InvOf}
use Rattle.model.proofs.HearsServer.{pass-local, only-start, runs-local, refused-local}
use Rattle.model.proofs.InTurn.{cut-there}
use Rattle.model.proofs.Known.{Known, parts-of, server-flush, server-changes}

above_from : (t : ℕ) (xs : List ℕ) → ((n : ℕ) → is_in n xs ≡ true → n < t) → above t xs ≡ true
unfolding above is_in
above_from t [] f = refl
above_from t (x ∷ xs) f = and_from (ltb x t) (above t xs) (lt-ltb x t (f x (ap (λ b. cond b true (is_in x xs)) (eqb_same x)))) (above_from t xs (λ n i. f n (go n (eqb x n) i)))
  where
    go : (n : ℕ) (b : Bool) → is_in n xs ≡ true → cond b true (is_in n xs) ≡ true
    go n true i = refl
    go n false i = i

by-test : (t n : ℕ) (P : ℕ → Type 0) → P t → (eqb t n ≡ false → P n) → P n
by-test t n P a f = go (eqb t n) refl
  where
    go : (b : Bool) → eqb t n ≡ b → P n
    go true e = subst P (eqb-true t n e) a
    go false e = f e

module _ {S E : Type 0} (r : Rules) (fair : Fair r) (p : Programs S E) (c : Client) (s : Server S E) (ms : List ToServer) (back : List ToClient) (up : s.up ≡ true) where
  abbrev Goes : Did (Server S E) ToClient → Type 0
  Goes d = InvOf r c d.side ms (back ++ d.sends)

  -- a message of no channel
  none_of : (m : ToServer) (d : Server S E) (ns : List ToClient) → ((t : ℕ) → asks t (m ∷ ms) ≡ asks t ms) → starts (m ∷ ms) ≡ starts ms → ((t : ℕ) → tells-of t ns ≡ []) → d.channels ≡ s.channels → d.used ≡ s.used → (up' : Bool) → d.up ≡ up' → (up' ≡ true) ⊎ (up' ≡ false) → InvOf r c s (m ∷ ms) back → Goes (flush_back r (did d ns))
  none_of m d ns ea es en ec eu up' ep which h =
      server-flush r fair c d ns ms back
      (subst (λ (l : List (ServerChannel S)). Known r c.channels c.up l d.used d.up ms (back ++ ns)) (sym ec)
      (subst (λ (l : List ℕ). Known r c.channels c.up s.channels l d.up ms (back ++ ns)) (sym eu)
      (record {
        rising = h.rising;
        rising-there = h.rising-there;
        order = h.order ∙ ap (λ l. s.used ++ l) es;
        used = h.used;
        small = h.small;
        local = λ t. subst (λ (l : List Reply). Local r c.up d.up (channel_at t c) (channel_of t s) (asks t ms) l) (sym (tells-append t back ns ∙ ap (λ l. tells-of t back ++ l) (en t) ∙ append-nil (tells-of t back)))
            (subst (λ (l : List Request). Local r c.up d.up (channel_at t c) (channel_of t s) l (tells-of t back)) (ea t) (subst (λ (b : Bool). Local r c.up b (channel_at t c) (channel_of t s) (asks t (m ∷ ms)) (tells-of t back)) (sym ep) (still which t)));
      }))) h.idle
    where
      still : (up' ≡ true) ⊎ (up' ≡ false) → (t : ℕ) → Local r c.up up' (channel_at t c) (channel_of t s) (asks t (m ∷ ms)) (tells-of t back)
      still (inl e) t = subst (λ (b : Bool). Local r c.up b (channel_at t c) (channel_of t s) (asks t (m ∷ ms)) (tells-of t back)) (up ∙ sym e) (h.local t)
      still (inr e) t = subst (λ (b : Bool). Local r c.up b (channel_at t c) (channel_of t s) (asks t (m ∷ ms)) (tells-of t back)) (sym e) (cut-there r c.up s.up (channel_at t c) (channel_of t s) (asks t (m ∷ ms)) (tells-of t back) (h.local t))

  -- a login
  module _ (n u : ℕ) (q : List ℕ) (h : InvOf r c s (Login u q ∷ ms) back) where
    login-with : (d : Server S E) (ns : List ToClient) → ((t : ℕ) → tells-of t ns ≡ []) → d.channels ≡ s.channels → d.used ≡ s.used → (up' : Bool) → d.up ≡ up' → (up' ≡ true) ⊎ (up' ≡ false) → Goes (flush_back r (did d ns))
    unfolding asks starts
    login-with d ns en ec eu up' ep w = none_of (Login u q) d ns (λ t. refl) refl en ec eu up' ep w h

    tried : (b : Bool) → Goes (flush_back r (cond b (did (server s.channels s.used None (suc s.tries) s.env s.up) (Accepted false ∷ [])) (did (server s.channels s.used None (suc s.tries) s.env false) [])))
    unfolding tells-of
    tried true = login-with (server s.channels s.used None (suc s.tries) s.env s.up) (Accepted false ∷ []) (λ t. refl) refl refl true up (inl refl)
    tried false = login-with (server s.channels s.used None (suc s.tries) s.env false) [] (λ t. refl) refl refl false refl (inr refl)

    accepted-if : (b : Bool) → Goes (flush_back r (cond b (did (server s.channels s.used (Some u) s.tries s.env s.up) (Accepted true ∷ []))
        (cond (ltb (suc s.tries) r.tries) (did (server s.channels s.used None (suc s.tries) s.env s.up) (Accepted false ∷ [])) (did (server s.channels s.used None (suc s.tries) s.env false) []))))
    unfolding tells-of
    accepted-if true = login-with (server s.channels s.used (Some u) s.tries s.env s.up) (Accepted true ∷ []) (λ t. refl) refl refl true up (inl refl)
    accepted-if false = tried (ltb (suc s.tries) r.tries)

    login-any : (o : Option ℕ) → Goes (flush_back r (login_by r n u q o s))
    unfolding tells-of
    login-any (Some v) = login-with s (Accepted false ∷ []) (λ t. refl) refl refl true up (inl refl)
    login-any None = accepted-if (r.accepts n u q)

  -- the first on the way is of channel t
  own_first : (t : ℕ) (m : Request) → asks t (For t m ∷ ms) ≡ m ∷ asks t ms
  unfolding asks
  own_first t m = ap (λ b. cond b (m ∷ asks t ms) (asks t ms)) (eqb_same t)

  other-first : (t k : ℕ) (m : Request) → eqb t k ≡ false → asks k ms ≡ asks k (For t m ∷ ms)
  unfolding asks
  other-first t k m e = sym (ap (λ b. cond b (m ∷ asks k ms) (asks k ms)) e)

  first-local : (t : ℕ) (m : Request) → InvOf r c s (For t m ∷ ms) back → Local r c.up true (channel_at t c) (channel_of t s) (m ∷ asks t ms) (tells-of t back)
  first-local t m h = subst (λ (l : List Request). Local r c.up true (channel_at t c) (channel_of t s) l (tells-of t back)) (own_first t m) (subst (λ (b : Bool). Local r c.up b (channel_at t c) (channel_of t s) (asks t (For t m ∷ ms)) (tells-of t back)) up (h.local t))

  -- a request of a channel that runs
  passes : (t : ℕ) (m : Request) (f : ServerChannel S) → channel_of t s ≡ Some f → starts (For t m ∷ ms) ≡ starts ms → InvOf r c s (For t m ∷ ms) back → Goes (flush_back r (did (passed t (hear_at r m f) s) []))
  passes t m f ff es h = go (channel_at t c) (subst (λ (o : Option (ServerChannel S)). Local r c.up true (channel_at t c) o (m ∷ asks t ms) (tells-of t back)) ff (first-local t m h)) refl
    where
      go : (cx : Option ClientChannel) → Local r c.up true cx (Some f) (m ∷ asks t ms) (tells-of t back) → channel_at t c ≡ cx → Goes (flush_back r (did (passed t (hear_at r m f) s) []))
      go None l e = absurd l
      go (Some x) l e =
          let y = pass-local r fair c.up m x f (asks t ms) (tells-of t back) l in
          let n : y.0.number ≡ t = y.2 ∙ find-key number_at t s.channels f ff in
          let own0 : Local r c.up true (channel_at t c) (Some y.0) (asks t ms) (tells-of t back) = subst (λ (o : Option ClientChannel). Local r c.up true o (Some y.0) (asks t ms) (tells-of t back)) (sym e) y.3 in
          let own = subst (λ (b : Bool). Local r c.up b (channel_at t c) (Some y.0) (asks t ms) (tells-of t back)) (sym up) own0 in
          let k = server-changes r c.channels c.up s.channels s.used s.up (For t m ∷ ms) ms back back t (λ _. y.0) (λ z q. n) (sym es) (λ k q. (other-first t k m q, refl))
          (subst (λ (o : Option (ServerChannel S)). Local r c.up s.up (channel_at t c) (option_map (λ _. y.0) o) (asks t ms) (tells-of t back)) (sym ff) own) (parts-of r c s (For t m ∷ ms) back h) in
          subst (λ (z : Result (ServerChannel S) Fault). Goes (flush_back r (did (passed t z s) []))) (sym y.1)
          (server-flush r fair c (with_all (change number_at t (λ _. y.0) s.channels) s) [] ms back (subst (λ (l : List ToClient). Known r c.channels c.up (change number_at t (λ _. y.0) s.channels) s.used s.up ms l) (sym (append-nil back)) k) h.idle)

  no_start : (m : Request) → ((k : ℕ) → m ≡ Run k → ⊥) → (cx : Option ClientChannel) (us : List Request) (ds : List Reply) → Local {S = S} r c.up true cx None (m ∷ us) ds → ⊥
  no_start m nr cx us ds l = let o = only-start S r c.up m cx us ds l in nr o.0.command o.2

  passed_on : (t : ℕ) (m : Request) → ((k : ℕ) → m ≡ Run k → ⊥) → starts (For t m ∷ ms) ≡ starts ms → InvOf r c s (For t m ∷ ms) back → Goes (flush_back r (pass r t m s))
  passed_on t m nr es h = go (channel_of t s) refl
    where
      go : (o : Option (ServerChannel S)) → channel_of t s ≡ o → Goes (flush_back r (cond (is_refused t o s) (did s []) (did (passed t (pass_to r t m o s) s) [])))
      go None e = absurd (no_start m nr (channel_at t c) (asks t ms) (tells-of t back) (subst (λ (o : Option (ServerChannel S)). Local r c.up true (channel_at t c) o (m ∷ asks t ms) (tells-of t back)) e (first-local t m h)))
      go (Some f) e = passes t m f e es h

  -- A start.
  module _ (t k : ℕ) (h : InvOf r c s (For t (Run k) ∷ ms) back) where
    starts-here : starts (For t (Run k) ∷ ms) ≡ t ∷ starts ms
    unfolding starts
    starts-here = refl

    ordered : numbers number_of c.channels ≡ s.used ++ (t ∷ starts ms)
    ordered = h.order ∙ ap (λ l. s.used ++ l) starts-here

    larger : above t s.used ≡ true
    larger = rising-above s.used t (starts ms) (subst (λ (l : List ℕ). Rising l) ordered h.rising)

    fits : t ≤ r.last
    fits = h.small t (ap (is_in t) ordered ∙ in-middle t s.used (starts ms))

    good : bad_start r t s ≡ false
    good = or_from (not (above t s.used)) (ltb r.last t) (not_from_true (above t s.used) larger) (le-ltb r.last t fits)

    came : used_now r t s ≡ s.used ++ t ∷ []
    came = ap (λ b. cond b s.used (s.used ++ t ∷ [])) good

    -- the server does not know it yet
    unknown : channel_of t s ≡ None
    unfolding Begun
    unknown = go (channel_of t s) refl
      where
        go : (o : Option (ServerChannel S)) → channel_of t s ≡ o → o ≡ None
        go None e = refl
        go (Some f) e = absurd (never (channel_at t c) (subst (λ (o : Option (ServerChannel S)). Local r c.up true (channel_at t c) o (Run k ∷ asks t ms) (tells-of t back)) e (first-local t (Run k) h)))
          where
            never : (cx : Option ClientChannel) → Local r c.up true cx (Some f) (Run k ∷ asks t ms) (tells-of t back) → ⊥
            never None l = l
            never (Some x) l = l.begun

    alone : (x : ClientChannel) × (channel_at t c ≡ Some x) × (Run k ≡ Run x.command) × (asks t ms ≡ []) × (tells-of t back ≡ []) × Fresh x × (x.phase ≡ Asked)
    alone = only-start S r c.up (Run k) (channel_at t c) (asks t ms) (tells-of t back) (subst (λ (o : Option (ServerChannel S)). Local r c.up true (channel_at t c) o (Run k ∷ asks t ms) (tells-of t back)) unknown (first-local t (Run k) h))

    order-after : numbers number_of c.channels ≡ used_now r t s ++ starts ms
    order-after = ordered ∙ sym (append_assoc s.used (t ∷ []) (starts ms)) ∙ ap (λ l. l ++ starts ms) (sym came)

    used-after : (n : ℕ) → (is_in n (numbers number_at s.channels) ≡ true) ⊎ (is_in n (t ∷ []) ≡ true) → is_in n (used_now r t s) ≡ true
    used-after n w = ap (is_in n) came ∙ in-append n s.used (t ∷ []) ∙ go w
      where
        go : (is_in n (numbers number_at s.channels) ≡ true) ⊎ (is_in n (t ∷ []) ≡ true) → (is_in n s.used || is_in n (t ∷ [])) ≡ true
        go (inl a) = ap (λ b. b || is_in n (t ∷ [])) (h.used n a)
        go (inr a) = or_right (is_in n s.used) (is_in n (t ∷ [])) a

    all-smaller : above t (numbers number_at s.channels) ≡ true
    all-smaller = above_from t (numbers number_at s.channels) (λ n i. above_in t n s.used larger (h.used n i))

    -- of the other channels nothing arrived, and nothing is told
    others-stay : (n : ℕ) (ns : List ToClient) → eqb t n ≡ false → tells-of n ns ≡ [] → Local r c.up s.up (channel_at n c) (channel_of n s) (asks n ms) (tells-of n (back ++ ns))
    others-stay n ns e none =
        subst (λ (l : List Request). Local r c.up s.up (channel_at n c) (channel_of n s) l (tells-of n (back ++ ns))) (sym (other-first t n (Run k) e))
        (subst (λ (l : List Reply). Local r c.up s.up (channel_at n c) (channel_of n s) (asks n (For t (Run k) ∷ ms)) l) (sym (tells-append n back ns ∙ ap (λ l. tells-of n back ++ l) none ∙ append-nil (tells-of n back))) (h.local n))

    refused-known : Known r c.channels c.up s.channels (used_now r t s) s.up ms (back ++ (Of t (Runs false) ∷ []))
    unfolding tells-of
    refused-known =
        let a = alone in
        let told : tells-of t (Of t (Runs false) ∷ []) ≡ Runs false ∷ [] = ap (λ b. cond b (Runs false ∷ []) []) (eqb_same t) in
        record {
          rising = h.rising;
          rising-there = h.rising-there;
          order = order-after;
          used = λ n q. used-after n (inl q);
          small = h.small;
          local = λ n. by-test t n (λ (m : ℕ). Local r c.up s.up (channel_at m c) (channel_of m s) (asks m ms) (tells-of m (back ++ (Of t (Runs false) ∷ []))))
              (subst (λ (l : List Reply). Local r c.up s.up (channel_at t c) (channel_of t s) (asks t ms) l) (sym (tells-append t back (Of t (Runs false) ∷ []) ∙ ap (λ l. tells-of t back ++ l) told))
              (subst (λ (b : Bool). Local r c.up b (channel_at t c) (channel_of t s) (asks t ms) (tells-of t back ++ (Runs false ∷ []))) (sym up)
              (subst (λ (o : Option (ServerChannel S)). Local r c.up true (channel_at t c) o (asks t ms) (tells-of t back ++ (Runs false ∷ []))) (sym unknown)
              (subst (λ (o : Option ClientChannel). Local {S = S} r c.up true o None (asks t ms) (tells-of t back ++ (Runs false ∷ []))) (sym a.1) (refused-local S r c.up k a.0 (asks t ms) (tells-of t back) a.3 a.4 a.5 a.6)))))
              (λ e. others-stay n (Of t (Runs false) ∷ []) e (ap (λ b. cond b (Runs false ∷ []) []) e));
        }

    module _ (u : ℕ) where
      abbrev new : ServerChannel S
      new = new_program r p t k u s.env

      abbrev answer : List ToClient
      answer = Of t (Runs true) ∷ (Of t (InputCredit r.window) ∷ [])

      runs-at : (n : ℕ) → Local r c.up s.up (channel_at n c) (cond (eqb t n) (Some new) (channel_of n s)) (asks n ms) (tells-of n (back ++ answer))
      unfolding tells-of
      runs-at n = go (eqb t n) refl
        where
          go : (b : Bool) → eqb t n ≡ b → Local r c.up s.up (channel_at n c) (cond b (Some new) (channel_of n s)) (asks n ms) (tells-of n (back ++ answer))
          go true e =
              let a = alone in
              let told : tells-of t answer ≡ Runs true ∷ (InputCredit r.window ∷ []) = ap (λ b. cond b (Runs true ∷ cond b (InputCredit r.window ∷ []) []) (cond b (InputCredit r.window ∷ []) [])) (eqb_same t) in
              let ek : k ≡ a.0.command = let z = a.2 in cc in
              let l0 = runs-local r fair c.up p t k u s.env a.0 (asks t ms) (tells-of t back) a.3 a.4 a.5 a.6 ek in
              let l1 = subst (λ (o : Option ClientChannel). Local r c.up true o (Some new) (asks t ms) (tells-of t back ++ (Runs true ∷ (InputCredit r.window ∷ [])))) (sym a.1) l0 in
              let l2 = subst (λ (b : Bool). Local r c.up b (channel_at t c) (Some new) (asks t ms) (tells-of t back ++ (Runs true ∷ (InputCredit r.window ∷ [])))) (sym up) l1 in
              let l3 = subst (λ (l : List Reply). Local r c.up s.up (channel_at t c) (Some new) (asks t ms) l) (sym (tells-append t back answer ∙ ap (λ l. tells-of t back ++ l) told)) l2 in
              subst (λ (m : ℕ). Local r c.up s.up (channel_at m c) (Some new) (asks m ms) (tells-of m (back ++ answer))) (eqb-true t n e) l3
          go false e = others-stay n answer e (ap (λ b. cond b (Runs true ∷ cond b (InputCredit r.window ∷ []) []) (cond b (InputCredit r.window ∷ []) [])) e)

      runs-known : Known r c.channels c.up (s.channels ++ new ∷ []) (used_now r t s) s.up ms (back ++ answer)
      unfolding numbers
      runs-known =
          let nums = numbers-append number_at s.channels (new ∷ []) in
          let nin = above-not-in t (numbers number_at s.channels) all-smaller in
          record {
            rising = h.rising;
            rising-there = subst (λ (l : List ℕ). Rising l) (sym nums) (rising-append (numbers number_at s.channels) t h.rising-there all-smaller);
            order = order-after;
            used = λ n q. used-after n (or_cases (is_in n (numbers number_at s.channels)) (is_in n (t ∷ [])) (sym (in-append n (numbers number_at s.channels) (t ∷ [])) ∙ sym (ap (is_in n) nums) ∙ q));
            small = h.small;
            local = λ n. subst (λ (o : Option (ServerChannel S)). Local r c.up s.up (channel_at n c) o (asks n ms) (tells-of n (back ++ answer))) (sym (find-append number_at n s.channels new nin)) (runs-at n);
          }

    starts-ok : (b : Bool) → Goes (flush_back r (cond b
        (did (server (s.channels ++ new_program r p t k (whom s.user) s.env ∷ []) (used_now r t s) s.user s.tries s.env s.up) (Of t (Runs true) ∷ (Of t (InputCredit r.window) ∷ [])))
        (did (server s.channels (used_now r t s) s.user s.tries s.env s.up) (Of t (Runs false) ∷ []))))
    starts-ok true = server-flush r fair c (server (s.channels ++ new_program r p t k (whom s.user) s.env ∷ []) (used_now r t s) s.user s.tries s.env s.up) (Of t (Runs true) ∷ (Of t (InputCredit r.window) ∷ [])) ms back (runs-known (whom s.user)) h.idle
    starts-ok false = server-flush r fair c (server s.channels (used_now r t s) s.user s.tries s.env s.up) (Of t (Runs false) ∷ []) ms back refused-known h.idle

  for-channel : (t : ℕ) (m : Request) → InvOf r c s (For t m ∷ ms) back → Goes (flush_back r (for_channel r p t m s))
  unfolding starts
  for-channel t (Run k) h = starts-ok t k h (runs_now r t k s)
  for-channel t (Input bs) h = passed_on t (Input bs) (λ k e. let z : ◌≡◌ {A = ℕ} 0 1 = cc in omega arith) refl h
  for-channel t (OutputCredit n) h = passed_on t (OutputCredit n) (λ k e. let z : ◌≡◌ {A = ℕ} 0 1 = cc in omega arith) refl h
  for-channel t Eof h = passed_on t Eof (λ k e. let z : ◌≡◌ {A = ℕ} 0 1 = cc in omega arith) refl h
  for-channel t Close h = passed_on t Close (λ k e. let z : ◌≡◌ {A = ℕ} 0 1 = cc in omega arith) refl h

  -- Any message.
  pub served : (n : ℕ) (m : ToServer) → InvOf r c s (m ∷ ms) back → Goes (serve r p n m s)
  unfolding asks starts tells-of
  served n (Login u q) h = login-any n u q h s.user
  served n Tick h = none_of Tick s [] (λ t. refl) refl (λ t. refl) refl refl true up (inl refl) h
  served n (For t m) h = for-channel t m h
