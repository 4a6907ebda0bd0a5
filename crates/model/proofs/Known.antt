-- What is known of all channels, when one of them changes at one side. Assumes nothing.
use Rattle.std.proofs.Common.{◌≡◌, ℕ, ◌≤◌, Bool, true, false, cond, eqb, List, [], ◌∷◌, ◌++◌, Some, None, Option, sym, refl, ap, ◌∙◌, subst, append_assoc, append-nil, arith}
use Rattle.std.proofs.lemmas.Bool.{eqb-true, true≢false}
use Rattle.std.specs.Option.{option_map}
use Rattle.model.specs.Keyed.{find, change, numbers, is_in, Rising, gather, each, every}
use Rattle.model.specs.Messages.{Rules, Fair, Request, Run, Input, OutputCredit, Eof, Close, Reply, ToServer, Login, Tick, For, ToClient, did, parts}
use Rattle.model.specs.Client.{Client, ClientChannel, client, number_of, channel_at, goes, eof_now, close_now, inputs, requests, requests_of, flushed, flushed_running, flush, labelled}
use Rattle.model.specs.Server.{Server, ServerChannel, server, number_at, channel_of, replies, replies_of, sent_back, forgot, forget_all, flush_back, is_over, with_all, returned}
use Rattle.model.proofs.Finds.{find-each, find-change, numbers-each, numbers-change}
use Rattle.model.proofs.Ways.{asks, tells-of, asks_append, tells-append, asks-labelled, tells-returned, own-gather}
use Rattle.model.proofs.Local.{Local}
use Rattle.model.proofs.Inv.{starts, InvOf}
use Rattle.model.proofs.AtClient.{tail, flush-local}
use Rattle.model.proofs.AtServer.{flush-back-local}
use Rattle.model.proofs.InTurn.{forgot-local}
use Rattle.model.proofs.Idle.{idle-flushed, idle-sent}

-- the invariant but for what is idle, by its parts
pub record Known {S : Type 0} (r : Rules) (cs : List ClientChannel) (cup : Bool) (fs : List (ServerChannel S)) (came : List ℕ) (sup : Bool) (there : List ToServer) (back : List ToClient) : Type 0 where
  pub rising : Rising (numbers number_of cs)
  pub rising-there : Rising (numbers number_at fs)
  pub order : numbers number_of cs ≡ came ++ starts there
  pub used : (t : ℕ) → is_in t (numbers number_at fs) ≡ true → is_in t came ≡ true
  pub small : (t : ℕ) → is_in t (numbers number_of cs) ≡ true → t ≤ r.last
  pub local : (t : ℕ) → Local r cup sup (find number_of t cs) (find number_at t fs) (asks t there) (tells-of t back)

pub starts-append : (a b : List ToServer) → starts (a ++ b) ≡ starts a ++ starts b
unfolding starts
starts-append [] b = refl
starts-append (Login u q ∷ ms) b = starts-append ms b
starts-append (Tick ∷ ms) b = starts-append ms b
starts-append (For t (Run k) ∷ ms) b = ap (λ l. t ∷ l) (starts-append ms b)
starts-append (For t (Input bs) ∷ ms) b = starts-append ms b
starts-append (For t (OutputCredit n) ∷ ms) b = starts-append ms b
starts-append (For t Eof ∷ ms) b = starts-append ms b
starts-append (For t Close ∷ ms) b = starts-append ms b

starts-inputs : (t : ℕ) (ps : List (List ℕ)) (e c : Bool) → starts (labelled t (inputs ps ++ tail e c)) ≡ []
unfolding starts labelled inputs
starts-inputs t [] true true = refl
starts-inputs t [] true false = refl
starts-inputs t [] false true = refl
starts-inputs t [] false false = refl
starts-inputs t (p ∷ ps) e c = starts-inputs t ps e c

starts_none : (r : Rules) (x : ClientChannel) (b : Bool) → starts (labelled x.number (cond b (inputs (parts (lib.ListN.length (goes x)) r.part (goes x)) ++ tail (eof_now x) (close_now x)) [])) ≡ []
unfolding starts labelled
starts_none r x true = starts-inputs x.number (parts (lib.ListN.length (goes x)) r.part (goes x)) (eof_now x) (close_now x)
starts_none r x false = refl

-- what goes by itself starts nothing
pub starts-gather : (r : Rules) (cs : List ClientChannel) → starts (gather (requests_of r) cs) ≡ []
unfolding starts gather
starts-gather r [] = refl
starts-gather r (x ∷ xs) = starts-append (requests_of r x) (gather (requests_of r) xs) ∙ ap (λ l. l ++ starts (gather (requests_of r) xs)) (starts_none r x (Rattle.model.specs.Client.runs x.phase)) ∙ starts-gather r xs

asks-nil : (t : ℕ) → asks t [] ≡ []
unfolding asks
asks-nil t = refl

tells-nil : (t : ℕ) → tells-of t [] ≡ []
unfolding tells-of
tells-nil t = refl

key-flushed : (x : ClientChannel) → (flushed x).number ≡ x.number
key-flushed x = go (Rattle.model.specs.Client.runs x.phase)
  where
    go : (b : Bool) → (cond b (flushed_running x) x).number ≡ x.number
    go true = refl
    go false = refl

module _ {S : Type 0} where
  key-sent : (f : ServerChannel S) → (sent_back f).number ≡ f.number
  key-sent f = go f.forgotten
    where
      go : (b : Bool) → (cond b f (Rattle.model.specs.Server.sent_kept f)).number ≡ f.number
      go true = refl
      go false = refl

mapped-is : {A B : Type 0} (g : A → B) (o : Option A) (y : B) → option_map g o ≡ Some y → (x : A) × (o ≡ Some x) × (y ≡ g x)
mapped-is g None y e = absurd (let z : ◌≡◌ {A = ℕ} 0 1 = cc in omega arith)
mapped-is g (Some x) y e = (x, refl, let z : y ≡ g x = cc in z)

module _ {S : Type 0} (r : Rules) (fair : Fair r) where
  -- The client's flush.
  client-sends : (cs : List ClientChannel) (fs : List (ServerChannel S)) (came : List ℕ) (sup : Bool) (there : List ToServer) (back : List ToClient) → Known r cs true fs came sup there back → Known r (each flushed cs) true fs came sup (there ++ gather (requests_of r) cs) back
  client-sends cs fs came sup there back h =
      record {
        rising = subst (λ (l : List ℕ). Rising l) (sym (numbers-each number_of flushed key-flushed cs)) h.rising;
        rising-there = h.rising-there;
        order = numbers-each number_of flushed key-flushed cs ∙ h.order ∙ ap (λ l. came ++ l) (sym (starts-append there (gather (requests_of r) cs) ∙ ap (λ l. starts there ++ l) (starts-gather r cs) ∙ append-nil (starts there)));
        used = h.used;
        small = λ t q. h.small t (sym (ap (is_in t) (numbers-each number_of flushed key-flushed cs)) ∙ q);
        local = λ t. let own = own-gather number_of asks asks_append asks-nil (requests_of r) (requests r) (λ k x. asks-labelled k x.number (requests r x)) t cs h.rising in
            subst (λ (o : Option ClientChannel). Local r true sup o (find number_at t fs) (asks t (there ++ gather (requests_of r) cs)) (tells-of t back)) (sym (find-each number_of flushed key-flushed t cs))
            (subst (λ (l : List Request). Local r true sup (option_map flushed (find number_of t cs)) (find number_at t fs) l (tells-of t back)) (sym (asks_append t there (gather (requests_of r) cs) ∙ ap (λ l. asks t there ++ l) own)) (flush-local r fair sup (find number_of t cs) (find number_at t fs) (asks t there) (tells-of t back) (h.local t)));
      }

abbrev pub IdleThere : {S : Type 0} → Rules → List (ServerChannel S) → Bool → Type 0
IdleThere {S} r fs sup = sup ≡ true → (t : ℕ) (f : ServerChannel S) → find number_at t fs ≡ Some f → replies r f ≡ []

abbrev pub IdleHere : Rules → List ClientChannel → Bool → Type 0
IdleHere r cs cup = cup ≡ true → (t : ℕ) (x : ClientChannel) → find number_of t cs ≡ Some x → requests r x ≡ []

module _ {S E : Type 0} (r : Rules) where
  pub whole : (c : Client) (s : Server S E) (there : List ToServer) (back : List ToClient) → Known r c.channels c.up s.channels s.used s.up there back → IdleHere r c.channels c.up → IdleThere r s.channels s.up → InvOf r c s there back
  whole c s there back h i j = record { rising = h.rising; rising-there = h.rising-there; order = h.order; used = h.used; local = h.local; small = h.small; idle = i; idle-there = j }

  pub parts-of : (c : Client) (s : Server S E) (there : List ToServer) (back : List ToClient) → InvOf r c s there back → Known r c.channels c.up s.channels s.used s.up there back
  parts-of c s there back h = record { rising = h.rising; rising-there = h.rising-there; order = h.order; used = h.used; small = h.small; local = h.local }

module _ {S E : Type 0} (r : Rules) (fair : Fair r) where
  pub client-flush : (c : Client) (ms : List ToServer) (s : Server S E) (there : List ToServer) (back : List ToClient) → Known r c.channels c.up s.channels s.used s.up (there ++ ms) back → IdleThere r s.channels s.up →
      InvOf r (flush r (did c ms)).side s (there ++ (flush r (did c ms)).sends) back
  client-flush c ms s there back h j = go c.up refl
    where
      go : (b : Bool) → c.up ≡ b → InvOf r (cond b (did (client (each flushed c.channels) c.accepted c.up) (ms ++ gather (requests_of r) c.channels)) (did c ms)).side s (there ++ (cond b (did (client (each flushed c.channels) c.accepted c.up) (ms ++ gather (requests_of r) c.channels)) (did c ms)).sends) back
      go true e =
          let k = client-sends r fair c.channels s.channels s.used s.up (there ++ ms) back (subst (λ (b : Bool). Known r c.channels b s.channels s.used s.up (there ++ ms) back) e h) in
          let k2 = subst (λ (l : List ToServer). Known r (each flushed c.channels) true s.channels s.used s.up l back) (append_assoc there ms (gather (requests_of r) c.channels)) k in
          let k3 = subst (λ (b : Bool). Known r (each flushed c.channels) b s.channels s.used s.up (there ++ (ms ++ gather (requests_of r) c.channels)) back) (sym e) k2 in
          whole r (client (each flushed c.channels) c.accepted c.up) s (there ++ (ms ++ gather (requests_of r) c.channels)) back k3
          (λ u t y q. let z = mapped-is flushed (find number_of t c.channels) y (sym (find-each number_of flushed key-flushed t c.channels) ∙ q) in ap (requests r) z.2 ∙ idle-flushed r z.0) j
      go false e = whole r c s (there ++ ms) back h (λ u. absurd (true≢false (sym u ∙ e))) j

-- The server's flush, and its forgetting.
module _ {S : Type 0} (r : Rules) (fair : Fair r) where
  server-sends : (cs : List ClientChannel) (cup : Bool) (fs : List (ServerChannel S)) (came : List ℕ) (there : List ToServer) (back : List ToClient) → Known r cs cup fs came true there back → Known r cs cup (each sent_back fs) came true there (back ++ gather (replies_of r) fs)
  server-sends cs cup fs came there back h =
      record {
        rising = h.rising;
        rising-there = subst (λ (l : List ℕ). Rising l) (sym (numbers-each number_at sent_back key-sent fs)) h.rising-there;
        order = h.order;
        used = λ t q. h.used t (sym (ap (is_in t) (numbers-each number_at sent_back key-sent fs)) ∙ q);
        small = h.small;
        local = λ t. let own = own-gather number_at tells-of tells-append tells-nil (replies_of r) (replies r) (λ k x. tells-returned k x.number (replies r x)) t fs h.rising-there in
            subst (λ (o : Option (ServerChannel S)). Local r cup true (find number_of t cs) o (asks t there) (tells-of t (back ++ gather (replies_of r) fs))) (sym (find-each number_at sent_back key-sent t fs))
            (subst (λ (l : List Reply). Local r cup true (find number_of t cs) (option_map sent_back (find number_at t fs)) (asks t there) l) (sym (tells-append t back (gather (replies_of r) fs) ∙ ap (λ l. tells-of t back ++ l) own)) (flush-back-local r fair cup (find number_of t cs) (find number_at t fs) (asks t there) (tells-of t back) (h.local t)));
      }

  server-forgets : (cs : List ClientChannel) (cup : Bool) (fs : List (ServerChannel S)) (came : List ℕ) (there : List ToServer) (back : List ToClient) → Known r cs cup fs came false there back → Known r cs cup (each forgot fs) came false there back
  server-forgets cs cup fs came there back h =
      record {
        rising = h.rising;
        rising-there = subst (λ (l : List ℕ). Rising l) (sym (numbers-each number_at forgot (λ x. refl) fs)) h.rising-there;
        order = h.order;
        used = λ t q. h.used t (sym (ap (is_in t) (numbers-each number_at forgot (λ x. refl) fs)) ∙ q);
        small = h.small;
        local = λ t. subst (λ (o : Option (ServerChannel S)). Local r cup false (find number_of t cs) o (asks t there) (tells-of t back)) (sym (find-each number_at forgot (λ x. refl) t fs)) (forgot-local r cup (find number_of t cs) (find number_at t fs) (asks t there) (tells-of t back) (h.local t));
      }

module _ {S E : Type 0} (r : Rules) (fair : Fair r) where
  forgets-if : (c : Client) (s : Server S E) (there : List ToServer) (back : List ToClient) → Known r c.channels c.up s.channels s.used s.up there back → s.up ≡ false → IdleHere r c.channels c.up → (b : Bool) → InvOf r c (cond b (with_all (each forgot s.channels) s) s) there back
  forgets-if c s there back h e i true =
      let k = server-forgets r fair c.channels c.up s.channels s.used there back (subst (λ (b : Bool). Known r c.channels c.up s.channels s.used b there back) e h) in
      whole r c (with_all (each forgot s.channels) s) there back (subst (λ (b : Bool). Known r c.channels c.up (each forgot s.channels) s.used b there back) (sym e) k) i (λ u. absurd (true≢false (sym u ∙ e)))
  forgets-if c s there back h e i false = whole r c s there back h i (λ u. absurd (true≢false (sym u ∙ e)))

  pub server-flush : (c : Client) (s : Server S E) (ms : List ToClient) (there : List ToServer) (back : List ToClient) → Known r c.channels c.up s.channels s.used s.up there (back ++ ms) → IdleHere r c.channels c.up →
      InvOf r c (flush_back r (did s ms)).side there (back ++ (flush_back r (did s ms)).sends)
  server-flush c s ms there back h i = go s.up refl
    where
      go : (b : Bool) → s.up ≡ b → InvOf r c (cond b (did (with_all (each sent_back s.channels) s) (ms ++ gather (replies_of r) s.channels)) (did (forget_all s) ms)).side there (back ++ (cond b (did (with_all (each sent_back s.channels) s) (ms ++ gather (replies_of r) s.channels)) (did (forget_all s) ms)).sends)
      go true e =
          let k = server-sends r fair c.channels c.up s.channels s.used there (back ++ ms) (subst (λ (b : Bool). Known r c.channels c.up s.channels s.used b there (back ++ ms)) e h) in
          let k2 = subst (λ (l : List ToClient). Known r c.channels c.up (each sent_back s.channels) s.used true there l) (append_assoc back ms (gather (replies_of r) s.channels)) k in
          let k3 = subst (λ (b : Bool). Known r c.channels c.up (each sent_back s.channels) s.used b there (back ++ (ms ++ gather (replies_of r) s.channels))) (sym e) k2 in
          whole r c (with_all (each sent_back s.channels) s) there (back ++ (ms ++ gather (replies_of r) s.channels)) k3 i
          (λ u t y q. let z = mapped-is sent_back (find number_at t s.channels) y (sym (find-each number_at sent_back key-sent t s.channels) ∙ q) in ap (replies r) z.2 ∙ idle-sent r z.0)
      go false e = forgets-if c s there (back ++ ms) h e i (every is_over s.channels)

-- One channel changes at one side.
pub by_number : {A : Type 0} (P : A → Type 0) (k t : ℕ) (x y : A) → (t ≡ k → P x) → (eqb k t ≡ false → P y) → P (cond (eqb k t) x y)
by_number P k t x y f g = go (eqb k t) refl
  where
    go : (b : Bool) → eqb k t ≡ b → P (cond b x y)
    go true e = f (sym (eqb-true k t e))
    go false e = g e

module _ {S : Type 0} (r : Rules) where
  pub client-changes : (cs : List ClientChannel) (cup : Bool) (fs : List (ServerChannel S)) (came : List ℕ) (sup : Bool) (there there' : List ToServer) (back back' : List ToClient) (k : ℕ) (g : ClientChannel → ClientChannel) →
      ((x : ClientChannel) → x.number ≡ k → (g x).number ≡ k) → starts there' ≡ starts there →
      ((t : ℕ) → eqb k t ≡ false → (asks t there' ≡ asks t there) × (tells-of t back' ≡ tells-of t back)) →
      Local r cup sup (option_map g (find number_of k cs)) (find number_at k fs) (asks k there') (tells-of k back') →
      Known r cs cup fs came sup there back → Known r (change number_of k g cs) cup fs came sup there' back'
  client-changes cs cup fs came sup there there' back back' k g kg st others own h =
      record {
        rising = subst (λ (l : List ℕ). Rising l) (sym (numbers-change number_of k g kg cs)) h.rising;
        rising-there = h.rising-there;
        order = numbers-change number_of k g kg cs ∙ h.order ∙ ap (λ l. came ++ l) (sym st);
        used = h.used;
        small = λ t q. h.small t (sym (ap (is_in t) (numbers-change number_of k g kg cs)) ∙ q);
        local = λ t. subst (λ (o : Option ClientChannel). Local r cup sup o (find number_at t fs) (asks t there') (tells-of t back')) (sym (find-change number_of k g kg t cs))
            (by_number (λ (o : Option ClientChannel). Local r cup sup o (find number_at t fs) (asks t there') (tells-of t back')) k t (option_map g (find number_of t cs)) (find number_of t cs)
            (λ e. subst (λ (n : ℕ). Local r cup sup (option_map g (find number_of n cs)) (find number_at n fs) (asks n there') (tells-of n back')) (sym e) own)
            (λ e. subst (λ (l : List Request). Local r cup sup (find number_of t cs) (find number_at t fs) l (tells-of t back')) (sym (others t e).0) (subst (λ (l : List Reply). Local r cup sup (find number_of t cs) (find number_at t fs) (asks t there) l) (sym (others t e).1) (h.local t))));
      }

  pub server-changes : (cs : List ClientChannel) (cup : Bool) (fs : List (ServerChannel S)) (came : List ℕ) (sup : Bool) (there there' : List ToServer) (back back' : List ToClient) (k : ℕ) (g : ServerChannel S → ServerChannel S) →
      ((x : ServerChannel S) → x.number ≡ k → (g x).number ≡ k) → starts there' ≡ starts there →
      ((t : ℕ) → eqb k t ≡ false → (asks t there' ≡ asks t there) × (tells-of t back' ≡ tells-of t back)) →
      Local r cup sup (find number_of k cs) (option_map g (find number_at k fs)) (asks k there') (tells-of k back') →
      Known r cs cup fs came sup there back → Known r cs cup (change number_at k g fs) came sup there' back'
  server-changes cs cup fs came sup there there' back back' k g kg st others own h =
      record {
        rising = h.rising;
        rising-there = subst (λ (l : List ℕ). Rising l) (sym (numbers-change number_at k g kg fs)) h.rising-there;
        order = h.order ∙ ap (λ l. came ++ l) (sym st);
        used = λ t q. h.used t (sym (ap (is_in t) (numbers-change number_at k g kg fs)) ∙ q);
        small = h.small;
        local = λ t. subst (λ (o : Option (ServerChannel S)). Local r cup sup (find number_of t cs) o (asks t there') (tells-of t back')) (sym (find-change number_at k g kg t fs))
            (by_number (λ (o : Option (ServerChannel S)). Local r cup sup (find number_of t cs) o (asks t there') (tells-of t back')) k t (option_map g (find number_at t fs)) (find number_at t fs)
            (λ e. subst (λ (n : ℕ). Local r cup sup (find number_of n cs) (option_map g (find number_at n fs)) (asks n there') (tells-of n back')) (sym e) own)
            (λ e. subst (λ (l : List Request). Local r cup sup (find number_of t cs) (find number_at t fs) l (tells-of t back')) (sym (others t e).0) (subst (λ (l : List Reply). Local r cup sup (find number_of t cs) (find number_at t fs) (asks t there) l) (sym (others t e).1) (h.local t))));
      }
