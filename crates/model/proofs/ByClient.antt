-- What holds stays so at what the client does. Assumes nothing.
use Rattle.std.proofs.Common.{◌≡◌, ℕ, zero, suc, ◌-◌, ◌≤◌, min, Bool, true, false, cond, not, ◌||◌, eqb, ltb, List, [], ◌∷◌, ◌++◌, length, Some, None, Option, Result, sym, refl, ap, ◌∙◌, subst, append_assoc, append-nil, arith}
use Rattle.std.proofs.lemmas.Bool.{eqb-true, true≢false, not-false, or_parts, ltb-false, or_cases}
use Rattle.std.proofs.lemmas.Bool.Decides.{nat_tests}
use Rattle.std.specs.Option.{option_map}
use Rattle.model.specs.Keyed.{change, numbers, is_in, above, Rising}
use Rattle.model.specs.Messages.{Rules, Fair, Request, Run, Input, OutputCredit, Eof, Close, Reply, ToServer, Login, Tick, For, ToClient, Accepted, Tock, Of, Did, did}
use Rattle.model.specs.Client.{Client, ClientChannel, client, number_of, channel_at, Command, LogIn, Start, Enter, Finish, Take, Refusal, BadNumber, TooManyHeld, NotHeld, AfterEof, TooMuch, Down, unless, bad_number, held_count, found_held, found_eof, found_full, refusal, entered, finished, took_more, takeable, output_credit, with_channels, new_channel, command, obey_unless, obey, hear, heard, take_in, cut_client, flush}
use Rattle.model.specs.Server.{Server, channel_of}
use Rattle.model.proofs.Finds.{eqb_same, find-append, find_none, numbers-append, above-not-in, rising-append, in-append, find-key}
use Rattle.model.proofs.Ways.{asks, tells-of, asks_append}
use Rattle.model.proofs.Local.{Local}
use Rattle.model.proofs.Inv.{starts, InvOf}
use Rattle.model.proofs.AtClient.{enter-local, finish-local, start-local, take-local, credit_of}
use Rattle.model.proofs.HearsClient.{hear-local, hear-known}
use Rattle.model.proofs.InTurn.{cut-here}
use Rattle.model.proofs.Known.{Known, starts-append, parts-of, client-flush, client-changes}

pub unless-none : (b : Bool) (f : Refusal) (rest : Option Refusal) → unless b f rest ≡ None → (b ≡ false) × (rest ≡ None)
unless-none true f rest e = absurd (let z : ◌≡◌ {A = ℕ} 0 1 = cc in omega arith)
unless-none false f rest e = (refl, e)

asks-for : (t k : ℕ) (m : Request) → asks t (For k m ∷ []) ≡ cond (eqb k t) (m ∷ []) []
unfolding asks
asks-for t k m = refl

-- what is sent at a taking
taking : (up : Bool) (t n : ℕ) → starts (cond up (output_credit t n) []) ≡ []
unfolding starts
taking true t zero = refl
taking true t (suc n) = refl
taking false t n = refl

taking-own : (up : Bool) (t n : ℕ) → asks t (cond up (output_credit t n) []) ≡ credit_of up n
unfolding asks
taking-own true t zero = refl
taking-own true t (suc n) = ap (λ b. cond b (OutputCredit (suc n) ∷ []) []) (eqb_same t)
taking-own false t zero = refl
taking-own false t (suc n) = refl

taking-other : (up : Bool) (t n k : ℕ) → eqb t k ≡ false → asks k (cond up (output_credit t n) []) ≡ []
unfolding asks
taking-other true t zero k e = refl
taking-other true t (suc n) k e = ap (λ b. cond b (OutputCredit (suc n) ∷ []) []) e
taking-other false t n k e = refl

module _ {S E : Type 0} (r : Rules) (fair : Fair r) (c : Client) (s : Server S E) (there : List ToServer) (back : List ToClient) (h : InvOf r c s there back) where
  known : Known r c.channels c.up s.channels s.used s.up there back
  known = parts-of r c s there back h

  -- a login goes on its way
  logged : (u : ℕ) (q : List ℕ) → Known r c.channels c.up s.channels s.used s.up (there ++ (Login u q ∷ [])) back
  unfolding asks starts
  logged u q =
      record {
        rising = h.rising;
        rising-there = h.rising-there;
        order = h.order ∙ ap (λ l. s.used ++ l) (sym (starts-append there (Login u q ∷ []) ∙ append-nil (starts there)));
        used = h.used;
        small = h.small;
        local = λ t. subst (λ (l : List Request). Local r c.up s.up (channel_at t c) (channel_of t s) l (tells-of t back)) (sym (asks_append t there (Login u q ∷ []) ∙ append-nil (asks t there))) (h.local t);
      }

  -- a start
  started : (t k : ℕ) → bad_number r t c ≡ false → Known r (c.channels ++ new_channel t k ∷ []) c.up s.channels s.used s.up (there ++ (For t (Run k) ∷ [])) back
  unfolding starts numbers is_in
  started t k bad =
      let parts = or_parts (not (above t (numbers number_of c.channels))) (ltb r.last t) bad in
      let ab : above t (numbers number_of c.channels) ≡ true = not-false (above t (numbers number_of c.channels)) parts.0 in
      let nin = above-not-in t (numbers number_of c.channels) ab in
      let nums = numbers-append number_of c.channels (new_channel t k ∷ []) in
      record {
        rising = subst (λ (l : List ℕ). Rising l) (sym nums) (rising-append (numbers number_of c.channels) t h.rising ab);
        rising-there = h.rising-there;
        order = nums ∙ ap (λ l. l ++ (t ∷ [])) h.order ∙ append_assoc s.used (starts there) (t ∷ []) ∙ ap (λ l. s.used ++ l) (sym (starts-append there (For t (Run k) ∷ [])));
        used = h.used;
        small = λ n q. small-new t k (ltb-false r.last t parts.1) n (or_cases (is_in n (numbers number_of c.channels)) (is_in n (t ∷ [])) (sym (in-append n (numbers number_of c.channels) (t ∷ [])) ∙ sym (ap (is_in n) nums) ∙ q));
        local = λ n. subst (λ (o : Option ClientChannel). Local r c.up s.up o (channel_of n s) (asks n (there ++ (For t (Run k) ∷ []))) (tells-of n back)) (sym (find-append number_of n c.channels (new_channel t k) nin))
            (subst (λ (l : List Request). Local r c.up s.up (cond (eqb t n) (Some (new_channel t k)) (channel_at n c)) (channel_of n s) l (tells-of n back)) (sym (asks_append n there (For t (Run k) ∷ []) ∙ ap (λ l. asks n there ++ l) (asks-for n t (Run k)))) (start-at t k nin n (eqb t n) refl));
      }
    where
      small-new : (t k : ℕ) → t ≤ r.last → (n : ℕ) → mathlib.Core.Logic.◌⊎◌ (is_in n (numbers number_of c.channels) ≡ true) (is_in n (t ∷ []) ≡ true) → n ≤ r.last
      small-new t k l n (mathlib.Core.Logic.inl a) = h.small n a
      small-new t k l n (mathlib.Core.Logic.inr a) = let e : t ≡ n = grind (arith, nat_tests) in omega arith

      start-at : (t k : ℕ) → is_in t (numbers number_of c.channels) ≡ false → (n : ℕ) (b : Bool) → eqb t n ≡ b → Local r c.up s.up (cond b (Some (new_channel t k)) (channel_at n c)) (channel_of n s) (asks n there ++ cond b (Run k ∷ []) []) (tells-of n back)
      start-at t k nin n true e =
          let q = eqb-true t n e in
          let none = find_none number_of t c.channels nin in
          subst (λ (m : ℕ). Local r c.up s.up (Some (new_channel t k)) (channel_of m s) (asks m there ++ (Run k ∷ [])) (tells-of m back)) q
          (start-local r c.up s.up t k (channel_of t s) (asks t there) (tells-of t back) (subst (λ (o : Option ClientChannel). Local r c.up s.up o (channel_of t s) (asks t there) (tells-of t back)) none (h.local t)))
      start-at t k nin n false e = subst (λ (l : List Request). Local r c.up s.up (channel_at n c) (channel_of n s) l (tells-of n back)) (sym (append-nil (asks n there))) (h.local n)

  -- a channel's own change, with nothing sent at once
  changed : (k : ℕ) (g : ClientChannel → ClientChannel) → ((x : ClientChannel) → x.number ≡ k → (g x).number ≡ k) → Local r c.up s.up (option_map g (channel_at k c)) (channel_of k s) (asks k there) (tells-of k back) → Known r (change number_of k g c.channels) c.up s.channels s.used s.up (there ++ []) back
  changed k g kg own =
      subst (λ (l : List ToServer). Known r (change number_of k g c.channels) c.up s.channels s.used s.up l back) (sym (append-nil there))
      (client-changes r c.channels c.up s.channels s.used s.up there there back back k g kg refl (λ t e. (refl, refl)) own known)

  entered-ok : (t : ℕ) (bs : List ℕ) (o : Option ClientChannel) → found_held o ≡ true → found_eof o ≡ false → Local r c.up s.up o (channel_of t s) (asks t there) (tells-of t back) → Local r c.up s.up (option_map (entered bs) o) (channel_of t s) (asks t there) (tells-of t back)
  entered-ok t bs None a b l = absurd (true≢false (sym a))
  entered-ok t bs (Some x) a b l = enter-local r c.up s.up bs x (channel_of t s) (asks t there) (tells-of t back) b l

  finished-ok : (t : ℕ) (o : Option ClientChannel) → found_held o ≡ true → found_eof o ≡ false → Local r c.up s.up o (channel_of t s) (asks t there) (tells-of t back) → Local r c.up s.up (option_map finished o) (channel_of t s) (asks t there) (tells-of t back)
  finished-ok t None a b l = absurd (true≢false (sym a))
  finished-ok t (Some x) a b l = finish-local r c.up s.up x (channel_of t s) (asks t there) (tells-of t back) b l

  took-ok : (t k : ℕ) (o : Option ClientChannel) → found_held o ≡ true → Local r c.up s.up o (channel_of t s) (asks t there) (tells-of t back) → Local r c.up s.up (option_map (took_more (takeable k o)) o) (channel_of t s) (asks t there ++ credit_of c.up (takeable k o)) (tells-of t back)
  took-ok t k None a l = absurd (true≢false (sym a))
  took-ok t k (Some x) a l = take-local r c.up s.up (min k (length x.got - x.taken)) x (channel_of t s) (asks t there) (tells-of t back) a (omega arith) l

  took : (t k : ℕ) → found_held (channel_at t c) ≡ true → Known r (change number_of t (took_more (takeable k (channel_at t c))) c.channels) c.up s.channels s.used s.up (there ++ cond c.up (output_credit t (takeable k (channel_at t c))) []) back
  took t k held =
      let n = takeable k (channel_at t c) in
      let ms = cond c.up (output_credit t n) [] in
      client-changes r c.channels c.up s.channels s.used s.up there (there ++ ms) back back t (took_more n) (λ x e. e)
      (starts-append there ms ∙ ap (λ l. starts there ++ l) (taking c.up t n) ∙ append-nil (starts there))
      (λ m e. (asks_append m there ms ∙ ap (λ l. asks m there ++ l) (taking-other c.up t n m e) ∙ append-nil (asks m there), refl))
      (subst (λ (l : List Request). Local r c.up s.up (option_map (took_more n) (channel_at t c)) (channel_of t s) l (tells-of t back)) (sym (asks_append t there ms ∙ ap (λ l. asks t there ++ l) (taking-own c.up t n))) (took-ok t k (channel_at t c) held (h.local t))) known

  abbrev Goes : Did Client ToServer → Type 0
  Goes d = InvOf r d.side s (there ++ d.sends) back

  flushes : (d : Client) (ms : List ToServer) → Known r d.channels d.up s.channels s.used s.up (there ++ ms) back → Goes (flush r (did d ms))
  flushes d ms k = client-flush r fair d ms s there back k h.idle-there

  held_of : (o : Bool) → not o ≡ false → o ≡ true
  held_of o e = not-false o e

  commanded : (k : Command) → refusal r k c ≡ None → Goes (flush r (command k c))
  commanded (LogIn u q) e = flushes c (Login u q ∷ []) (logged u q)
  commanded (Start t k) e = flushes (with_channels (c.channels ++ new_channel t k ∷ []) c) (For t (Run k) ∷ []) (started t k (unless-none (bad_number r t c) BadNumber (unless (not (ltb (held_count c) r.most)) TooManyHeld (unless (not c.up) Down None)) e).0)
  commanded (Enter t bs) e =
      let a = unless-none (not (found_held (channel_at t c))) NotHeld (unless (not c.up) Down (unless (found_eof (channel_at t c)) AfterEof (unless (found_full r (length bs) (channel_at t c)) TooMuch None))) e in
      let b = unless-none (not c.up) Down (unless (found_eof (channel_at t c)) AfterEof (unless (found_full r (length bs) (channel_at t c)) TooMuch None)) a.1 in
      let d = unless-none (found_eof (channel_at t c)) AfterEof (unless (found_full r (length bs) (channel_at t c)) TooMuch None) b.1 in
      flushes (with_channels (change number_of t (entered bs) c.channels) c) [] (changed t (entered bs) (λ x q. q) (entered-ok t bs (channel_at t c) (held_of (found_held (channel_at t c)) a.0) d.0 (h.local t)))
  commanded (Finish t) e =
      let a = unless-none (not (found_held (channel_at t c))) NotHeld (unless (not c.up) Down (unless (found_eof (channel_at t c)) AfterEof None)) e in
      let b = unless-none (not c.up) Down (unless (found_eof (channel_at t c)) AfterEof None) a.1 in
      let d = unless-none (found_eof (channel_at t c)) AfterEof None b.1 in
      flushes (with_channels (change number_of t finished c.channels) c) [] (changed t finished (λ x q. q) (finished-ok t (channel_at t c) (held_of (found_held (channel_at t c)) a.0) d.0 (h.local t)))
  commanded (Take t k) e =
      flushes (with_channels (change number_of t (took_more (takeable k (channel_at t c))) c.channels) c) (cond c.up (output_credit t (takeable k (channel_at t c))) [])
      (took t k (held_of (found_held (channel_at t c)) (unless-none (not (found_held (channel_at t c))) NotHeld None e).0))

  pub obeyed : (k : Command) → Goes (obey r k c)
  obeyed k = go (refusal r k c) refl
    where
      go : (o : Option Refusal) → refusal r k c ≡ o → Goes (obey_unless r k c o)
      go None e = commanded k e
      go (Some f) e = subst (λ (l : List ToServer). InvOf r c s l back) (sym (append-nil there)) h

-- What the client takes in.
module _ {S E : Type 0} (r : Rules) (fair : Fair r) (c : Client) (s : Server S E) (there : List ToServer) (ms : List ToClient) (up : c.up ≡ true) where
  same-ways : (m : ToClient) → ((t : ℕ) → tells-of t (m ∷ ms) ≡ tells-of t ms) → InvOf r c s there (m ∷ ms) → Known r c.channels c.up s.channels s.used s.up (there ++ []) ms
  same-ways m e h =
      subst (λ (l : List ToServer). Known r c.channels c.up s.channels s.used s.up l ms) (sym (append-nil there))
      (record {
        rising = h.rising;
        rising-there = h.rising-there;
        order = h.order;
        used = h.used;
        small = h.small;
        local = λ t. subst (λ (l : List Reply). Local r c.up s.up (channel_at t c) (channel_of t s) (asks t there) l) (e t) (h.local t);
      })

  -- a reply of channel t is its first on the way
  own_first : (t : ℕ) (m : Reply) → tells-of t (Of t m ∷ ms) ≡ m ∷ tells-of t ms
  unfolding tells-of
  own_first t m = ap (λ b. cond b (m ∷ tells-of t ms) (tells-of t ms)) (eqb_same t)

  other-first : (t k : ℕ) (m : Reply) → eqb t k ≡ false → tells-of k ms ≡ tells-of k (Of t m ∷ ms)
  unfolding tells-of
  other-first t k m e = sym (ap (λ b. cond b (m ∷ tells-of k ms) (tells-of k ms)) e)

  hears-one : (t : ℕ) (m : Reply) (x : ClientChannel) → channel_at t c ≡ Some x → InvOf r c s there (Of t m ∷ ms) → InvOf r (flush r (did (heard t (hear r m (Some x)) c) [])).side s (there ++ (flush r (did (heard t (hear r m (Some x)) c) [])).sends) ms
  hears-one t m x fx h =
      let l0 = subst (λ (b : Bool). Local r b s.up (channel_at t c) (channel_of t s) (asks t there) (tells-of t (Of t m ∷ ms))) up (h.local t) in
      let l1 = subst (λ (o : Option ClientChannel). Local r true s.up o (channel_of t s) (asks t there) (tells-of t (Of t m ∷ ms))) fx l0 in
      let l2 = subst (λ (l : List Reply). Local r true s.up (Some x) (channel_of t s) (asks t there) l) (own_first t m) l1 in
      let y = hear-local r fair s.up m x (channel_of t s) (asks t there) (tells-of t ms) l2 in
      let n : y.0.number ≡ t = y.2 ∙ find-key number_of t c.channels x fx in
      let own = subst (λ (b : Bool). Local r b s.up (Some y.0) (channel_of t s) (asks t there) (tells-of t ms)) (sym up) y.3 in
      let k = client-changes r c.channels c.up s.channels s.used s.up there there (Of t m ∷ ms) ms t (λ _. y.0) (λ z e. n) refl (λ k e. (refl, other-first t k m e))
      (subst (λ (o : Option ClientChannel). Local r c.up s.up (option_map (λ _. y.0) o) (channel_of t s) (asks t there) (tells-of t ms)) (sym fx) own) (parts-of r c s there (Of t m ∷ ms) h) in
      let k2 = subst (λ (l : List ToServer). Known r (change number_of t (λ _. y.0) c.channels) c.up s.channels s.used s.up l ms) (sym (append-nil there)) k in
      subst (λ (z : Result ClientChannel Rattle.model.specs.Messages.Fault). InvOf r (flush r (did (heard t z c) [])).side s (there ++ (flush r (did (heard t z c) [])).sends) ms) (sym y.1)
      (client-flush r fair (with_channels (change number_of t (λ _. y.0) c.channels) c) [] s there ms k2 h.idle-there)

  hears-of : (t : ℕ) (m : Reply) → InvOf r c s there (Of t m ∷ ms) → InvOf r (take_in r (Of t m) c).side s (there ++ (take_in r (Of t m) c).sends) ms
  hears-of t m h = go (channel_at t c) refl
    where
      go : (o : Option ClientChannel) → channel_at t c ≡ o → InvOf r (flush r (did (heard t (hear r m o) c) [])).side s (there ++ (flush r (did (heard t (hear r m o) c) [])).sends) ms
      go None e = absurd (hear-known r fair s.up m (channel_of t s) (asks t there) (tells-of t ms)
          (subst (λ (l : List Reply). Local r true s.up None (channel_of t s) (asks t there) l) (own_first t m) (subst (λ (o : Option ClientChannel). Local r true s.up o (channel_of t s) (asks t there) (tells-of t (Of t m ∷ ms))) e (subst (λ (b : Bool). Local r b s.up (channel_at t c) (channel_of t s) (asks t there) (tells-of t (Of t m ∷ ms))) up (h.local t)))))
      go (Some x) e = hears-one t m x e h

  pub taken_in : (m : ToClient) → InvOf r c s there (m ∷ ms) → InvOf r (take_in r m c).side s (there ++ (take_in r m c).sends) ms
  unfolding tells-of
  taken_in (Accepted b) h = client-flush r fair (client c.channels (c.accepted || b) c.up) [] s there ms (same-ways (Accepted b) (λ t. refl) h) h.idle-there
  taken_in Tock h = client-flush r fair c [] s there ms (same-ways Tock (λ t. refl) h) h.idle-there
  taken_in (Of t m) h = hears-of t m h

-- The client learns of a cut.
module _ {S E : Type 0} (r : Rules) (c : Client) (s : Server S E) (there : List ToServer) (back : List ToClient) where
  pub cut-client : InvOf r c s there back → InvOf r (cut_client c) s there back
  cut-client h =
      record {
        rising = h.rising;
        rising-there = h.rising-there;
        order = h.order;
        used = h.used;
        small = h.small;
        local = λ t. cut-here r c.up s.up (channel_at t c) (channel_of t s) (asks t there) (tells-of t back) (h.local t);
        idle = λ u. absurd (true≢false (sym u));
        idle-there = h.idle-there;
      }
