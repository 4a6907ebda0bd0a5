-- What is done to what is held is what the model does, before anything goes by itself.
use Rattle.std.proofs.Common.{◌≡◌, ℕ, zero, suc, ◌<◌, ◌≤◌, Bool, true, false, cond, not, ◌&&◌, ◌||◌, ltb, leb, List, [], ◌∷◌, ◌++◌, length, get_or, set, Some, None, Ok, Err, Option, sym, refl, ap, ◌∙◌, subst, ⊎_elim, arith}
use Rattle.std.proofs.lemmas.Bool.{cond-true, cond-false, leb-true, le-ltb, lt-ltb}
use Rattle.std.proofs.lemmas.List.{set-get_or}
use Rattle.model.specs.Keyed.{change, is_in, above}
use Rattle.model.specs.Messages as msg
use Rattle.model.specs.Messages.{Programs, ToClient, Did, did, real, Request, Run, Input, OutputCredit, Eof, Close, Fault, NeverStarted}
use Rattle.model.specs.Server.{Server, ServerChannel, server, login_by, start, pass, passed, pass_to, turn_of, took_turn, turn_in, input_credit, new_program, channel_of, number_at, forgot, cut_server, may_run, whom, hear_kept, is_refused}
use Rattle.server_channel.specs.declared.Counts.{Counts}
use Rattle.server_channel.specs.declared.Life.{Life}
use Rattle.server_channel.specs.declared.Life.TheVariants.{Running, Ended}
use Rattle.server_channel.specs.declared.Channel.{Channel}
use Rattle.server_channel.specs.Kept.{kept, heard, goes, started}
use Rattle.server_channel.specs.Turns as view
use Rattle.desk.specs.View.{View, number_in}
use Rattle.desk.specs.View as seen
use Rattle.desk.specs.declared.Notice.{Notice}
use Rattle.desk.specs.declared.Notice.TheVariants as notice
use Rattle.server.specs.Stands.{Past, whole, Stand, Fits, Used, at, Meets}
use Rattle.desk.specs.Events.{login_in, login_to, start_to, is_fresh, marked, took_at, cut_down, turned_at, freed, telling}
use Rattle.server.specs.Calls.{pass_fault, fault_by}
use Rattle.server.proofs.Standing.{found, put, removed, missing, counted, widened, added, cut-down}
use Rattle.server.proofs.Numbers.{uses-more, good_more, good_new}
use Rattle.server.proofs.OneTurn.{turn-same}
use Rattle.server.proofs.Hearing.{hears-same, on_ok, became, same_number}

module _ {S E : Type 0} where
  meets-cond : (b : Bool) {d d' : Did (Server S E) ToClient} {v v' : View S} {e : E} → Meets d v e → Meets d' v' e → Meets (cond b d d') (cond b v v') e
  meets-cond true a b = a
  meets-cond false a b = b

  pub meets-by : {d d' : Did (Server S E) ToClient} {v : View S} {e : E} → d ≡ d' → Meets d' v e → Meets d v e
  meets-by q m = record { channels = m.channels; used = m.used; fits = m.fits; does = q ∙ m.does }

module _ {S : Type 0} where
  pub cut_fits : (up : Bool) {Good : ℕ → Type 0} {ks : List (Channel S)} {xs : List (ServerChannel S)} → Stand up Good 0 ks xs → Stand false Good 0 ks xs
  cut_fits true st = cut-down st
  cut_fits false st = st

module _ {S E : Type 0} (a : ℕ → ℕ → List ℕ → Bool) (m : ℕ → ℕ → Bool) (p : Programs S E) (v : View S) (e : E) (xs : List (ServerChannel S)) (used : List ℕ) (f : Fits v xs used) where
  pub login-meets : (n u : ℕ) (q : List ℕ) (right : Bool) → a n u q ≡ right → Meets (login_by (real a m) n u q v.user (at v e xs used)) (login_to right u v) e
  login-meets n u q right h = go v.user refl
    where
      go : (o : Option ℕ) → v.user ≡ o → Meets (login_by (real a m) n u q o (at v e xs used)) (login_in right u o v) e
      go (Some w) z = record { channels = xs; used = used; fits = record { stand = f.stand; uses = f.uses }; does = refl }
      go None z =
          meets-by (ap (λ b. cond b (did (server xs used (Some u) v.tries e v.up) (msg.Accepted true ∷ [])) (cond (ltb (suc v.tries) 3) (did (server xs used None (suc v.tries) e v.up) (msg.Accepted false ∷ [])) (did (server xs used None (suc v.tries) e false) []))) h)
          (meets-cond right
          (record { channels = xs; used = used; fits = record { stand = f.stand; uses = f.uses }; does = refl })
          (meets-cond (ltb (suc v.tries) 3)
          (record { channels = xs; used = used; fits = record { stand = f.stand; uses = f.uses }; does = refl })
          (record { channels = xs; used = used; fits = record { stand = cut_fits v.up f.stand; uses = f.uses }; does = refl })))

  pub cut-meets : Meets (did (cut_server (at v e xs used)) []) (cut_down v) e
  cut-meets = record { channels = xs; used = used; fits = record { stand = cut_fits v.up f.stand; uses = f.uses }; does = refl }

  pub still-meets : Meets (did (at v e xs used) []) (telling None v) e
  still-meets = record { channels = xs; used = used; fits = record { stand = f.stand; uses = f.uses }; does = refl }

-- at a server that is up
module _ {S E : Type 0} (a : ℕ → ℕ → List ℕ → Bool) (m : ℕ → ℕ → Bool) (p : Programs S E) (ks : List (Channel S)) (nx : ℕ) (h : ℕ → Bool) (us : Option ℕ) (tr : ℕ) (tl : Option Notice) (e : E) (xs : List (ServerChannel S)) (used : List ℕ) where
  abbrev v₀ : View S
  v₀ = seen.view ks nx h us tr true tl

  abbrev s₀ : Server S E
  s₀ = at v₀ e xs used

  pub took-meets : (d : Channel S) (i : ℕ) (q : Request) (l : Channel S) → Fits v₀ xs used → i < length ks → heard q (get_or ks i d) ≡ Ok l → Meets (pass (real a m) (number_in (get_or ks i d)) q s₀) (took_at q i l v₀) e
  took-meets d i q l f b o =
      let k = get_or ks i d in
      let r = found d i b f.stand in
      let x = whole true k r.0 in
      let z : hear_kept (real a m) q x ≡ Ok (became q k r.0 l) = hears-same a m q k r.0 ∙ ap (on_ok (became q k r.0)) o in
      meets-by ((λ j. cond (is_refused (number_in k) (r.1 j) s₀) (did s₀ []) (did (passed (number_in k) (pass_to (real a m) (number_in k) q (r.1 j) s₀) s₀) [])) ∙ ap (λ w. did (passed (number_in k) w s₀) []) z) (go q o)
    where
      go : (q' : Request) → heard q' (get_or ks i d) ≡ Ok l → Meets (did (passed (number_in (get_or ks i d)) (Ok (became q' (get_or ks i d) (found d i b f.stand).0 l)) s₀) []) (took_at q' i l v₀) e
      go (Run n) o' = record { channels = change number_at (number_in (get_or ks i d)) (λ _. whole true l (found d i b f.stand).0) xs; used = used; fits = record { stand = put d i l (found d i b f.stand).0 b (same_number (Run n) (get_or ks i d) l o') f.stand; uses = f.uses }; does = refl }
      go (Input bs) o' = record { channels = change number_at (number_in (get_or ks i d)) (λ _. whole true l (found d i b f.stand).0) xs; used = used; fits = record { stand = put d i l (found d i b f.stand).0 b (same_number (Input bs) (get_or ks i d) l o') f.stand; uses = f.uses }; does = refl }
      go (OutputCredit n) o' = record { channels = change number_at (number_in (get_or ks i d)) (λ _. whole true l (found d i b f.stand).0) xs; used = used; fits = record { stand = put d i l (found d i b f.stand).0 b (same_number (OutputCredit n) (get_or ks i d) l o') f.stand; uses = f.uses }; does = refl }
      go Eof o' = record { channels = change number_at (number_in (get_or ks i d)) (λ _. whole true l (found d i b f.stand).0) xs; used = used; fits = record { stand = put d i l (found d i b f.stand).0 b (same_number Eof (get_or ks i d) l o') f.stand; uses = f.uses }; does = refl }
      go Close o' = record { channels = change number_at (number_in (get_or ks i d)) (λ _. forgot (whole true (get_or ks i d) (found d i b f.stand).0)) xs; used = used; fits = record { stand = removed d i (forgot (whole true (get_or ks i d) (found d i b f.stand).0)) b refl refl f.stand; uses = f.uses }; does = refl }

  -- which fault the model finds
  pub fault-found : (d : Channel S) (i : ℕ) (q : Request) (g : Fault) → Fits v₀ xs used → i < length ks → heard q (get_or ks i d) ≡ Err g → pass_to (real a m) (number_in (get_or ks i d)) q (channel_of (number_in (get_or ks i d)) s₀) s₀ ≡ Err g
  fault-found d i q g f b o =
      let k = get_or ks i d in
      let r = found d i b f.stand in
      (λ j. pass_to (real a m) (number_in k) q (r.1 j) s₀) ∙ (hears-same a m q k r.0 ∙ ap (on_ok (became q k r.0)) o)

  pub fault-meets : (d : Channel S) (i : ℕ) (q : Request) (g : Fault) → Fits v₀ xs used → i < length ks → heard q (get_or ks i d) ≡ Err g → Meets (pass (real a m) (number_in (get_or ks i d)) q s₀) (cut_down v₀) e
  fault-meets d i q g f b o =
      let k = get_or ks i d in
      let r = found d i b f.stand in
      let z : hear_kept (real a m) q (whole true k r.0) ≡ Err g = hears-same a m q k r.0 ∙ ap (on_ok (became q k r.0)) o in
      meets-by ((λ j. cond (is_refused (number_in k) (r.1 j) s₀) (did s₀ []) (did (passed (number_in k) (pass_to (real a m) (number_in k) q (r.1 j) s₀) s₀) [])) ∙ ap (λ w. did (passed (number_in k) w s₀) []) z) (cut-meets a m p v₀ e xs used f)

  pub dropped-meets : (t : ℕ) (q : Request) → Fits v₀ xs used → t < 65536 → ((j : ℕ) (d : Channel S) → j < length ks → number_in (get_or ks j d) ≡ t → ⊥) → h t ≡ true → Meets (pass (real a m) t q s₀) (telling None v₀) e
  dropped-meets t q f l n y = ⊎_elim
      (λ r. meets-by ((λ j. cond (is_refused t (r j) s₀) (did s₀ []) (did (passed t (pass_to (real a m) t q (r j) s₀) s₀) [])) ∙ cond-true (is_in t used) (did s₀ []) (did (cut_server s₀) []) (sym (f.uses.known t l) ∙ y)) (still-meets a m p v₀ e xs used f))
      (λ r. meets-by ((λ j. cond (is_refused t (r.1 j) s₀) (did s₀ []) (did (passed t (pass_to (real a m) t q (r.1 j) s₀) s₀) [])) ∙ ((λ j. did (passed t (cond (r.2 j) (Ok r.0) (hear_kept (real a m) q r.0)) s₀) []) ∙ (λ j. did (server (r.4 j) used us tr e true) []))) (still-meets a m p v₀ e xs used f))
      (missing t n f.stand)

  pub dropped-none : (t : ℕ) (q : Request) → Fits v₀ xs used → t < 65536 → ((j : ℕ) (d : Channel S) → j < length ks → number_in (get_or ks j d) ≡ t → ⊥) → h t ≡ true → pass_fault (real a m) t q s₀ ≡ None
  dropped-none t q f l n y = ⊎_elim
      (λ r. (λ j. cond (is_refused t (r j) s₀) None (fault_by (pass_to (real a m) t q (r j) s₀))) ∙ cond-true (is_in t used) None (Some NeverStarted) (sym (f.uses.known t l) ∙ y))
      (λ r. (λ j. cond (is_refused t (r.1 j) s₀) None (fault_by (pass_to (real a m) t q (r.1 j) s₀))) ∙ (λ j. fault_by (cond (r.2 j) (Ok r.0) (hear_kept (real a m) q r.0))))
      (missing t n f.stand)

  -- a channel that never was
  pub unknown : (t : ℕ) → Fits v₀ xs used → t < 65536 → ((j : ℕ) (d : Channel S) → j < length ks → number_in (get_or ks j d) ≡ t → ⊥) → h t ≡ false → (channel_of t s₀ ≡ None) × (is_in t used ≡ false)
  unknown t f l n y = ⊎_elim (λ r. (r, sym (f.uses.known t l) ∙ y)) (λ r. absurd (let z : true ≡ false = sym r.3.1 ∙ (sym (f.uses.known t l) ∙ y) in cc)) (missing t n f.stand)

  pub unknown-meets : (t : ℕ) (q : Request) → Fits v₀ xs used → t < 65536 → ((j : ℕ) (d : Channel S) → j < length ks → number_in (get_or ks j d) ≡ t → ⊥) → h t ≡ false → Meets (pass (real a m) t q s₀) (cut_down v₀) e
  unknown-meets t q f l n y = let u = unknown t f l n y in
      meets-by ((λ j. cond (is_refused t (u.0 j) s₀) (did s₀ []) (did (passed t (pass_to (real a m) t q (u.0 j) s₀) s₀) [])) ∙ cond-false (is_in t used) (did s₀ []) (did (cut_server s₀) []) u.1) (cut-meets a m p v₀ e xs used f)

or_off : (b : Bool) → (not b || false) ≡ not b
or_off true = refl
or_off false = refl

module _ {S E : Type 0} (a : ℕ → ℕ → List ℕ → Bool) (m : ℕ → ℕ → Bool) (p : Programs S E) (v : View S) (e : E) (xs : List (ServerChannel S)) (used : List ℕ) (f : Fits v xs used) where
  new-past : ℕ → Past S
  new-past c = record { command = c; user = whom v.user; state = p.first e c; went = []; gone = []; sent = 0; may = 8192; said = false }

  new-whole : (up : Bool) (t c : ℕ) → whole up (started t (p.first e c)) (new-past c) ≡ new_program (real a m) p t c (whom v.user) e
  unfolding new-past
  new-whole true t c = refl
  new-whole false t c = refl

  abbrev start_by : (t c : ℕ) (bad may : Bool) (n : ℕ) → Did (Server S E) ToClient
  start_by t c bad may n = cond (not bad && (may && ltb n 16))
      (did (server (xs ++ new_program (real a m) p t c (whom v.user) e ∷ []) (cond bad used (used ++ t ∷ [])) v.user v.tries e v.up) (msg.Of t (msg.Runs true) ∷ (msg.Of t (msg.InputCredit 8192) ∷ [])))
      (did (server xs (cond bad used (used ++ t ∷ [])) v.user v.tries e v.up) (msg.Of t (msg.Runs false) ∷ []))

  abbrev start_as : (t c : ℕ) (fresh may : Bool) → View S
  start_as t c fresh may = cond (fresh && (may && ltb (length v.channels) 16))
      (seen.view (v.channels ++ started t (p.first e c) ∷ []) (suc t) (marked t v.is_used) v.user v.tries v.up (Some (notice.Started t)))
      (cond fresh
      (seen.view v.channels (suc t) (marked t v.is_used) v.user v.tries v.up (Some (notice.Refused t)))
      (telling (Some (notice.Refused t)) v))

  started-meets : (t c : ℕ) (may fresh : Bool) → is_fresh t v ≡ fresh → Meets (start_by t c (not fresh) may (length v.channels)) (start_as t c fresh may) e
  started-meets t c may true q =
      let l : v.next ≤ t = leb-true v.next t q in
      meets-cond (may && ltb (length v.channels) 16)
      (record {
        channels = xs ++ whole v.up (started t (p.first e c)) (new-past c) ∷ [];
        used = used ++ t ∷ [];
        fits = record { stand = added (started t (p.first e c)) (new-past c) (good_more v.next t used l) (λ n g. let z = g.0 in omega arith) (omega arith) (good_new t used) f.stand; uses = uses-more v.next t v.is_used used l f.uses };
        does = λ i. did (server (xs ++ sym (new-whole v.up t c) i ∷ []) (used ++ t ∷ []) v.user v.tries e v.up) (msg.Of t (msg.Runs true) ∷ (msg.Of t (msg.InputCredit 8192) ∷ []));
      })
      (record { channels = xs; used = used ++ t ∷ []; fits = record { stand = widened (good_more v.next t used l) f.stand; uses = uses-more v.next t v.is_used used l f.uses }; does = refl })
  started-meets t c may false q = record { channels = xs; used = used; fits = record { stand = f.stand; uses = f.uses }; does = refl }

  pub start-meets : (t c : ℕ) (may : Bool) → t < 65536 → may_run (real a m) c v.user ≡ may → Meets (start (real a m) p t c (at v e xs used)) (start_to may (p.first e c) t v) e
  start-meets t c may l y =
      let bad : (not (above t used) || ltb 65535 t) ≡ not (is_fresh t v) = (λ i. not (f.uses.free t i) || le-ltb 65535 t (omega arith) i) ∙ or_off (is_fresh t v) in
      meets-by (λ i. start_by t c (bad i) (y i) (counted f.stand i)) (started-meets t c may (is_fresh t v) refl)

credit-told : (up : Bool) (t n : ℕ) → (up ≡ false → n ≡ 0) → input_credit up t n ≡ seen.tells (freed t n)
credit-told up t zero h = refl
credit-told true t (suc n) h = ap seen.tells (sym (cond-true (ltb 0 (suc n)) (Some (notice.Freed t (suc n))) None (lt-ltb 0 (suc n) (omega arith))))
credit-told false t (suc n) h = let z = h refl in absurd (omega arith)

freed-down : {S E : Type 0} (p : Programs S E) (e : E) (k : Channel S) (l : Life S) → (view.turn_in p false e k l).freed ≡ 0
freed-down p e k (Running s) = go (leb (view.acts_in p false e k k.life).kept.counts.left 1)
  where
    go : (b : Bool) → (cond b (view.ends p (view.acts_in p false e k k.life).env (view.counted p (view.acts_in p false e k k.life).kept) 255) (view.turned (view.acts_in p false e k k.life).env (view.counted p (view.acts_in p false e k k.life).kept) 0)).freed ≡ 0
    go true = refl
    go false = refl
freed-down p e k (Ended n) = refl

module _ {S E : Type 0} (a : ℕ → ℕ → List ℕ → Bool) (m : ℕ → ℕ → Bool) (p : Programs S E) (v : View S) (e : E) (xs : List (ServerChannel S)) (used : List ℕ) (f : Fits v xs used) where
  abbrev turning : ℕ → Option (ServerChannel S) → Did (Server S E) ToClient
  turning t o = turn_of (real a m) p t o (at v e xs used)

  turned-meets : (d : Channel S) (i : ℕ) → i < length v.channels → (q : Past S) (c : Counts) (l : Life S) (w u : List ℕ) → get_or v.channels i d ≡ kept c l w u → (v.up ≡ true → length (goes (kept c l w u)) ≡ 0) →
      Meets (turning c.number (Some (whole v.up (kept c l w u) q))) (turned_at c.number i (view.turn_by p v.up e (kept c l w u)).kept (view.turn_by p v.up e (kept c l w u)).freed v) (view.turn_by p v.up e (kept c l w u)).env
  turned-meets d i b q c (Running s) w u eq g =
      let k = kept c (Running s) w u in
      let z = view.turn_by p v.up e k in
      let t = turn-same p a m v.up e c s w u q g in
      let n : number_in (get_or v.channels i d) ≡ c.number = ap number_in eq in
      record {
        channels = change number_at c.number (λ _. whole v.up z.kept t.past) xs;
        used = used;
        fits = record { stand = subst (λ y. Stand v.up (Used v.next used) 0 (set v.channels i z.kept) (change number_at y (λ _. whole v.up z.kept t.past) xs)) n (put d i z.kept t.past b (t.number ∙ sym n) f.stand); uses = f.uses };
        does = ap (λ y. took_turn c.number y (at v e xs used)) t.turned ∙ ap (λ ms. did (server (change number_at c.number (λ _. whole v.up z.kept t.past) xs) used v.user v.tries z.env v.up) ms) (credit-told v.up c.number z.freed (λ h. ap (λ y. (view.turn_by p y e k).freed) h ∙ freed-down p e k (Running s)));
      }
  turned-meets d i b q c (Ended n) w u eq g = record {
    channels = xs;
    used = used;
    fits = record { stand = subst (λ ys. Stand v.up (Used v.next used) 0 ys xs) (sym (ap (set v.channels i) (sym eq) ∙ set-get_or v.channels i d)) f.stand; uses = f.uses };
    does = refl;
  }

  pub turn-meets : (d : Channel S) (i : ℕ) → i < length v.channels → (v.up ≡ true → length (goes (get_or v.channels i d)) ≡ 0) →
      Meets (turning (number_in (get_or v.channels i d)) (channel_of (number_in (get_or v.channels i d)) (at v e xs used)))
      (turned_at (number_in (get_or v.channels i d)) i (view.turn_by p v.up e (get_or v.channels i d)).kept (view.turn_by p v.up e (get_or v.channels i d)).freed v)
      (view.turn_by p v.up e (get_or v.channels i d)).env
  turn-meets d i b g =
      let k = get_or v.channels i d in
      let r = found d i b f.stand in
      meets-by (ap (turning (number_in k)) r.1) (turned-meets d i b r.0 k.counts k.life k.input k.output refl g)

  -- one that is not held has no turn
  pub no-turn-meets : (t : ℕ) → ((j : ℕ) (d : Channel S) → j < length v.channels → number_in (get_or v.channels j d) ≡ t → ⊥) → Meets (turning t (channel_of t (at v e xs used))) (telling None v) e
  no-turn-meets t n = ⊎_elim
      (λ r. meets-by (ap (turning t) r) (still-meets a m p v e xs used f))
      (λ r. meets-by (ap (turning t) r.1 ∙ (λ i. cond (not (r.2 i || msg.is_some r.0.exit)) (took_turn t (turn_in (real a m) p v.up e r.0) (at v e xs used)) (did (at v e xs used) []))) (still-meets a m p v e xs used f))
      (missing t n f.stand)
