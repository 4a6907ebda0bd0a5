-- What each call does, from what is done to the view.
use Rattle.std.proofs.Common.{◌≡◌, ℕ, suc, ◌<◌, Bool, true, false, cond, not, ◌&&◌, ◌||◌, ltb, leb, List, [], ◌∷◌, length, get_or, Some, None, Ok, Err, Option, Result, sym, refl, ap, ◌∙◌, subst, arith}
use Rattle.std.proofs.lemmas.Bool.{cond-true, cond-false, and_parts, and_from}
use Rattle.std.specs.List.{list_all}
use Rattle.model.specs.Keyed.{is_in}
use Rattle.model.specs.Messages.{Rules, Programs, ToServer, Login, Tick, For, Request, Run, Input, OutputCredit, Eof, Close, ToClient, Did, did, Fault, NeverStarted, TooManyTries, real}
use Rattle.model.specs.Server.{Server, ServerChannel, flush_back, receive_by, pass_to, is_refused, channel_of, may_run, turn_of, cut_server}
use Rattle.server_channel.specs.declared.Channel.{Channel}
use Rattle.server_channel.specs.Kept.{heard, quiet}
use Rattle.server_channel.specs.Turns.{turn_by}
use Rattle.desk.specs.View as seen
use Rattle.desk.specs.declared.Notice.{Notice}
use Rattle.programs.specs.Grants.{Grants}
use Rattle.desk.specs.View.{View, owed_by, closed, number_in}
use Rattle.desk.specs.Quiet.{silent, is_silent, login_fails, login_fails_in}
use Rattle.desk.specs.Events.{login_to, start_to, start_at, refuse_at, is_fresh, cut_down, telling, turned_at}
use Rattle.message.specs.Views.{fault}
use Rattle.desk.specs.Sight.{Finds, HearsAt, TakesAt, FaultsAt, TurnsAt}
use Rattle.server.specs.Stands.{Fits, at, Follows}
use Rattle.message.specs.declared.fault.Fault as code
use Rattle.message.specs.declared.fault.Fault.TheVariants as many
use Rattle.server.specs.Whole.{fault_of}
use Rattle.server.specs.Calls.{Under, Does, Does', Faulty, Faulty', Takes, Takes', Passes', may_user, fault_in, login_fault, pass_fault, fault_by}
use Rattle.server.proofs.Finishing.{finished, bare, silent-owes, silent-quiet}
use Rattle.server.proofs.Happening.{login-meets, cut-meets, still-meets, start-meets, took-meets, fault-meets, dropped-meets, dropped-none, unknown, unknown-meets, turn-meets, no-turn-meets}
use Rattle.server.proofs.Standing.{found}
use Rattle.server.proofs.Hearing.{hears-same, on_ok, became}

told_none : (t : Option Notice) → is_silent t ≡ true → t ≡ None
told_none None h = refl
told_none (Some n) h = absurd cc

-- a list that has a place has an element
some_one : {X : Type 0} (xs : List X) (i : ℕ) → i < length xs → X
some_one [] i l = absurd (omega arith)
some_one (x ∷ xs) i l = x

module _ {S E : Type 0} (granted : Grants) (p : Programs S E) where
  -- a silent server that did something, and let what is over go, does that and what goes by itself
  pub does-all : (event : Rules → ℕ → Server S E → Did (Server S E) ToClient) (v w x : View S) (e e' : E) → silent v ≡ true → Does' granted event v e w e' → x ≡ closed w → Does granted (λ r n s. flush_back r (event r n s)) v e x e'
  does-all event v w x e e' q d y = record {
    follows = λ a m n u s z.
        subst (λ b. Follows (flush_back (real a m) (event (real a m) n b)) x e') (sym z.same)
        (subst (λ b. Follows (flush_back (real a m) (event (real a m) n (at v e z.channels z.used))) b e') (sym y) (finished a m (event (real a m) n (at v e z.channels z.used)) w e' (d.meets a m n u z.channels z.used (bare v e s q z))));
  }

  faulty-all : (message : ToServer) (v : View S) (e : E) (o : Option Fault) → silent v ≡ true → Faulty' granted message v e o → Faulty granted message v e o
  faulty-all message v e o q f = record { found = λ a m n u s x. ap (fault_in (real a m) n message) x.same ∙ f.found a m n u x.channels x.used (bare v e s q x) }

  pub takes_all : (message : ToServer) (v w x : View S) (e e' : E) (o : Option Fault) → silent v ≡ true → v.up ≡ true → Takes' granted p message v e o w e' → x ≡ closed w → Takes granted p message v e o x e'
  takes_all message v w x e e' o q u t y = record { silent = silent-owes v q; up = u; does = does-all (λ r n s. receive_by r p n message s) v w x e e' q t.does y; fault = faulty-all message v e o q t.fault }

  -- a login
  login-fault : (v : View S) (e : E) (u : ℕ) (q : List ℕ) (xs : List (ServerChannel S)) (used : List ℕ) (a : ℕ → ℕ → List ℕ → Bool) (m : ℕ → ℕ → Bool) (n : ℕ) (right : Bool) → a n u q ≡ right → (us : Option ℕ) → login_fault (real a m) n u q us (at v e xs used) ≡ cond (login_fails_in right us v) (Some TooManyTries) None
  login-fault v e u q xs used a m n right h (Some w) = refl
  login-fault v e u q xs used a m n right h None = ap (λ b. cond b None (cond (ltb (suc v.tries) 3) None (Some TooManyTries))) h ∙ go right (ltb (suc v.tries) 3)
    where
      go : (b c : Bool) → cond b None (cond c None (Some TooManyTries)) ≡ cond (not b && not c) (Some TooManyTries) None
      go true c = refl
      go false true = refl
      go false false = refl

  pub takes-login : (v : View S) (e : E) (u : ℕ) (q : List ℕ) → Takes' granted p (Login u q) v e (cond (login_fails (granted.accepts u q) v) (Some TooManyTries) None) (login_to (granted.accepts u q) u v) e
  takes-login v e u q = record {
    does = record { meets = λ a m n x xs used f. login-meets a m p v e xs used f n u q (granted.accepts u q) (x.accepted u q) };
    fault = record { found = λ a m n x xs used f. login-fault v e u q xs used a m n (granted.accepts u q) (x.accepted u q) v.user };
  }

  pub takes-tick : (v : View S) (e : E) → Takes' granted p Tick v e None (telling None v) e
  takes-tick v e = record { does = record { meets = λ a m n x xs used f. still-meets a m p v e xs used f }; fault = record { found = λ a m n x xs used f. refl } }

  may-same : (a : ℕ → ℕ → List ℕ → Bool) (m : ℕ → ℕ → Bool) (n : ℕ) → Under granted a m n → (k : ℕ) (us : Option ℕ) → may_run (real a m) k us ≡ may_user granted.may us k
  may-same a m n x k None = refl
  may-same a m n x k (Some u) = x.allowed u k

  pub takes-start : (v : View S) (e : E) (t k : ℕ) (b : Bool) → t < 65536 → may_user granted.may v.user k ≡ b → Takes' granted p (For t (Run k)) v e None (start_to b (p.first e k) t v) e
  takes-start v e t k b l y = record {
    does = record { meets = λ a m n x xs used f. start-meets a m p v e xs used f t k b l (may-same a m n x k v.user ∙ y) };
    fault = record { found = λ a m n x xs used f. refl };
  }

  -- a message for a channel, but a start
  pub takes-other : (t : ℕ) (q : Request) (v w : View S) (e e' : E) (o : Option Fault) → ((k : ℕ) → q ≡ Run k → ⊥) → Passes' granted t q v e o w e' → Takes' granted p (For t q) v e o w e'
  takes-other t (Run k) v w e e' o h x = absurd (h k refl)
  takes-other t (Input bs) v w e e' o h x = record { does = record { meets = x.does.meets }; fault = record { found = λ a m n u xs used f. x.fault a m xs used f } }
  takes-other t (OutputCredit k) v w e e' o h x = record { does = record { meets = x.does.meets }; fault = record { found = λ a m n u xs used f. x.fault a m xs used f } }
  takes-other t Eof v w e e' o h x = record { does = record { meets = x.does.meets }; fault = record { found = λ a m n u xs used f. x.fault a m xs used f } }
  takes-other t Close v w e e' o h x = record { does = record { meets = x.does.meets }; fault = record { found = λ a m n u xs used f. x.fault a m xs used f } }

-- at a server that is up
module _ {S E : Type 0} (granted : Grants) (p : Programs S E) (ks : List (Channel S)) (nx : ℕ) (h : ℕ → Bool) (us : Option ℕ) (tr : ℕ) (tl : Option Notice) (e : E) where
  abbrev v₁ : View S
  v₁ = seen.view ks nx h us tr true tl

  fault-is : (a : ℕ → ℕ → List ℕ → Bool) (m : ℕ → ℕ → Bool) (xs : List (ServerChannel S)) (used : List ℕ) → Fits v₁ xs used → (d : Channel S) (i : ℕ) (q : Request) → i < length ks → pass_fault (real a m) (number_in (get_or ks i d)) q (at v₁ e xs used) ≡ fault_by (heard q (get_or ks i d))
  fault-is a m xs used f d i q b =
      let k = get_or ks i d in
      let r = found d i b f.stand in
      (λ j. cond (is_refused (number_in k) (r.1 j) (at v₁ e xs used)) None (fault_by (pass_to (real a m) (number_in k) q (r.1 j) (at v₁ e xs used)))) ∙ (ap fault_by (hears-same a m q k r.0) ∙ go (heard q k) (became q k r.0))
    where
      go : {X Y : Type 0} (x : Result X Fault) (g : X → Y) → fault_by (on_ok g x) ≡ fault_by x
      go (Ok x) g = refl
      go (Err x) g = refl

  took-up : (t i : ℕ) (q : Request) (w : View S) → Finds t ks (Some i) → TakesAt q i v₁ w → Passes' granted t q v₁ e None w e
  took-up t i q w g x = subst (λ y. Passes' granted y q v₁ e None w e) (g.1 x.left) (subst (λ y. Passes' granted (number_in (get_or ks i x.left)) q v₁ e None y e) (sym x.after) (record {
    does = record { meets = λ a m n u xs used f. took-meets a m p ks nx h us tr tl e xs used x.left i q x.left f g.0 (x.hears x.left) };
    fault = λ a m xs used f. fault-is a m xs used f x.left i q g.0 ∙ ap fault_by (x.hears x.left);
  }))

  fault-up : (t i : ℕ) (q : Request) (z : Fault) (w : View S) → Finds t ks (Some i) → FaultsAt q i v₁ z w → Passes' granted t q v₁ e (Some z) w e
  fault-up t i q z w g x = let d = some_one ks i g.0 in
      subst (λ y. Passes' granted y q v₁ e (Some z) w e) (g.1 d) (subst (λ y. Passes' granted (number_in (get_or ks i d)) q v₁ e (Some z) y e) (sym x.after) (record {
        does = record { meets = λ a m n u xs used f. fault-meets a m p ks nx h us tr tl e xs used d i q z f g.0 (x.hears d) };
        fault = λ a m xs used f. fault-is a m xs used f d i q g.0 ∙ ap fault_by (x.hears d);
      }))

  dropped-up : (t : ℕ) (q : Request) → t < 65536 → Finds t ks None → h t ≡ true → Passes' granted t q v₁ e None (telling None v₁) e
  dropped-up t q l g y = record {
    does = record { meets = λ a m n u xs used f. dropped-meets a m p ks nx h us tr tl e xs used t q f l g y };
    fault = λ a m xs used f. dropped-none a m p ks nx h us tr tl e xs used t q f l g y;
  }

  unknown-up : (t : ℕ) (q : Request) → t < 65536 → Finds t ks None → h t ≡ false → Passes' granted t q v₁ e (Some NeverStarted) (cut_down v₁) e
  unknown-up t q l g y = record {
    does = record { meets = λ a m n u xs used f. unknown-meets a m p ks nx h us tr tl e xs used t q f l g y };
    fault = λ a m xs used f. let z = unknown a m p ks nx h us tr tl e xs used t f l g y in (λ j. cond (is_refused t (z.0 j) (at v₁ e xs used)) None (fault_by (pass_to (real a m) t q (z.0 j) (at v₁ e xs used)))) ∙ cond-false (is_in t used) None (Some NeverStarted) z.1;
  }

module _ {S E : Type 0} (granted : Grants) (p : Programs S E) (v : View S) (e : E) (up : v.up ≡ true) where
  pub passes-took : (t i : ℕ) (q : Request) (w : View S) → Finds t v.channels (Some i) → TakesAt q i v w → Passes' granted t q v e None w e
  passes-took = let P : Bool → Type 0 = λ b. (t i : ℕ) (q : Request) (w : View S) → Finds t v.channels (Some i) → TakesAt q i (seen.view v.channels v.next v.is_used v.user v.tries b v.told) w → Passes' granted t q (seen.view v.channels v.next v.is_used v.user v.tries b v.told) e None w e in
      subst P (sym up) (took-up granted p v.channels v.next v.is_used v.user v.tries v.told e)

  pub passes-fault : (t i : ℕ) (q : Request) (z : Fault) (w : View S) → Finds t v.channels (Some i) → FaultsAt q i v z w → Passes' granted t q v e (Some z) w e
  passes-fault = let P : Bool → Type 0 = λ b. (t i : ℕ) (q : Request) (z : Fault) (w : View S) → Finds t v.channels (Some i) → FaultsAt q i (seen.view v.channels v.next v.is_used v.user v.tries b v.told) z w → Passes' granted t q (seen.view v.channels v.next v.is_used v.user v.tries b v.told) e (Some z) w e in
      subst P (sym up) (fault-up granted p v.channels v.next v.is_used v.user v.tries v.told e)

  pub passes-heard : (t i : ℕ) (q : Request) (r : Result Unit code.Fault) (w : View S) → Finds t v.channels (Some i) → HearsAt q i v r w → Passes' granted t q v e (fault_of r) w e
  passes-heard t i q (Ok u) w g x = passes-took t i q w g x
  passes-heard t i q (Err f) w g x = passes-fault t i q (fault f) w g x

  pub passes-dropped : (t : ℕ) (q : Request) → t < 65536 → Finds t v.channels None → v.is_used t ≡ true → Passes' granted t q v e None (telling None v) e
  passes-dropped = let P : Bool → Type 0 = λ b. (t : ℕ) (q : Request) → t < 65536 → Finds t v.channels None → v.is_used t ≡ true → Passes' granted t q (seen.view v.channels v.next v.is_used v.user v.tries b v.told) e None (telling None (seen.view v.channels v.next v.is_used v.user v.tries b v.told)) e in
      subst P (sym up) (dropped-up granted p v.channels v.next v.is_used v.user v.tries v.told e)

  pub passes-unknown : (t : ℕ) (q : Request) → t < 65536 → Finds t v.channels None → v.is_used t ≡ false → Passes' granted t q v e (Some NeverStarted) (cut_down v) e
  passes-unknown = let P : Bool → Type 0 = λ b. (t : ℕ) (q : Request) → t < 65536 → Finds t v.channels None → v.is_used t ≡ false → Passes' granted t q (seen.view v.channels v.next v.is_used v.user v.tries b v.told) e (Some NeverStarted) (cut_down (seen.view v.channels v.next v.is_used v.user v.tries b v.told)) e in
      subst P (sym up) (unknown-up granted p v.channels v.next v.is_used v.user v.tries v.told e)

module _ {S E : Type 0} (granted : Grants) (p : Programs S E) (v : View S) (e : E) (q : silent v ≡ true) where
  pub turns-held : (t i : ℕ) (w : View S) (e' : E) → Finds t v.channels (Some i) → TurnsAt p i e v e' w → Does' granted (λ r n s. turn_of r p t (channel_of t s) s) v e w e'
  turns-held t i w e' g x = let d = some_one v.channels i g.0 in
      subst (λ y. Does' granted (λ r n s. turn_of r p y (channel_of y s) s) v e w e') (g.1 d)
      (subst (λ y. Does' granted (λ r n s. turn_of r p (number_in (get_or v.channels i d)) (channel_of (number_in (get_or v.channels i d)) s) s) v e y e') (sym (x.after d))
      (subst (λ y. Does' granted (λ r n s. turn_of r p (number_in (get_or v.channels i d)) (channel_of (number_in (get_or v.channels i d)) s) s) v e (turned_at (number_in (get_or v.channels i d)) i (turn_by p v.up e (get_or v.channels i d)).kept (turn_by p v.up e (get_or v.channels i d)).freed v) y) (sym (x.env d))
      (record { meets = λ a m n u xs used f. turn-meets a m p v e xs used f d i g.0 (silent-quiet v d i q g.0) })))

  -- a silent server is told nothing
  pub still : telling None v ≡ v
  still = let x = and_parts (is_silent v.told) (not v.up || list_all quiet v.channels) q in λ i. seen.view v.channels v.next v.is_used v.user v.tries v.up (sym (told_none v.told x.0) i)

  pub turns-none : (t : ℕ) → Finds t v.channels None → Does' granted (λ r n s. turn_of r p t (channel_of t s) s) v e v e
  turns-none t g = subst (λ w. Does' granted (λ r n s. turn_of r p t (channel_of t s) s) v e w e) still (record { meets = λ a m n u xs used f. no-turn-meets a m p v e xs used f t g })

  pub cuts : Does' granted (λ r n s. did (cut_server s) []) v e (cut_down v) e
  cuts = record { meets = λ a m n u xs used f. cut-meets a m p v e xs used f }

-- what a start comes to
module _ {S : Type 0} where
  pub starts : (b : Bool) (s : S) (t : ℕ) (v : View S) → b ≡ true → (leb v.next t && ltb (length v.channels) 16) ≡ true → start_at s t v ≡ start_to b s t v
  starts b s t v h r = let x = and_parts (leb v.next t) (ltb (length v.channels) 16) r in sym (cond-true (is_fresh t v && (b && ltb (length v.channels) 16)) (start_at s t v) (refuse_at t v) (and_from (is_fresh t v) (b && ltb (length v.channels) 16) x.0 (and_from b (ltb (length v.channels) 16) h x.1)))

  pub refuses : (b : Bool) (s : S) (t : ℕ) (v : View S) → (b && (leb v.next t && ltb (length v.channels) 16)) ≡ false → refuse_at t v ≡ start_to b s t v
  refuses b s t v r = sym (cond-false (is_fresh t v && (b && ltb (length v.channels) 16)) (start_at s t v) (refuse_at t v) (go b (is_fresh t v) (ltb (length v.channels) 16) r))
    where
      go : (a b c : Bool) → (a && (b && c)) ≡ false → (b && (a && c)) ≡ false
      go true true c h = h
      go true false c h = refl
      go false true c h = refl
      go false false c h = refl

fault-cond : (b : Bool) → fault_of (cond b (Err many.TooManyTries) (Ok tt)) ≡ cond b (Some TooManyTries) None
fault-cond true = refl
fault-cond false = refl

-- the same, for what a call left
module _ {S E : Type 0} (granted : Grants) (p : Programs S E) (v w : View S) (e : E) where
  pub login-left : (u : ℕ) (q : List ℕ) (right : Bool) (r : Result Unit code.Fault) → right ≡ granted.accepts u q → w ≡ login_to right u v → r ≡ cond (login_fails right v) (Err many.TooManyTries) (Ok tt) → Takes' granted p (Login u q) v e (fault_of r) w e
  login-left u q right r h x y =
      subst (λ z. Takes' granted p (Login u q) v e (fault_of r) z e) (sym (x ∙ ap (λ b. login_to b u v) h))
      (subst (λ o. Takes' granted p (Login u q) v e o (login_to (granted.accepts u q) u v) e) (sym (ap fault_of y ∙ (fault-cond (login_fails right v) ∙ ap (λ b. cond (login_fails b v) (Some TooManyTries) None) h))) (takes-login granted p v e u q))

  pub start_left : (t k : ℕ) (b : Bool) → t < 65536 → may_user granted.may v.user k ≡ b → w ≡ start_to b (p.first e k) t v → Takes' granted p (For t (Run k)) v e None w e
  start_left t k b l y x = subst (λ z. Takes' granted p (For t (Run k)) v e None z e) (sym x) (takes-start granted p v e t k b l y)

  pub dropped-left : (t : ℕ) (q : Request) → silent v ≡ true → v.up ≡ true → t < 65536 → Finds t v.channels None → v.is_used t ≡ true → w ≡ v → Passes' granted t q v e None w e
  dropped-left t q s u l g y x = subst (λ z. Passes' granted t q v e None z e) (still granted p v e s ∙ sym x) (passes-dropped granted p v e u t q l g y)

  pub unknown-left : (t : ℕ) (q : Request) → v.up ≡ true → t < 65536 → Finds t v.channels None → v.is_used t ≡ false → w ≡ cut_down v → Passes' granted t q v e (Some NeverStarted) w e
  unknown-left t q u l g y x = subst (λ z. Passes' granted t q v e (Some NeverStarted) z e) (sym x) (passes-unknown granted p v e u t q l g y)

  pub tick-left : silent v ≡ true → w ≡ v → Takes' granted p Tick v e None w e
  tick-left s x = subst (λ z. Takes' granted p Tick v e None z e) (still granted p v e s ∙ sym x) (takes-tick granted p v e)
