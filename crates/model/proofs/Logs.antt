-- A right login is accepted, and the client is told. Assumes only the invariant.
use Rattle.std.proofs.Common.{◌≡◌, ℕ, suc, ◌+◌, ◌*◌, ◌≤◌, Bool, true, false, cond, not, ltb, List, [], ◌∷◌, ◌++◌, length, Some, None, sym, refl, ap, ◌∙◌, subst, inl, arith}
use mathlib.Core.List.{Memᴰ}
use Rattle.std.proofs.lemmas.List.{length-append}
use Rattle.std.proofs.lemmas.Bool.{cond-true, or_right}
use Rattle.model.specs.Keyed.{gather, each}
use Rattle.model.specs.Messages.{Rules, Fair, ToServer, Login, ToClient, Accepted, Programs, Did, did}
use Rattle.model.specs.Client.{Client, ClientChannel, client, number_of, requests, requests_of, flushed, flush, receive, LogIn, Down, unless, obey, obey_unless}
use Rattle.model.specs.Server.{Server, server, replies_of, sent_back, flush_back, with_all, forget_all, login_by, serve}
use Rattle.model.specs.World.{World, Event, User, ArriveThere, ArriveHere, after, step, by_client}
use Rattle.model.specs.Promises.{Up}
use Rattle.model.specs.Progress.{All, NoLogin, is_arrival, RightLoginAccepted, Endures}
use Rattle.model.proofs.Inv.{Inv}
use Rattle.model.proofs.Still.{of_members}
use Rattle.model.proofs.Dropped.{flush-still}
use Rattle.model.proofs.Weights.{endures-right}
use Rattle.model.proofs.Settle.{Steps, there-is, here-is, steps-there}
use Rattle.model.proofs.Reach.{Comes, comes-one, comes-then, comes-more, comes-event}
use Rattle.model.proofs.Emptied.{There, drain-there, Here, drain-here}

module _ {S E : Type 0} where
  serve-right : (r : Rules) (p : Programs S E) (n u : ℕ) (q : List ℕ) (s : Server S E) → s.up ≡ true → s.user ≡ None → r.accepts n u q ≡ true → ((serve r p n (Login u q) s).side.user ≡ Some u) × ((serve r p n (Login u q) s).sends ≡ Accepted true ∷ gather (replies_of r) s.channels)
  serve-right r p n u q s su e a = (ap (λ (d : Did (Server S E) ToClient). d.side.user) is, ap (λ (d : Did (Server S E) ToClient). d.sends) is)
    where
      s2 : Server S E
      s2 = server s.channels s.used (Some u) s.tries s.env s.up

      is : serve r p n (Login u q) s ≡ did (with_all (each sent_back s.channels) s2) (Accepted true ∷ gather (replies_of r) s.channels)
      is = ap (λ o. flush_back r (login_by r n u q o s)) e
          ∙ ap (flush_back r) (cond-true (r.accepts n u q) (did s2 (Accepted true ∷ [])) (cond (ltb (suc s.tries) r.tries) (did (server s.channels s.used None (suc s.tries) s.env s.up) (Accepted false ∷ [])) (did (server s.channels s.used None (suc s.tries) s.env false) [])) a)
          ∙ cond-true s.up (did (with_all (each sent_back s.channels) s2) (Accepted true ∷ gather (replies_of r) s.channels)) (did (forget_all s2) (Accepted true ∷ [])) su

  pub right-login-accepted : RightLoginAccepted S E
  unfolding after
  right-login-accepted r p e vs u q ms su nu th ac =
      let w = after r p e vs in
      let a = there-is r p w (Login u q) ms su th in
      let s = serve-right r p w.connection u q w.server su nu ac in
      (ap (λ (v : World S E). v.server.user) a ∙ s.0, (gather (replies_of r) w.server.channels, ap (λ (v : World S E). v.back) a ∙ ap (λ l. w.back ++ l) s.1))

flush-accepted : (r : Rules) (d : Did Client ToServer) → (flush r d).side.accepted ≡ d.side.accepted
flush-accepted r d = go d.side.up
  where
    go : (b : Bool) → (cond b (did (client (each flushed d.side.channels) d.side.accepted d.side.up) (d.sends ++ gather (requests_of r) d.side.channels)) d).side.accepted ≡ d.side.accepted
    go true = refl
    go false = refl

-- a login is never refused while the client is up
log-in-is : (r : Rules) (c : Client) (u : ℕ) (q : List ℕ) → c.up ≡ true → ((x : ClientChannel) → Memᴰ x c.channels → requests r x ≡ []) → obey r (LogIn u q) c ≡ did c (Login u q ∷ [])
log-in-is r c u q cu idle = ap (obey_unless r (LogIn u q) c) (ap (λ b. unless (not b) Down None) cu) ∙ flush-still r c (Login u q ∷ []) cu idle

module _ {S E : Type 0} (r : Rules) (fair : Fair r) (p : Programs S E) (e : E) (inv : (vs : List Event) → Inv r (after r p e vs)) where
  pub record LoggedIn (u : ℕ) (ws : List Event) : Type 0 where
    pub user : (after r p e ws).server.user ≡ Some u
    pub told : (after r p e ws).client.accepted ≡ true

  -- the client is told
  told_here : (ws : List Event) (u : ℕ) (rest : List ToClient) → (after r p e ws).client.up ≡ true → (after r p e ws).server.user ≡ Some u → (after r p e ws).back ≡ Accepted true ∷ rest → LoggedIn u (ArriveHere ∷ ws)
  unfolding after
  told_here ws u rest cu us b =
      let w = after r p e ws in
      let a = here-is r p w (Accepted true) rest cu b in
      record {
        user = ap (λ (v : World S E). v.server.user) a ∙ us;
        told = ap (λ (v : World S E). v.client.accepted) a ∙ flush-accepted r (did (receive r (Accepted true) w.client) []) ∙ or_right w.client.accepted true refl;
      }

  module _ (vs : List Event) (u : ℕ) (q : List ℕ) (up : Up (after r p e vs)) (nobody : (after r p e vs).server.user ≡ None) (none : NoLogin (after r p e vs).there) (right : r.accepts (after r p e vs).connection u q ≡ true) where
    abbrev begun : List Event
    begun = User (LogIn u q) ∷ vs

    abbrev back-most : ℕ
    back-most = length (after r p e vs).back + length (after r p e vs).there * (r.window + 1)

    begin-is : after r p e begun ≡ by_client (did (after r p e vs).client (Login u q ∷ [])) (after r p e vs).back (after r p e vs)
    unfolding after
    begin-is = let w = after r p e vs in ap (λ d. by_client d w.back w) (log-in-is r w.client u q up.0 (of_members number_of (requests r) w.client.channels (inv vs).rising ((inv vs).idle up.0)))

    -- the login arrives, then all that is on the way back, then what it brought
    arrives : (ws : List Event) → There r fair p e inv begun (length (after r p e vs).there * (r.window + 1)) (Login u q ∷ []) ws → Comes is_arrival ws (1 + (back-most + 1)) (LoggedIn u)
    unfolding after
    arrives ws d = comes-event is_arrival ArriveThere ws (back-most + 1) (LoggedIn u) refl
        (comes-then is_arrival (ArriveThere ∷ ws) back-most 1 (Here r fair p e inv (ArriveThere ∷ ws) (Accepted true ∷ z.1.0)) (LoggedIn u)
        (comes-more is_arrival is_arrival (ArriveThere ∷ ws) (length (after r p e ws).back) back-most (Here r fair p e inv (ArriveThere ∷ ws) (Accepted true ∷ z.1.0)) (λ v a. a) few
        (drain-here r fair p e inv (after r p e ws).back (Accepted true ∷ z.1.0) (ArriveThere ∷ ws) s.up s.endured z.1.1))
        (λ xs h. comes-one is_arrival ArriveHere xs (LoggedIn u) refl (told_here xs u z.1.0 h.up.0 (ap (λ (y : Server S E). y.user) h.server ∙ z.0) h.back)))
      where
        z : ((after r p e (ArriveThere ∷ ws)).server.user ≡ Some u) × ((rest : List ToClient) × ((after r p e (ArriveThere ∷ ws)).back ≡ (after r p e ws).back ++ (Accepted true ∷ rest)))
        z = right-login-accepted r p e ws u q [] d.up.1 (d.user ∙ ap (λ (v : World S E). v.server.user) begin-is ∙ nobody) d.there (ap (λ n. r.accepts n u q) (d.connection ∙ ap (λ (v : World S E). v.connection) begin-is) ∙ right)

        s : Steps r (after r p e ws) (step r p ArriveThere (after r p e ws))
        s = steps-there r p (after r p e ws) fair (inv ws) d.up d.endured (Login u q) [] d.there

        few : length (after r p e ws).back ≤ back-most
        few = let a = ap length (d.back ∙ ap (λ l. l ++ d.brought) (ap (λ (v : World S E). v.back) begin-is)) in let b = length-append (after r p e vs).back d.brought in let c = d.few in omega arith

    pub can-log-in : (fs : List Event) × All is_arrival fs × (length fs ≤ length (after r p e vs).back + 2 + length (after r p e vs).there * (r.window + 4)) × ((after r p e (fs ++ begun)).server.user ≡ Some u) × ((after r p e (fs ++ begun)).client.accepted ≡ true)
    can-log-in =
        let w = after r p e vs in
        let n = length w.there in
        let a = begin-is in
        let up1 : Up (after r p e begun) = (ap (λ (v : World S E). v.client.up) a ∙ up.0, ap (λ (v : World S E). v.server.up) a ∙ up.1) in
        let en1 : Endures r (after r p e begun) = subst (λ (v : World S E). Endures r v) (sym a) (endures-right r w.connection w.server.user w.server.tries u q w.there none right) in
        let z = comes-then is_arrival begun n (1 + (back-most + 1)) (There r fair p e inv begun (n * (r.window + 1)) (Login u q ∷ [])) (LoggedIn u)
        (drain-there r fair p e inv w.there (Login u q ∷ []) begun up1 en1 (ap (λ (v : World S E). v.there) a) (inl none)) arrives in
        (z.0, z.1, (let l = z.2 in omega arith), z.3.user, z.3.told)
