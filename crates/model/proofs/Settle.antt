-- Arrivals come to an end, and no fault is met, given that the invariant holds after all events. Assumes nothing else.
use Rattle.std.proofs.Common.{◌≡◌, ℕ, zero, suc, ◌+◌, ◌*◌, ◌<◌, ◌≤◌, true, ◌⊎◌, List, [], ◌∷◌, ◌++◌, length, sym, refl, ap, ◌∙◌, subst, inl, inr, mul-le-mul_right, mul-le-mul_left, arith}
use Rattle.std.proofs.lemmas.List.{length-append}
use Rattle.model.specs.Messages.{Rules, Fair, ToServer, ToClient, Programs}
use Rattle.model.specs.Client.{take_in}
use Rattle.model.specs.Server.{serve}
use Rattle.model.specs.World.{World, Event, User, Turn, ArriveThere, ArriveHere, CutHere, CutThere, Connect, Time, after, step, by_server, by_client, arrive_there, arrive_here}
use Rattle.model.specs.Promises.{Up}
use Rattle.model.specs.Progress.{Busy, Finds, Empty, Endures, endures, All, is_arrival}
use Rattle.model.proofs.Inv.{InvOf, Inv}
use Rattle.model.proofs.Weights.{endures-more, weights, weights-append, weights-most, weighs-less, room_of, heavy}
use Rattle.model.proofs.Arrive.{Took, took, Served, served}

module _ {S E : Type 0} where
  abbrev pub load : Rules → World S E → ℕ
  load r w = weights r w.there + length w.back * (r.window + 3)

  pub record Steps (r : Rules) (w v : World S E) : Type 0 where
    pub up : Up v
    pub endured : Endures r v
    pub less : load r v < load r w

  module _ (r : Rules) (p : Programs S E) (w : World S E) where
    pub there-is : (m : ToServer) (ms : List ToServer) → w.server.up ≡ true → w.there ≡ m ∷ ms → step r p ArriveThere w ≡ by_server (serve r p w.connection m w.server) ms w
    there-is m ms u e = λ i. arrive_there r p (u i) (e i) w

    pub here-is : (m : ToClient) (ms : List ToClient) → w.client.up ≡ true → w.back ≡ m ∷ ms → step r p ArriveHere w ≡ by_client (take_in r m w.client) ms w
    here-is m ms u e = λ i. arrive_here r (u i) (e i) w

    pub there-served : Fair r → Inv r w → Up w → Endures r w → (m : ToServer) (ms : List ToServer) → w.there ≡ m ∷ ms → Served r w.connection m ms (serve r p w.connection m w.server)
    there-served fair i u en m ms e = served r fair p w.connection w.client w.server m ms w.back (subst (λ (l : List ToServer). InvOf r w.client w.server l w.back) e i) u.0 u.1 (sym (ap (endures r w.connection w.server.user w.server.tries) e) ∙ en)

    pub here-took : Fair r → Inv r w → Up w → (m : ToClient) (ms : List ToClient) → w.back ≡ m ∷ ms → Took r (take_in r m w.client)
    here-took fair i u m ms e = took r fair w.client w.server w.there m ms (subst (λ (l : List ToClient). InvOf r w.client w.server w.there l) e i) u.0 u.1

    there-less : Fair r → (m : ToServer) (ms : List ToServer) (bs : List ToClient) → w.there ≡ m ∷ ms → length bs ≤ room_of r m → weights r ms + length (w.back ++ bs) * (r.window + 3) < load r w
    unfolding weights
    there-less fair m ms bs e l =
        let a = ap (weights r) e in
        let b = length-append w.back bs in
        let c = mul-le-mul_right (r.window + 3) l in
        let d = weighs-less r fair m in
        let f : length (w.back ++ bs) * (r.window + 3) ≡ (length w.back + length bs) * (r.window + 3) = ap (λ n. n * (r.window + 3)) b in
        omega arith

    pub steps-there : Fair r → Inv r w → Up w → Endures r w → (m : ToServer) (ms : List ToServer) → w.there ≡ m ∷ ms → Steps r w (step r p ArriveThere w)
    steps-there fair i u en m ms e =
        let d = serve r p w.connection m w.server in
        let s = there-served fair i u en m ms e in
        subst (λ (v : World S E). Steps r w v) (sym (there-is m ms u.1 e)) (record { up = (u.0, s.up); endured = s.endured; less = there-less fair m ms d.sends e s.few })

    here-less : (m : ToClient) (ms : List ToClient) (bs : List ToServer) → w.back ≡ m ∷ ms → weights r bs ≤ r.window + 2 → weights r (w.there ++ bs) + length ms * (r.window + 3) < load r w
    here-less m ms bs e l =
        let a = ap (λ (q : List ToClient). length q * (r.window + 3)) e in
        let b = weights-append r w.there bs in
        omega arith

    pub steps-here : Fair r → Inv r w → Up w → Endures r w → (m : ToClient) (ms : List ToClient) → w.back ≡ m ∷ ms → Steps r w (step r p ArriveHere w)
    steps-here fair i u en m ms e =
        let d = take_in r m w.client in
        let s = here-took fair i u m ms e in
        subst (λ (v : World S E). Steps r w v) (sym (here-is m ms u.0 e))
        (record {
          up = (s.up, u.1);
          endured = ap (λ l. endures r w.connection w.server.user w.server.tries (w.there ++ l)) s.sends ∙ endures-more r w.connection w.server.user w.server.tries s.number s.asked w.there ∙ en;
          less = here-less m ms d.sends e s.light;
        })

    pub steps-found : Fair r → Inv r w → Up w → Endures r w → (f : Event) → Finds f w → Steps r w (step r p f w)
    steps-found fair i u en (User k) h = absurd h
    steps-found fair i u en (Turn t) h = absurd h
    steps-found fair i u en ArriveThere h = go w.there refl
      where
        go : (l : List ToServer) → w.there ≡ l → Steps r w (step r p ArriveThere w)
        go [] e = absurd (h e)
        go (m ∷ ms) e = steps-there fair i u en m ms e
    steps-found fair i u en ArriveHere h = go w.back refl
      where
        go : (l : List ToClient) → w.back ≡ l → Steps r w (step r p ArriveHere w)
        go [] e = absurd (h e)
        go (m ∷ ms) e = steps-here fair i u en m ms e
    steps-found fair i u en CutHere h = absurd h
    steps-found fair i u en CutThere h = absurd h
    steps-found fair i u en Connect h = absurd h
    steps-found fair i u en Time h = absurd h

  pub load-most : (r : Rules) (w : World S E) → load r w ≤ (length w.there + length w.back) * heavy r
  load-most r w =
      let a = weights-most r w.there in
      let b : r.window + 3 ≤ heavy r = omega arith in
      let c = mul-le-mul_left (length w.back) b in
      omega arith

pub record Went {S E : Type 0} (r : Rules) (w v : World S E) (n : ℕ) : Type 0 where
  pub up : Up v
  pub endured : Endures r v
  pub less : n + load r v ≤ load r w

module _ {S E : Type 0} (r : Rules) (fair : Fair r) (p : Programs S E) (e : E) (inv : (vs : List Event) → Inv r (after r p e vs)) where
  pub busy-went : (vs fs : List Event) → Up (after r p e vs) → Endures r (after r p e vs) → Busy r p e vs fs → Went r (after r p e vs) (after r p e (fs ++ vs)) (length fs)
  unfolding Busy after
  busy-went vs [] u en b = record { up = u; endured = en; less = omega arith }
  busy-went vs (f ∷ fs) u en b =
      let ih = busy-went vs fs u en b.1 in
      let s = steps-found r p (after r p e (fs ++ vs)) fair (inv (fs ++ vs)) ih.up ih.endured f b.0 in
      record { up = s.up; endured = s.endured; less = let l = s.less in let k = ih.less in omega arith }

  pub settles : (vs fs : List Event) → Up (after r p e vs) → Endures r (after r p e vs) → Busy r p e vs fs → Up (after r p e (fs ++ vs)) × (length fs ≤ (length (after r p e vs).there + length (after r p e vs).back) * ((r.window + 2) * (r.window + 2)))
  settles vs fs u en b = let w = busy-went vs fs u en b in (w.up, let l = w.less in let m = load-most r (after r p e vs) in omega arith)

  next : (vs fs : List Event) → Up (after r p e vs) → Endures r (after r p e vs) → Busy r p e vs fs → Empty (after r p e (fs ++ vs)) ⊎ ((f : Event) × Busy r p e vs (f ∷ fs) × (load r (after r p e (f ∷ (fs ++ vs))) < load r (after r p e (fs ++ vs))))
  unfolding Busy after
  next vs fs u en b = go (after r p e (fs ++ vs)).there refl (after r p e (fs ++ vs)).back refl
    where
      w : Went r (after r p e vs) (after r p e (fs ++ vs)) (length fs)
      w = busy-went vs fs u en b

      go : (a : List ToServer) → (after r p e (fs ++ vs)).there ≡ a → (d : List ToClient) → (after r p e (fs ++ vs)).back ≡ d → Empty (after r p e (fs ++ vs)) ⊎ ((f : Event) × (Finds f (after r p e (fs ++ vs)) × Busy r p e vs fs) × (load r (step r p f (after r p e (fs ++ vs))) < load r (after r p e (fs ++ vs))))
      go [] q [] k = inl (q, k)
      go (m ∷ ms) q d k = inr (ArriveThere, (λ z. absurd (let y : ◌≡◌ {A = ℕ} 0 1 = cc in omega arith), b), (steps-there r p (after r p e (fs ++ vs)) fair (inv (fs ++ vs)) w.up w.endured m ms q).less)
      go [] q (m ∷ ms) k = inr (ArriveHere, (λ z. absurd (let y : ◌≡◌ {A = ℕ} 0 1 = cc in omega arith), b), (steps-here r p (after r p e (fs ++ vs)) fair (inv (fs ++ vs)) w.up w.endured m ms k).less)

  settle-from : (n : ℕ) (vs fs : List Event) → Up (after r p e vs) → Endures r (after r p e vs) → Busy r p e vs fs → load r (after r p e (fs ++ vs)) ≤ n → (gs : List Event) × Busy r p e vs gs × Empty (after r p e (gs ++ vs))
  settle-from zero vs fs u en b l = go (next vs fs u en b)
    where
      go : Empty (after r p e (fs ++ vs)) ⊎ ((f : Event) × Busy r p e vs (f ∷ fs) × (load r (after r p e (f ∷ (fs ++ vs))) < load r (after r p e (fs ++ vs)))) → (gs : List Event) × Busy r p e vs gs × Empty (after r p e (gs ++ vs))
      go (inl z) = (fs, b, z)
      go (inr z) = absurd (let k = z.2 in omega arith)
  settle-from (suc n) vs fs u en b l = go (next vs fs u en b) (λ gs c k. settle-from n vs gs u en c k)
    where
      go : Empty (after r p e (fs ++ vs)) ⊎ ((f : Event) × Busy r p e vs (f ∷ fs) × (load r (after r p e (f ∷ (fs ++ vs))) < load r (after r p e (fs ++ vs)))) →
          ((gs : List Event) → Busy r p e vs gs → load r (after r p e (gs ++ vs)) ≤ n → (gs : List Event) × Busy r p e vs gs × Empty (after r p e (gs ++ vs))) → (gs : List Event) × Busy r p e vs gs × Empty (after r p e (gs ++ vs))
      go (inl z) ih = (fs, b, z)
      go (inr z) ih = ih (z.0 ∷ fs) z.1 (let k = z.2 in omega arith)

  pub can-settle : (vs : List Event) → Up (after r p e vs) → Endures r (after r p e vs) → (fs : List Event) × Busy r p e vs fs × Empty (after r p e (fs ++ vs))
  unfolding Busy
  can-settle vs u en = settle-from (load r (after r p e vs)) vs [] u en tt (omega arith)

pub busy-arrivals : {S E : Type 0} (r : Rules) (p : Programs S E) (e : E) (vs fs : List Event) → Busy r p e vs fs → All is_arrival fs
unfolding Busy All
busy-arrivals r p e vs [] b = tt
busy-arrivals r p e vs (User k ∷ fs) b = absurd b.0
busy-arrivals r p e vs (Turn t ∷ fs) b = absurd b.0
busy-arrivals r p e vs (ArriveThere ∷ fs) b = (refl, busy-arrivals r p e vs fs b.1)
busy-arrivals r p e vs (ArriveHere ∷ fs) b = (refl, busy-arrivals r p e vs fs b.1)
busy-arrivals r p e vs (CutHere ∷ fs) b = absurd b.0
busy-arrivals r p e vs (CutThere ∷ fs) b = absurd b.0
busy-arrivals r p e vs (Connect ∷ fs) b = absurd b.0
busy-arrivals r p e vs (Time ∷ fs) b = absurd b.0
