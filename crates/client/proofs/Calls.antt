-- Each command that is obeyed, as its contract has it.
use Rattle.std.proofs.Common.{◌≡◌, ℕ, ◌+◌, ◌-◌, ◌<◌, ◌≤◌, min, Bool, true, false, cond, eqb, List, [], ◌∷◌, ◌++◌, length, get_or, take, drop, set, Some, None, sym, refl, ap, ◌∙◌, subst, arith}
use Rattle.std.proofs.lemmas.List.{length-append, append_assoc, take-append-drop, length-take, drop_at}
use Rattle.std.proofs.lemmas.Bool.{le-leb, le-ltb, lt-ltb}
use Rattle.model.specs.Keyed.{change}
use Rattle.model.specs.Messages as model
use Rattle.model.specs.Messages.{Rules, real, ToServer, Did, did}
use Rattle.model.specs.Client as side
use Rattle.model.specs.Client.{ClientChannel, number_of, channel_at, Command, LogIn, Start, Enter, Finish, Take, command, refusal, unless, obey, obey_unless, flush, entered, finished, took_more, takeable, output_credit, with_channels}
use Rattle.client_channel.specs.Kept.{Kept, fresh}
use Rattle.client.specs.declared.value.Client.{Client}
use Rattle.client.specs.View.{View, view_of}
use Rattle.client.specs.Stand.{whole}
use Rattle.client.specs.Contract.{Accepts, May, Stands, is_busy, Obeys, Gets}
use Rattle.client.proofs.Standing.{focus}
use Rattle.client.proofs.Moves.{view, After, changed, changed-down, told, started}
use Rattle.client.proofs.Refusals.{enter-at, finish-at, take_at, login-is, start_is, found_at}

-- the same channel under the number that was asked for
pub renamed : (k : ℕ → Command) (t u : ℕ) (c d : Client) → t ≡ u → Obeys (k t) c d → Obeys (k u) c d
renamed k t u c d e h = subst (λ n. Obeys (k n) c d) e h

-- a command that is not refused
pub obeyed-by : (r : Rules) (k : Command) (w : side.Client) (P : Did side.Client ToServer → Type 0) → refusal r k w ≡ None → P (flush r (command k w)) → P (obey r k w)
obeyed-by r k w P e h = subst (λ z. P (obey_unless r k w z)) (sym e) h

-- the same, by what the value is then
obeys-by : (k : Command) (c d : Client) (v' : View) → is_busy c ≡ false → view_of d ≡ v' → ((a : Accepts) (m : May) (w : side.Client) → Stands c w → refusal (real a m) k w ≡ None) → ((a : Accepts) (m : May) (w : side.Client) → Stands c w → After v' (flush (real a m) (command k w))) → Obeys k c d
obeys-by k c d v' b e ok h = record { idle = b; allowed = ok; stands = λ a m w s. (all a m w s).0; sends = λ a m w s. (all a m w s).1 }
  where
    all : (a : Accepts) (m : May) (w : side.Client) → Stands c w → After (view_of d) (obey (real a m) k w)
    all a m w s = subst (λ z. After z (obey (real a m) k w)) (sym e) (obeyed-by (real a m) k w (After v') (ok a m w s) (h a m w s))

abbrev pub entered_k : List ℕ → Kept → Kept
entered_k bs k = record k { waiting = k.waiting ++ bs }

abbrev pub finished_k : Kept → Kept
finished_k k = record k { eof = true }

abbrev pub took_k : ℕ → Kept → Kept
took_k n k = record k { unseen = drop n k.unseen }

entered-whole : (k : Kept) (bs : List ℕ) (c : ℕ) (g t : List ℕ) → entered bs (whole k c g t) ≡ whole (entered_k bs k) c g t
entered-whole k bs c g t = λ i. record (whole k c g t) { input = append_assoc g k.waiting bs i }

took-whole : (k : Kept) (n : ℕ) (c : ℕ) (g t : List ℕ) → n ≤ length k.unseen → took_more n (whole k c g t) ≡ whole (took_k n k) c g (t ++ take n k.unseen)
took-whole k n c g t l =
    let a : t ++ k.unseen ≡ (t ++ take n k.unseen) ++ drop n k.unseen = ap (λ z. t ++ z) (sym (take-append-drop n k.unseen)) ∙ sym (append_assoc t (take n k.unseen) (drop n k.unseen)) in
    let lt = length-take n k.unseen in
    let la = length-append t (take n k.unseen) in
    let b : length t + n ≡ length (t ++ take n k.unseen) = omega arith in
    λ i. record (whole k c g t) { got = a i; taken = b i }

module _ (c : Client) (b : is_busy c ≡ false) where
  abbrev v : View
  v = view_of c

  -- the login
  pub login-obeys : (x : ℕ) (p : List ℕ) (d : Client) → v.up ≡ true → view_of d ≡ view v.kepts v.is_used v.next v.accepted v.up (model.Login x p ∷ []) v.turn → Obeys (LogIn x p) c d
  login-obeys x p d u e = obeys-by (LogIn x p) c d _ b e (λ a m w s. login-is v w s b a m x p ∙ rw u) (λ a m w s. told v w s b a m (model.Login x p ∷ []) (λ y. y) u)

  -- a start
  pub start-obeys : (t q : ℕ) (d : Client) (us : ℕ → Bool) → ((n : ℕ) → us n ≡ cond (eqb n t) true (v.is_used n)) → v.next ≤ t → t < 65536 → length v.kepts < 16 → v.up ≡ true →
      view_of d ≡ view (v.kepts ++ fresh t ∷ []) us (t + 1) v.accepted v.up (model.For t (model.Run q) ∷ []) v.turn → Obeys (Start t q) c d
  start-obeys t q d us f h l n u e =
      obeys-by (Start t q) c d _ b e
      (λ a m w s. start_is v w s b a m t q ∙ rw (le-leb v.next t h, le-ltb 65535 t (omega arith), lt-ltb (length v.kepts) 16 n, u))
      (λ a m w s. started v w s b a m t q (model.For t (model.Run q) ∷ []) us f u h)

  -- one channel
  module _ (i : ℕ) (l : i < length v.kepts) where
    abbrev k : Kept
    k = get_or v.kepts i (fresh 0)

    pub input-obeys : (bs : List ℕ) (d : Client) → v.up ≡ true → k.eof ≡ false → length k.waiting + length bs ≤ 16384 →
        view_of d ≡ view (set v.kepts i (entered_k bs k)) v.is_used v.next v.accepted v.up [] (Some i) → Obeys (Enter k.number bs) c d
    input-obeys bs d u f n e =
        obeys-by (Enter k.number bs) c d _ b e
        (λ a m w s. enter-at v w s b a m i (fresh 0) l bs ∙ rw (u, f, le-ltb 16384 (length k.waiting + length bs) n))
        (λ a m w s. changed v w s b u i (fresh 0) l a m (entered_k bs k) [] (entered bs) refl (let o = focus s.stand i (fresh 0) l in (o.went, o.taken, entered-whole k bs o.command o.went o.taken)))

    pub eof-obeys : (d : Client) → v.up ≡ true → k.eof ≡ false → view_of d ≡ view (set v.kepts i (finished_k k)) v.is_used v.next v.accepted v.up [] (Some i) → Obeys (Finish k.number) c d
    eof-obeys d u f e =
        obeys-by (Finish k.number) c d _ b e
        (λ a m w s. finish-at v w s b a m i (fresh 0) l ∙ rw (u, f))
        (λ a m w s. changed v w s b u i (fresh 0) l a m (finished_k k) [] finished refl (let o = focus s.stand i (fresh 0) l in (o.went, o.taken, refl)))

    -- output is taken
    take-is : (n : ℕ) (a : Accepts) (m : May) (w : side.Client) → Stands c w → takeable n (channel_at k.number w) ≡ min n (length k.unseen)
    take-is n a m w s =
        let o = focus s.stand i (fresh 0) l in
        let e = length-append o.taken k.unseen in
        ap (takeable n) (found_at v w s b a m i (fresh 0) l) ∙ ap (min n) (let z : length (o.taken ++ k.unseen) - length o.taken ≡ length k.unseen = omega arith in z)

    took-focus : (n : ℕ) (w : side.Client) (s : Stands c w) → n ≤ length k.unseen → (g : List ℕ) × (t : List ℕ) × (took_more n (whole k (focus s.stand i (fresh 0) l).command (focus s.stand i (fresh 0) l).went (focus s.stand i (fresh 0) l).taken) ≡ whole (took_k n k) (focus s.stand i (fresh 0) l).command g t)
    took-focus n w s h = let o = focus s.stand i (fresh 0) l in (o.went, o.taken ++ take n k.unseen, took-whole k n o.command o.went o.taken h)

    abbrev taken_did : Rules → side.Client → ℕ → Bool → Did side.Client ToServer
    taken_did r w x u = flush r (did (with_channels (change number_of k.number (took_more x) w.channels) w) (cond u (output_credit k.number x) []))

    by-take : (n : ℕ) (v' : View) (a : Accepts) (m : May) (w : side.Client) → Stands c w → (y : Bool) → v.up ≡ y → After v' (taken_did (real a m) w (min n (length k.unseen)) y) → After v' (flush (real a m) (command (Take k.number n) w))
    by-take n v' a m w s y u h = subst (λ x. After v' (taken_did (real a m) w x w.up)) (sym (take-is n a m w s)) (subst (λ z. After v' (taken_did (real a m) w (min n (length k.unseen)) z)) (sym (s.up ∙ u)) h)

    pub take-obeys : (n : ℕ) (d : Client) → v.up ≡ true → view_of d ≡ view (set v.kepts i (took_k (min n (length k.unseen)) k)) v.is_used v.next v.accepted v.up (output_credit k.number (min n (length k.unseen))) (Some i) → Obeys (Take k.number n) c d
    take-obeys n d u e =
        let x = min n (length k.unseen) in
        obeys-by (Take k.number n) c d _ b e
        (λ a m w s. take_at v w s b a m i (fresh 0) l n)
        (λ a m w s. by-take n _ a m w s true u (changed v w s b u i (fresh 0) l a m (took_k x k) (output_credit k.number x) (took_more x) refl (took-focus x w s (omega arith))))

    pub take-obeys-down : (n : ℕ) (d : Client) → v.up ≡ false → view_of d ≡ view (set v.kepts i (took_k (min n (length k.unseen)) k)) v.is_used v.next v.accepted v.up v.pending v.turn → Obeys (Take k.number n) c d
    take-obeys-down n d u e =
        let x = min n (length k.unseen) in
        obeys-by (Take k.number n) c d _ b e
        (λ a m w s. take_at v w s b a m i (fresh 0) l n)
        (λ a m w s. by-take n _ a m w s false u (changed-down v w s b u i (fresh 0) l a m (took_k x k) (took_more x) refl (took-focus x w s (omega arith))))

    pub take-gets : (out now : List ℕ) (n : ℕ) → n ≡ min (length out) (length k.unseen) → now ≡ take n k.unseen ++ drop n out → Gets k.number c out n now
    take-gets out now n e h =
        record {
          count = λ w s. e ∙ sym (take-is (length out) (λ _ _ _. false) (λ _ _. false) w s);
          bytes = λ w x s f. let o = focus s.stand i (fresh 0) l in let g = found_at v w s b (λ _ _ _. false) (λ _ _. false) i (fresh 0) l in let q : x ≡ whole k o.command o.went o.taken = some_same (sym f ∙ g) in h ∙ ap (λ z. take n z ++ drop n out) (sym (ap (λ (y : ClientChannel). drop y.taken y.got) q ∙ drop_at o.taken k.unseen (length o.taken) refl));
        }
      where
        some_same : {x y : ClientChannel} → Some x ≡ Some y → x ≡ y
        some_same p = cc
