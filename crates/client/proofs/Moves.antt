-- A value stands for a client of the model before and after an event: one channel changed, removed or added, the login told, the connection down.
use Rattle.std.proofs.Common.{◌≡◌, ℕ, zero, suc, ◌+◌, ◌-◌, ◌<◌, ◌≤◌, Bool, true, false, cond, ◌&&◌, ◌||◌, eqb, ltb, leb, List, [], ◌∷◌, ◌++◌, map, length, get_or, take, drop, set, Some, None, Option, sym, refl, ap, ◌∙◌, subst, ⊎_elim, arith}
use Rattle.std.specs.List.{remove}
use Rattle.std.specs.Option as option
use Rattle.std.proofs.lemmas.List.{length-set, length-append, length-take, length-drop, length_push, get_or-set_other, get_or_append_left, get_or-append_right, get_or-take, get_or-drop, get_or_push, append-nil}
use Rattle.std.proofs.lemmas.Bool.Decides.{nat_tests}
use Rattle.std.proofs.lemmas.Bool.{cases_Bool, cond-true, cond-false, eq-eqb, ne_eqb, cases_eq, cases_lt, or_parts, le-leb, or_right}
use Rattle.model.specs.Keyed.{change, numbers, is_in, above, gather, each}
use Rattle.model.specs.Messages.{Rules, real, ToServer, Did, did}
use Rattle.model.specs.Client.{ClientChannel, Client, client, number_of, new_channel, is_held, requests, requests_of, flushed, flush, with_channels, labelled}
use Rattle.client_channel.specs.Kept.{Kept, fresh}
use Rattle.client.specs.View.{View}
use Rattle.client.specs.Stand.{whole, limits, bare, Stand, QuietBut, StandsFor, owed_by, is_some, busy}
use Rattle.client.proofs.Bare.{or-false}
use Rattle.client.proofs.Standing.{AllQuiet, gather-stand, each-quiet, Focus, focus, push-stand, is_in-push, above-push}

abbrev pub view : List Kept → (ℕ → Bool) → ℕ → Bool → Bool → List ToServer → Option ℕ → View
view ks us n a u p t = record { kepts = ks; is_used = us; next = n; accepted = a; up = u; pending = p; turn = t }

pub never : {A : Type 0} (b : Bool) → b ≡ true → b ≡ false → A
never b h f = cc

-- a value that is not busy owes nothing
pub record Idle (v : View) : Type 0 where
  pub pending : v.pending ≡ []
  pub turn : v.turn ≡ None

pub idle : (v : View) → busy v ≡ false → Idle v
idle v h = let p = or_parts (is_some v.pending) (option.is_some v.turn) h in record { pending = empty v.pending p.0; turn = no_turn v.turn p.1 }
  where
    empty : (ms : List ToServer) → is_some ms ≡ false → ms ≡ []
    empty [] e = refl
    empty (m ∷ ms) e = never true refl e

    no_turn : (o : Option ℕ) → option.is_some o ≡ false → o ≡ None
    no_turn None e = refl
    no_turn (Some i) e = never true refl e

all_quiet : (v : View) (w : Client) → StandsFor v w → v.turn ≡ None → v.up ≡ true → AllQuiet v.kepts
unfolding QuietBut
all_quiet v w s l u i d h = s.quiet u i d h (λ e. cc)

pub settled : (v : View) (w : Client) (s : StandsFor v w) → v.turn ≡ None → w ≡ client s.all v.accepted v.up
settled v w s l = λ i. record { channels = flat i; accepted = s.accepted i; up = s.up i }
  where
    flat : w.channels ≡ s.all
    flat = ⊎_elim (λ u. s.channels ∙ cond-true v.up _ _ u ∙ each-quiet s.stand (all_quiet v w s l u)) (λ u. s.channels ∙ cond-false v.up _ _ u) (cases_Bool v.up)

-- gathered of channels of which at most one has something to send
abbrev pub sends_of : Kept → List ToServer
sends_of k = requests_of limits (bare k)

pub gather_none : (ks : List Kept) → AllQuiet ks → gather (requests_of limits) (map bare ks) ≡ []
unfolding gather labelled
gather_none [] q = refl
gather_none (k ∷ ks) q = ap (λ z. labelled k.number z ++ gather (requests_of limits) (map bare ks)) (q 0 k (omega arith)) ∙ gather_none ks (λ i d l. q (suc i) d (omega arith))

pub gather-one : (ks : List Kept) (i : ℕ) (d : Kept) → i < length ks → ((j : ℕ) (e : Kept) → j < length ks → (j ≡ i → ⊥) → requests limits (bare (get_or ks j e)) ≡ []) → gather (requests_of limits) (map bare ks) ≡ sends_of (get_or ks i d)
unfolding gather labelled
gather-one [] i d l q = absurd (let z : i < 0 = l in omega arith)
gather-one (k ∷ ks) zero d l q = ap (λ z. sends_of k ++ z) (gather_none ks (λ i e h. q (suc i) e (omega arith) (λ y. omega arith))) ∙ append-nil (sends_of k)
gather-one (k ∷ ks) (suc i) d l q =
    ap (λ z. labelled k.number z ++ gather (requests_of limits) (map bare ks)) (q 0 k (omega arith) (λ y. omega arith))
    ∙ gather-one ks i d (let z : suc i < suc (length ks) = l in omega arith) (λ j e h n. q (suc j) e (omega arith) (λ y. n (omega arith)))

pub owed-idle : (v : View) (w : Client) → StandsFor v w → busy v ≡ false → owed_by v ≡ []
unfolding owed_by
owed-idle v w s b =
    let i = idle v b in
    ⊎_elim
    (λ u. cond-true v.up _ _ u ∙ ap (λ z. z ++ gather (requests_of limits) (map bare v.kepts)) i.pending ∙ gather_none v.kepts (all_quiet v w s i.turn u))
    (λ u. cond-false v.up _ _ u)
    (cases_Bool v.up)

-- what a client that is up sends, and what becomes of it
pub flush-up : (r : Rules) (cs : List ClientChannel) (a u : Bool) (p : List ToServer) → u ≡ true → flush r (did (client cs a u) p) ≡ did (client (each flushed cs) a u) (p ++ gather (requests_of r) cs)
flush-up r cs a u p h = cond-true u (did (client (each flushed cs) a u) (p ++ gather (requests_of r) cs)) (did (client cs a u) p) h

pub flush-down : (r : Rules) (cs : List ClientChannel) (a u : Bool) (p : List ToServer) → u ≡ false → flush r (did (client cs a u) p) ≡ did (client cs a u) p
flush-down r cs a u p h = cond-false u (did (client (each flushed cs) a u) (p ++ gather (requests_of r) cs)) (did (client cs a u) p) h

pub owed-up : (v : View) (hs : List ClientChannel) → v.up ≡ true → Stand v.kepts hs → owed_by v ≡ v.pending ++ gather (requests_of limits) hs
unfolding owed_by
owed-up v hs u s = cond-true v.up _ _ u ∙ ap (λ z. v.pending ++ z) (sym (gather-stand s))

-- one element changed, removed or added
pub quiet-set : (ks : List Kept) (i : ℕ) (k : Kept) → ((j : ℕ) (d : Kept) → j < length ks → (j ≡ i → ⊥) → requests limits (bare (get_or ks j d)) ≡ []) → QuietBut (Some i) (set ks i k)
unfolding QuietBut
quiet-set ks i k q j d l n = let e = length-set ks i k in ap (λ z. requests limits (bare z)) (get_or-set_other ks i j k d (λ f. n (ap Some (sym f)))) ∙ q j d (omega arith) (λ f. n (ap Some (sym f)))

pub removed-at : (ks : List Kept) (i j : ℕ) (d : Kept) → i < length ks → j < length (remove ks i) → (m : ℕ) × (m < length ks) × (m ≡ i → ⊥) × (get_or (remove ks i) j d ≡ get_or ks m d)
removed-at ks i j d l h =
    let lt = length-take i ks in
    let ld = length-drop (suc i) ks in
    let la = length-append (take i ks) (drop (suc i) ks) in
    ⊎_elim
    (λ f. (j, omega arith, (λ e. omega arith), get_or_append_left (take i ks) (drop (suc i) ks) d j (omega arith) ∙ get_or-take i ks j d f))
    (λ f. (suc j, omega arith, (λ e. omega arith), get_or-append_right (take i ks) (drop (suc i) ks) i j d (omega arith) f ∙ get_or-drop (suc i) ks (j - i) d ∙ ap (λ z. get_or ks z d) (let z : suc i + (j - i) ≡ suc j = omega arith in z)))
    (cases_lt j i)

pub quiet-removed : (ks : List Kept) (i : ℕ) (t : Option ℕ) → i < length ks → ((j : ℕ) (d : Kept) → j < length ks → (j ≡ i → ⊥) → requests limits (bare (get_or ks j d)) ≡ []) → QuietBut t (remove ks i)
unfolding QuietBut
quiet-removed ks i t l q j d h n = let m = removed-at ks i j d l h in ap (λ z. requests limits (bare z)) m.3 ∙ q m.0 d m.1 m.2

pub length_removed : (ks : List Kept) (i : ℕ) → i < length ks → length (remove ks i) + 1 ≡ length ks
length_removed ks i l = let lt = length-take i ks in let ld = length-drop (suc i) ks in let la = length-append (take i ks) (drop (suc i) ks) in omega arith

-- the value after an event, beside what the model's client then is and sends
abbrev pub After : View → Did Client ToServer → Type 0
After v x = StandsFor v x.side × (owed_by v ≡ x.sends)

pub owed-down : (v : View) → v.up ≡ false → owed_by v ≡ []
unfolding owed_by
owed-down v u = cond-false v.up _ _ u

-- the event changes one channel, and the client is up
module _ (v : View) (w : Client) (s : StandsFor v w) (b : busy v ≡ false) (u : v.up ≡ true) (i : ℕ) (d : Kept) (l : i < length v.kepts) where
  abbrev k : Kept
  k = get_or v.kepts i d

  abbrev o : Focus v.kepts s.all i (get_or v.kepts i d)
  o = focus s.stand i d l

  pub changed : (a : ℕ → ℕ → List ℕ → Bool) (m : ℕ → ℕ → Bool) (k' : Kept) (p : List ToServer) (f : ClientChannel → ClientChannel) → k'.number ≡ k.number → ((g' : List ℕ) × (t' : List ℕ) × (f (whole k o.command o.went o.taken) ≡ whole k' o.command g' t')) →
      After (view (set v.kepts i k') v.is_used v.next v.accepted v.up p (Some i)) (flush (real a m) (did (with_channels (change number_of k.number f w.channels) w) p))
  changed a m k' p f en q =
      let e = ap number_of q.2 ∙ en in
      let cs = change number_of k.number f s.all in
      let v' = view (set v.kepts i k') v.is_used v.next v.accepted v.up p (Some i) in
      let st = o.keeps f k' q.0 q.1 en q.2 in
      subst (λ x. After v' (flush (real a m) (did (with_channels (change number_of k.number f x.channels) x) p))) (sym (settled v w s (idle v b).turn))
      (subst (After v') (sym (flush-up (real a m) cs v.accepted v.up p u)) (
        record {
          all = cs;
          stand = st;
          channels = sym (cond-true v.up (each flushed cs) cs u);
          accepted = refl;
          up = refl;
          used = λ n. s.used n ∙ ap (is_in n) (sym (o.numbered f e));
          least = λ n. ap (above n) (o.numbered f e) ∙ s.least n;
          quiet = λ y. quiet-set v.kepts i k' (λ j dd h m. all_quiet v w s (idle v b).turn u j dd h);
          down = λ y. never v.up u y;
        },
        owed-up v' cs u st,
      ))

  -- or it takes the channel out
  pub dropped : (a : ℕ → ℕ → List ℕ → Bool) (m : ℕ → ℕ → Bool) (f : ClientChannel → ClientChannel) → (((f (whole k o.command o.went o.taken)).number ≡ k.number) × (is_held (f (whole k o.command o.went o.taken)) ≡ false)) →
      After (view (remove v.kepts i) v.is_used v.next v.accepted v.up v.pending v.turn) (flush (real a m) (did (with_channels (change number_of k.number f w.channels) w) []))
  dropped a m f q =
      let cs = change number_of k.number f s.all in
      let v' = view (remove v.kepts i) v.is_used v.next v.accepted v.up v.pending v.turn in
      let st = o.drops f q.0 q.1 in
      subst (λ x. After v' (flush (real a m) (did (with_channels (change number_of k.number f x.channels) x) []))) (sym (settled v w s (idle v b).turn))
      (subst (After v') (sym (flush-up (real a m) cs v.accepted v.up [] u)) (
        record {
          all = cs;
          stand = st;
          channels = sym (cond-true v.up (each flushed cs) cs u);
          accepted = refl;
          up = refl;
          used = λ n. s.used n ∙ ap (is_in n) (sym (o.numbered f q.0));
          least = λ n. ap (above n) (o.numbered f q.0) ∙ s.least n;
          quiet = λ y. quiet-removed v.kepts i v.turn l (λ j dd h m. all_quiet v w s (idle v b).turn u j dd h);
          down = λ y. never v.up u y;
        },
        owed-up v' cs u st ∙ ap (λ x. x ++ gather (requests_of limits) cs) (idle v b).pending,
      ))

-- the client is down, and one channel is changed
module _ (v : View) (w : Client) (s : StandsFor v w) (b : busy v ≡ false) (u : v.up ≡ false) (i : ℕ) (d : Kept) (l : i < length v.kepts) where
  abbrev kd : Kept
  kd = get_or v.kepts i d

  abbrev od : Focus v.kepts s.all i (get_or v.kepts i d)
  od = focus s.stand i d l

  pub changed-down : (a : ℕ → ℕ → List ℕ → Bool) (m : ℕ → ℕ → Bool) (k' : Kept) (f : ClientChannel → ClientChannel) → k'.number ≡ kd.number → ((g' : List ℕ) × (t' : List ℕ) × (f (whole kd od.command od.went od.taken) ≡ whole k' od.command g' t')) →
      After (view (set v.kepts i k') v.is_used v.next v.accepted v.up v.pending v.turn) (flush (real a m) (did (with_channels (change number_of kd.number f w.channels) w) []))
  changed-down a m k' f en q =
      let e = ap number_of q.2 ∙ en in
      let cs = change number_of kd.number f s.all in
      let v' = view (set v.kepts i k') v.is_used v.next v.accepted v.up v.pending v.turn in
      subst (λ x. After v' (flush (real a m) (did (with_channels (change number_of kd.number f x.channels) x) []))) (sym (settled v w s (idle v b).turn))
      (subst (After v') (sym (flush-down (real a m) cs v.accepted v.up [] u)) (
        record {
          all = cs;
          stand = od.keeps f k' q.0 q.1 en q.2;
          channels = sym (cond-false v.up (each flushed cs) cs u);
          accepted = refl;
          up = refl;
          used = λ n. s.used n ∙ ap (is_in n) (sym (od.numbered f e));
          least = λ n. ap (above n) (od.numbered f e) ∙ s.least n;
          quiet = λ y. never v.up y u;
          down = λ y. ((idle v b).pending, (idle v b).turn);
        },
        owed-down v' u,
      ))

-- the event changes no channel
module _ (v : View) (w : Client) (s : StandsFor v w) (b : busy v ≡ false) where
  -- the login is sent, or its answer comes
  pub told : (a : ℕ → ℕ → List ℕ → Bool) (m : ℕ → ℕ → Bool) (p : List ToServer) (f : Bool → Bool) → v.up ≡ true →
      After (view v.kepts v.is_used v.next (f v.accepted) v.up p v.turn) (flush (real a m) (did (client w.channels (f w.accepted) w.up) p))
  told a m p f u =
      let z = settled v w s (idle v b).turn in
      let v' = view v.kepts v.is_used v.next (f v.accepted) v.up p v.turn in
      subst (λ y. After v' (flush (real a m) (did (client y.channels (f y.accepted) y.up) p))) (sym z)
      (subst (After v') (sym (flush-up (real a m) s.all (f v.accepted) v.up p u)) (
        record {
          all = s.all;
          stand = s.stand;
          channels = sym (cond-true v.up (each flushed s.all) s.all u);
          accepted = refl;
          up = refl;
          used = s.used;
          least = s.least;
          quiet = s.quiet;
          down = λ y. never v.up u y;
        },
        owed-up v' s.all u s.stand,
      ))

  -- nothing comes of it
  pub nothing : (a : ℕ → ℕ → List ℕ → Bool) (m : ℕ → ℕ → Bool) → v.up ≡ true → flush (real a m) (did w []) ≡ did w []
  nothing a m u =
      let z = settled v w s (idle v b).turn in
      let q = all_quiet v w s (idle v b).turn u in
      let e = each-quiet s.stand q in
      let g = gather-stand s.stand ∙ gather_none v.kepts q in
      subst (λ x. flush (real a m) (did x []) ≡ did x []) (sym z)
      (flush-up (real a m) s.all v.accepted v.up [] u ∙ (λ i. did (client (e i) v.accepted v.up) (g i)))

  -- the connection is down
  pub downed : StandsFor (view v.kepts v.is_used v.next v.accepted false v.pending v.turn) (client w.channels w.accepted false)
  downed =
      let z = settled v w s (idle v b).turn in
      subst (λ x. StandsFor (view v.kepts v.is_used v.next v.accepted false v.pending v.turn) (client x.channels x.accepted false)) (sym z)
      (record {
        all = s.all;
        stand = s.stand;
        channels = refl;
        accepted = refl;
        up = refl;
        used = s.used;
        least = s.least;
        quiet = λ y. never false y refl;
        down = λ y. ((idle v b).pending, (idle v b).turn);
      })

  -- a channel starts
  pub started : (a : ℕ → ℕ → List ℕ → Bool) (m : ℕ → ℕ → Bool) (t c : ℕ) (p : List ToServer) (us : ℕ → Bool) → ((n : ℕ) → us n ≡ cond (eqb n t) true (v.is_used n)) → v.up ≡ true → v.next ≤ t →
      After (view (v.kepts ++ fresh t ∷ []) us (t + 1) v.accepted v.up p v.turn) (flush (real a m) (did (with_channels (w.channels ++ new_channel t c ∷ []) w) p))
  unfolding QuietBut
  started a m t c p us f u h =
      let z = settled v w s (idle v b).turn in
      let v' = view (v.kepts ++ fresh t ∷ []) us (t + 1) v.accepted v.up p v.turn in
      let cs = s.all ++ new_channel t c ∷ [] in
      let st = push-stand s.stand t c (s.least t ∙ le-leb v.next t h) in
      subst (λ y. After v' (flush (real a m) (did (with_channels (y.channels ++ new_channel t c ∷ []) y) p))) (sym z)
      (subst (After v') (sym (flush-up (real a m) cs v.accepted v.up p u)) (
        record {
          all = cs;
          stand = st;
          channels = sym (cond-true v.up (each flushed cs) cs u);
          accepted = refl;
          up = refl;
          used = λ n. marked n ∙ sym (is_in-push n s.all (new_channel t c));
          least = λ n. above-push n s.all (new_channel t c) ∙ ap (λ y. y && ltb t n) (s.least n) ∙ least_more n;
          quiet = λ y. quiet-push;
          down = λ y. never v.up u y;
        },
        owed-up v' cs u st,
      ))
    where
      marked : (n : ℕ) → us n ≡ (is_in n (numbers number_of s.all) || eqb t n)
      marked n =
          f n
          ∙ ⊎_elim
          (λ e. cond-true (eqb n t) true (v.is_used n) (eq-eqb n t e) ∙ sym (or_right (is_in n (numbers number_of s.all)) (eqb t n) (eq-eqb t n (sym e))))
          (λ e. cond-false (eqb n t) true (v.is_used n) (ne_eqb n t e) ∙ s.used n ∙ sym (or-false (is_in n (numbers number_of s.all)) (eqb t n) (ne_eqb t n (λ q. e (sym q)))))
          (cases_eq n t)

      least_more : (n : ℕ) → (leb v.next n && ltb t n) ≡ leb (t + 1) n
      least_more n = grind (arith, nat_tests)

      quiet-push : QuietBut v.turn (v.kepts ++ fresh t ∷ [])
      quiet-push j d f g =
          let lp = length_push v.kepts (fresh t) in
          ⊎_elim
          (λ e. ap (λ y. requests limits (bare y)) (get_or_append_left v.kepts (fresh t ∷ []) d j e) ∙ all_quiet v w s (idle v b).turn u j d e)
          (λ e. ap (λ y. requests limits (bare y)) (get_or_push v.kepts (fresh t) d j (omega arith)))
          (cases_lt j (length v.kepts))
