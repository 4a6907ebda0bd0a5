-- The next message: what is pending, then what the one channel sends that may have something to send.
use Rattle.std.proofs.Common.{◌≡◌, ℕ, ◌<◌, Bool, true, false, cond, List, [], ◌∷◌, ◌++◌, map, length, get_or, set, Some, None, sym, refl, ap, ◌∙◌, subst, ⊎_elim, arith}
use Rattle.std.specs.List.{remove}
use Rattle.std.proofs.lemmas.List.{length-set, get_or-set_same, get_or-set_other, get_or_default}
use Rattle.std.proofs.lemmas.Bool.{cases_Bool, cases_eq, cond-true}
use Rattle.model.specs.Keyed.{change, is_in, above, gather, each}
use Rattle.model.specs.Messages.{Request, Close, ToServer, For}
use Rattle.model.specs.Client.{ClientChannel, Client, number_of, requests, requests_of, flushed, flushed_running, runs, labelled}
use Rattle.client_channel.specs.Kept.{Kept}
use Rattle.client.specs.View.{View}
use Rattle.client.specs.Stand.{whole, limits, bare, QuietBut, StandsFor, owed_by}
use Rattle.client.proofs.Bare.{requests_k}
use Rattle.client.proofs.Next.{Sent, Closing}
use Rattle.client.proofs.Standing.{bare-requests, past-flushed, Focus, focus}
use Rattle.client.proofs.Moves.{view, removed-at, gather-one, gather_none, sends_of, never, quiet-set, quiet-removed}

labelled-cons : (t : ℕ) (q : Request) (qs : List Request) → labelled t (q ∷ qs) ≡ For t q ∷ labelled t qs
unfolding labelled
labelled-cons t q qs = refl

labelled-nil : (t : ℕ) → labelled t [] ≡ []
unfolding labelled
labelled-nil t = refl

flushed-number : (y : ClientChannel) → (flushed y).number ≡ y.number
flushed-number y = go (runs y.phase)
  where
    go : (b : Bool) → (cond b (flushed_running y) y).number ≡ y.number
    go true = refl
    go false = refl

-- what a command itself sends goes first
module _ (v : View) (w : Client) (s : StandsFor v w) (m : ToServer) (e : v.pending ≡ m ∷ []) where
  pending-up : v.up ≡ true
  pending-up = ⊎_elim (λ u. u) (λ u. let p = (s.down u).0 in cc) (cases_Bool v.up)

  pub pending-out : StandsFor (view v.kepts v.is_used v.next v.accepted v.up [] v.turn) w
  pending-out =
      record { all = s.all; stand = s.stand; channels = s.channels; accepted = s.accepted; up = s.up; used = s.used; least = s.least; quiet = s.quiet; down = λ u. never v.up pending-up u }

  pub pending-first : owed_by v ≡ m ∷ owed_by (view v.kepts v.is_used v.next v.accepted v.up [] v.turn)
  unfolding owed_by
  pending-first =
      let u = pending-up in
      cond-true v.up _ _ u ∙ ap (λ z. z ++ gather (requests_of limits) (map bare v.kepts)) e ∙ ap (λ z. m ∷ z) (sym (cond-true v.up _ _ u))

-- the rest comes from one channel
module _ (v : View) (w : Client) (s : StandsFor v w) (e : v.pending ≡ []) (i : ℕ) (t : v.turn ≡ Some i) (d : Kept) (l : i < length v.kepts) where
  abbrev kt : Kept
  kt = get_or v.kepts i d

  turn_up : v.up ≡ true
  turn_up = ⊎_elim (λ u. u) (λ u. let p = (s.down u).1 in cc) (cases_Bool v.up)

  others : (j : ℕ) (z : Kept) → j < length v.kepts → (j ≡ i → ⊥) → requests limits (bare (get_or v.kepts j z)) ≡ []
  unfolding QuietBut
  others j z h n = s.quiet turn_up j z h (λ q. n (let r : Some j ≡ Some i = sym q ∙ t in cc))

  owed-turn : owed_by v ≡ labelled kt.number (requests_k kt)
  unfolding owed_by
  owed-turn =
      cond-true v.up _ _ turn_up ∙ ap (λ z. z ++ gather (requests_of limits) (map bare v.kepts)) e ∙ gather-one v.kepts i d l others ∙ ap (labelled kt.number) (bare-requests kt)

  abbrev ot : Focus v.kepts s.all i kt
  ot = focus s.stand i d l

  -- it sends, and is still held
  module _ (k' : Kept) (q : Request) (f : Sent kt k' q) where
    abbrev vs : View
    vs = view (set v.kepts i k') v.is_used v.next v.accepted v.up [] v.turn

    pub sent-out : StandsFor vs w
    sent-out =
        let g = f.flush ot.command ot.went ot.taken in
        let fn : ClientChannel → ClientChannel = λ _. whole k' ot.command g.0 ot.taken in
        let cs = change number_of kt.number fn s.all in
        let nm = ot.numbered fn f.number in
        record {
          all = cs;
          stand = ot.keeps fn k' g.0 ot.taken f.number refl;
          channels = s.channels ∙ cond-true v.up _ _ turn_up ∙ sym (ot.flushes fn (sym g.1)) ∙ sym (cond-true v.up (each flushed cs) cs turn_up);
          accepted = s.accepted;
          up = s.up;
          used = λ n. s.used n ∙ ap (is_in n) (sym nm);
          least = λ n. ap (above n) nm ∙ s.least n;
          quiet = λ y. subst (λ o. QuietBut o (set v.kepts i k')) (sym t) (quiet-set v.kepts i k' others);
          down = λ y. never v.up turn_up y;
        }

    pub sent-first : owed_by v ≡ For kt.number q ∷ owed_by vs
    unfolding owed_by
    sent-first =
        let ls = length-set v.kepts i k' in
        let same = get_or-set_same v.kepts i k' d l in
        let rest : owed_by vs ≡ labelled k'.number (requests_k k') =
        cond-true v.up _ _ turn_up
        ∙ gather-one (set v.kepts i k') i d (omega arith) (λ j z h n. ap (λ y. requests limits (bare y)) (get_or-set_other v.kepts i j k' z n) ∙ others j z (omega arith) n)
        ∙ ap sends_of same ∙ ap (labelled k'.number) (bare-requests k') in
        owed-turn ∙ ap (labelled kt.number) f.sends ∙ labelled-cons kt.number q (requests_k k') ∙ ap (λ z. For kt.number q ∷ z) (ap (λ j. labelled j (requests_k k')) (sym f.number) ∙ sym rest)

  -- it closes
  module _ (k' : Kept) (f : Closing kt k') where
    abbrev vc : View
    vc = view (remove v.kepts i) v.is_used v.next v.accepted v.up [] None

    pub closed-out : StandsFor vc w
    closed-out =
        let x = whole kt ot.command ot.went ot.taken in
        let fn : ClientChannel → ClientChannel = λ _. flushed x in
        let cs = change number_of kt.number fn s.all in
        let nn : (flushed x).number ≡ kt.number = flushed-number x in
        let nm = ot.numbered fn nn in
        let nh = f.over ot.command ot.went ot.taken in
        record {
          all = cs;
          stand = ot.drops fn nn nh;
          channels = s.channels ∙ cond-true v.up _ _ turn_up ∙ sym (ot.flushes fn (past-flushed (flushed x) nh)) ∙ sym (cond-true v.up (each flushed cs) cs turn_up);
          accepted = s.accepted;
          up = s.up;
          used = λ n. s.used n ∙ ap (is_in n) (sym nm);
          least = λ n. ap (above n) nm ∙ s.least n;
          quiet = λ y. quiet-removed v.kepts i None l others;
          down = λ y. never v.up turn_up y;
        }

    pub closed-first : owed_by v ≡ For kt.number Close ∷ owed_by vc
    unfolding owed_by
    closed-first =
        let rest : owed_by vc ≡ [] = cond-true v.up _ _ turn_up ∙ gather_none (remove v.kepts i) (λ j z y. let m = removed-at v.kepts i j z l y in ap (λ (y : Kept). requests limits (bare y)) m.3 ∙ others m.0 z m.1 m.2) in
        owed-turn ∙ ap (labelled kt.number) f.sends ∙ labelled-cons kt.number Close [] ∙ ap (λ z. For kt.number Close ∷ z) (labelled-nil kt.number ∙ sym rest)

  -- it has nothing to send
  module _ (f : requests_k kt ≡ []) where
    pub rest-none : owed_by v ≡ []
    rest-none = owed-turn ∙ ap (labelled kt.number) f ∙ labelled-nil kt.number

    pub rest_out : StandsFor (view v.kepts v.is_used v.next v.accepted v.up v.pending None) w
    unfolding QuietBut
    rest_out =
        record {
          all = s.all;
          stand = s.stand;
          channels = s.channels;
          accepted = s.accepted;
          up = s.up;
          used = s.used;
          least = s.least;
          quiet = λ y j z h n. ⊎_elim (λ q. ap (λ a. requests limits (bare (get_or v.kepts a z))) q ∙ ap (λ a. requests limits (bare a)) (get_or_default v.kepts i z d l) ∙ bare-requests kt ∙ f) (λ q. others j z h q) (cases_eq j i);
          down = λ y. never v.up turn_up y;
        }
