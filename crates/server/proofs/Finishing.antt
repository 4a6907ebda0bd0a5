-- Once the model has done what was done to the view, what goes by itself is what the view owes.
use Rattle.std.proofs.Common.{◌≡◌, ℕ, zero, suc, ◌<◌, Bool, true, false, cond, not, ◌||◌, List, [], ◌∷◌, ◌++◌, map, length, get_or, Some, None, Option, sym, refl, ap, ◌∙◌, subst, ⊎_elim, arith}
use Rattle.std.proofs.lemmas.List.{append-nil}
use Rattle.std.proofs.lemmas.Bool.{and_parts, and_cases}
use Rattle.std.specs.List.{list_all}
use Rattle.model.specs.Keyed.{gather, each, every}
use Rattle.model.specs.Messages.{Reply, ToClient, Did, did, real}
use Rattle.model.specs.Server.{Server, ServerChannel, server, flush_back, returned, is_over, forgot, sent_back, with_all}
use Rattle.server_channel.specs.declared.Channel.{Channel}
use Rattle.server_channel.specs.Kept.{due, settled, quiet, goes}
use Rattle.server_channel.proofs.Quiet.{quiet-settled, quiet-goes, loud-due}
use Rattle.desk.specs.View as seen
use Rattle.desk.specs.declared.Notice.{Notice}
use Rattle.desk.specs.declared.Notice.TheVariants.{Logged, Refused, Started, Freed}
use Rattle.desk.specs.View.{View, tells, due_of, owed_by, flushed, closed, has_ended, number_in}
use Rattle.desk.proofs.Handing.{all-due}
use Rattle.server.specs.Stands.{Stand, Fits, Used, StandsFor, Follows, Meets}
use Rattle.desk.specs.Quiet.{is_silent, silent}
use Rattle.server.proofs.Standing.{all-over, all-forgot}
use Rattle.server.proofs.Flushing.{gather-same, stand-flushed}

module _ {S E : Type 0} (a : ℕ → ℕ → List ℕ → Bool) (m : ℕ → ℕ → Bool) where
  finish : (up : Bool) (ks : List (Channel S)) (nx : ℕ) (h : ℕ → Bool) (us : Option ℕ) (tr : ℕ) (tl : Option Notice) (e : E) (xs : List (ServerChannel S)) (used : List ℕ) → Fits (seen.view ks nx h us tr up tl) xs used →
      Follows (flush_back (real a m) (did (server xs used us tr e up) (tells tl))) (closed (seen.view ks nx h us tr up tl)) e
  finish true ks nx h us tr tl e xs used f = record {
    stands = record { channels = each sent_back xs; used = used; fits = record { stand = stand-flushed a m f.stand; uses = f.uses }; same = refl };
    owes = ap (λ ms. tells tl ++ ms) (sym (gather-same a m f.stand));
  }
  finish false ks nx h us tr tl e xs used f = go (every is_over xs) (list_all has_ended ks) (all-over f.stand)
    where
      go : (b c : Bool) → b ≡ c → Follows (did (cond b (with_all (each forgot xs) (server xs used us tr e false)) (server xs used us tr e false)) (tells tl)) (seen.view (cond c [] ks) nx h us tr false tl) e
      go true true q = record { stands = record { channels = each forgot xs; used = used; fits = record { stand = all-forgot f.stand; uses = f.uses }; same = refl }; owes = append-nil (tells tl) }
      go true false q = absurd cc
      go false true q = absurd cc
      go false false q = record { stands = record { channels = xs; used = used; fits = record { stand = f.stand; uses = f.uses }; same = refl }; owes = append-nil (tells tl) }

  pub finished : (d : Did (Server S E) ToClient) (v : View S) (e : E) → Meets d v e → Follows (flush_back (real a m) d) (closed v) e
  finished d v e x = subst (λ y. Follows (flush_back (real a m) y) (closed v) e) (sym x.does) (finish v.up v.channels v.next v.is_used v.user v.tries v.told e x.channels x.used x.fits)

no_tells : (t : Option Notice) → is_silent t ≡ true → tells t ≡ []
no_tells None h = refl
no_tells (Some n) h = absurd cc

loud-tells : (t : Option Notice) → is_silent t ≡ false → tells t ≡ [] → ⊥
loud-tells None h e = cc
loud-tells (Some (Logged b)) h e = cc
loud-tells (Some (Refused t)) h e = cc
loud-tells (Some (Started t)) h e = cc
loud-tells (Some (Freed t n)) h e = cc

-- of two lists that make the empty one both are empty
empty_left : {X : Type 0} (xs ys : List X) → xs ++ ys ≡ [] → xs ≡ []
empty_left [] ys e = refl
empty_left (x ∷ xs) ys e = absurd cc

empty_right : {X : Type 0} (xs ys : List X) → xs ++ ys ≡ [] → ys ≡ []
empty_right [] ys e = e
empty_right (x ∷ xs) ys e = absurd cc

none-returned : (t : ℕ) (ms : List Reply) → returned t ms ≡ [] → ms ≡ []
unfolding returned
none-returned t [] e = refl
none-returned t (m ∷ ms) e = absurd cc

module _ {S : Type 0} where
  all_settled : (ks : List (Channel S)) → list_all quiet ks ≡ true → map settled ks ≡ ks
  all_settled [] h = refl
  all_settled (k ∷ ks) h = let x = and_parts (quiet k) (list_all quiet ks) h in λ i. quiet-settled k x.0 i ∷ all_settled ks x.1 i

  pub all_quiet : (ks : List (Channel S)) (d : Channel S) (i : ℕ) → list_all quiet ks ≡ true → i < length ks → quiet (get_or ks i d) ≡ true
  all_quiet [] d i h l = absurd (omega arith)
  all_quiet (k ∷ ks) d zero h l = (and_parts (quiet k) (list_all quiet ks) h).0
  all_quiet (k ∷ ks) d (suc i) h l = all_quiet ks d i (and_parts (quiet k) (list_all quiet ks) h).1 (omega arith)

  silent-settled : (up : Bool) (ks : List (Channel S)) → (not up || list_all quiet ks) ≡ true → cond up (map settled ks) ks ≡ ks
  silent-settled true ks h = all_settled ks h
  silent-settled false ks h = refl

  silent-due : (up : Bool) (ks : List (Channel S)) → (not up || list_all quiet ks) ≡ true → cond up (gather due_of ks) [] ≡ []
  silent-due true ks h = all-due ks h
  silent-due false ks h = refl

  -- a silent server owes nothing
  pub silent-owes : (v : View S) → silent v ≡ true → owed_by v ≡ []
  silent-owes v h = let x = and_parts (is_silent v.told) (not v.up || list_all quiet v.channels) h in λ i. no_tells v.told x.0 i ++ silent-due v.up v.channels x.1 i

  loud-all : (ks : List (Channel S)) → list_all quiet ks ≡ false → gather due_of ks ≡ [] → ⊥
  unfolding gather
  loud-all [] h e = cc
  loud-all (k ∷ ks) h e = ⊎_elim
      (λ q. loud-due k q (none-returned (number_in k) (due k) (empty_left (due_of k) (gather due_of ks) e)))
      (λ q. loud-all ks q (empty_right (due_of k) (gather due_of ks) e))
      (and_cases (quiet k) (list_all quiet ks) h)

  loud-due-all : (up : Bool) (ks : List (Channel S)) → (not up || list_all quiet ks) ≡ false → cond up (gather due_of ks) [] ≡ [] → ⊥
  loud-due-all true ks h e = loud-all ks h e
  loud-due-all false ks h e = cc

  -- any other owes something
  pub loud-owes : (v : View S) → silent v ≡ false → owed_by v ≡ [] → ⊥
  loud-owes v h e = ⊎_elim
      (λ q. loud-tells v.told q (empty_left (tells v.told) (cond v.up (gather due_of v.channels) []) e))
      (λ q. loud-due-all v.up v.channels q (empty_right (tells v.told) (cond v.up (gather due_of v.channels) []) e))
      (and_cases (is_silent v.told) (not v.up || list_all quiet v.channels) h)

  pub silent-quiet : (v : View S) (d : Channel S) (i : ℕ) → silent v ≡ true → i < length v.channels → v.up ≡ true → length (goes (get_or v.channels i d)) ≡ 0
  silent-quiet v d i h l u =
      let x = (and_parts (is_silent v.told) (not v.up || list_all quiet v.channels) h).1 in
      let y : list_all quiet v.channels ≡ true = ap (λ b. not b || list_all quiet v.channels) (sym u) ∙ x in
      quiet-goes (get_or v.channels i d) (all_quiet v.channels d i y l)

module _ {S E : Type 0} where
  -- a silent server stands as it is
  pub bare : (v : View S) (e : E) (s : Server S E) → silent v ≡ true → (x : StandsFor v e s) → Fits v x.channels x.used
  bare v e s h x =
      let y = (and_parts (is_silent v.told) (not v.up || list_all quiet v.channels) h).1 in
      record { stand = subst (λ ks. Stand v.up (Used v.next x.used) 0 ks x.channels) (silent-settled v.up v.channels y) x.fits.stand; uses = x.fits.uses }
