-- The first channel of which something goes hands it out.
use Rattle.std.proofs.Common.{◌≡◌, ℕ, zero, suc, ◌<◌, true, cond, List, [], ◌∷◌, ◌++◌, map, length, get_or, set, None, sym, refl, ap, ◌∙◌, arith}
use Rattle.std.proofs.lemmas.List.{map-set, set-get_or}
use Rattle.std.proofs.lemmas.Bool.{cond-true, and_parts}
use Rattle.model.specs.Keyed.{gather}
use Rattle.std.specs.List.{list_all}
use Rattle.model.specs.Messages as model
use Rattle.model.specs.Server.{returned}
use Rattle.server_channel.specs.declared.Channel.{Channel}
use Rattle.server_channel.specs.Kept.{quiet, due, settled}
use Rattle.server_channel.proofs.Quiet.{quiet-due}
use Rattle.desk.specs.View.{View, view, tells, due_of, number_in, owed_by, flushed}

module _ {S : Type 0} where
  settled-number : (k : Channel S) → number_in (settled k) ≡ number_in k
  unfolding settled
  settled-number k = refl

  gathers : (ks : List (Channel S)) (i : ℕ) (k l : Channel S) (m : model.Reply) → i < length ks → ((j : ℕ) (d : Channel S) → j < i → quiet (get_or ks j d) ≡ true) → k ≡ get_or ks i k →
      due k ≡ m ∷ due l → number_in l ≡ number_in k → gather due_of ks ≡ model.Of (number_in k) m ∷ gather due_of (set ks i l)
  unfolding gather returned
  gathers [] i k l m b q e d n = absurd (omega arith)
  gathers (x ∷ ks) zero k l m b q e d n =
      (λ j. returned (number_in (sym e j)) (due (sym e j)) ++ gather due_of ks) ∙ (ap (λ ms. returned (number_in k) ms ++ gather due_of ks) d ∙ ap (λ t. model.Of (number_in k) m ∷ (returned t (due l) ++ gather due_of ks)) (sym n))
  gathers (x ∷ ks) (suc i) k l m b q e d n =
      let y : returned (number_in x) (due x) ≡ [] = ap (returned (number_in x)) (quiet-due x (q 0 x (omega arith))) in
      let z = gathers ks i k l m (omega arith) (λ j c h. q (suc j) c (omega arith)) e d n in
      (λ j. y j ++ z j) ∙ ap (λ ms. model.Of (number_in k) m ∷ (ms ++ gather due_of (set ks i l))) (sym y)

  set_same : (ks : List (Channel S)) (i : ℕ) (k : Channel S) → k ≡ get_or ks i k → set ks i k ≡ ks
  set_same ks i k e = ap (set ks i) e ∙ set-get_or ks i k

  pub settles : (ks : List (Channel S)) (i : ℕ) (k l : Channel S) → k ≡ get_or ks i k → settled k ≡ settled l → map settled ks ≡ map settled (set ks i l)
  settles ks i k l e s = sym (ap (map settled) (set_same ks i k e)) ∙ (map-set settled ks i k ∙ (ap (set (map settled ks) i) s ∙ sym (map-set settled ks i l)))

  pub hands-one : (v : View S) (i : ℕ) (k l : Channel S) (m : model.Reply) → v.up ≡ true → v.told ≡ None → i < length v.channels → ((j : ℕ) (d : Channel S) → j < i → quiet (get_or v.channels j d) ≡ true) → k ≡ get_or v.channels i k →
      due k ≡ m ∷ due l → settled k ≡ settled l →
      (owed_by v ≡ model.Of (number_in k) m ∷ owed_by (view (set v.channels i l) v.next v.is_used v.user v.tries v.up v.told)) ×
      (flushed v ≡ flushed (view (set v.channels i l) v.next v.is_used v.user v.tries v.up v.told))
  hands-one v i k l m u t b q e d s =
      let n : number_in l ≡ number_in k = sym (settled-number l) ∙ (sym (ap number_in s) ∙ settled-number k) in
      let w : List (Channel S) = set v.channels i l in (
        (λ j. tells (t j) ++ cond (u j) (gather due_of v.channels) []) ∙ (gathers v.channels i k l m b q e d n ∙ (λ j. model.Of (number_in k) m ∷ (tells (sym t j) ++ cond (sym u j) (gather due_of w) []))),
        λ j. view (here j) v.next v.is_used v.user v.tries v.up None,
      )
    where
      here : cond v.up (map settled v.channels) v.channels ≡ cond v.up (map settled (set v.channels i l)) (set v.channels i l)
      here = cond-true v.up _ _ u ∙ (settles v.channels i k l e s ∙ sym (cond-true v.up _ _ u))

  pub all-due : (ks : List (Channel S)) → list_all quiet ks ≡ true → gather due_of ks ≡ []
  unfolding gather returned
  all-due [] h = refl
  all-due (k ∷ ks) h = let x = and_parts (quiet k) (list_all quiet ks) h in λ i. returned (number_in k) (quiet-due k x.0 i) ++ all-due ks x.1 i

  pub hands_none : (v : View S) → v.up ≡ true → v.told ≡ None → list_all quiet v.channels ≡ true → owed_by v ≡ []
  hands_none v u t q = λ j. tells (t j) ++ (cond-true v.up (gather due_of v.channels) [] u ∙ all-due v.channels q) j
