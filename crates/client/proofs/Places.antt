-- Where a channel is held, and what is held when one is changed there.
use Rattle.std.proofs.Common.{◌≡◌, ℕ, ◌<◌, ◌≤◌, Bool, false, eqb, suc, List, [], ◌∷◌, ◌++◌, map, length, take, drop, get_or, set, Some, None, Option, Result, MatchResult, vec_len, sym, refl, ap, ◌∙◌, subst, ⊎_elim, arith}
use Rattle.std.specs.List.{position, position_or_len, remove}
use Rattle.std.specs.Option.{ok_or}
use Rattle.std.proofs.lemmas.List.{length-map, map-append, take-map, drop-map, get_or-map, map-set, set-get_or}
use Rattle.std.proofs.lemmas.List.Sums.{fails_before_first}
use Rattle.std.proofs.lemmas.List.Quantifiers.{position-Some}
use Rattle.std.proofs.lemmas.Bool.{cases_lt, cond-true, lt-ltb, eqb-true, eq-eqb}
use Rattle.client_channel.specs.Kept.{Bytes, Kept, no_bytes, fresh}
use Rattle.client_channel.specs.declared.state.Phase.TheVariants.{Asked}
use Rattle.client_channel.specs.declared.held.Held.{Held}
use Rattle.held.specs.declared.Table.{Table}
use Rattle.client_channel.specs.Held.{kept_of}
use Rattle.client.specs.Kepts.{kepts_of}
use Rattle.client.specs.declared.refusal.Refusal.{Refusal}
use Rattle.client.specs.declared.refusal.Refusal.TheVariants.{NotHeld}
use Rattle.client.specs.Checks.{IsAt, IsNowhere}
use Rattle.client.proofs.Moves.{never}

none_passes : {X : Type 0} (p : X → Bool) (xs : List X) → position p xs ≡ None → (k : ℕ) (d : X) → k < length xs → p (get_or xs k d) ≡ false
none_passes p xs e k d l =
    fails_before_first p xs k d
    (⊎_elim (λ h. let z : Some (position_or_len p xs) ≡ None = sym (cond-true _ _ _ (lt-ltb _ _ h)) ∙ e in cc) (λ h. omega arith) (cases_lt (position_or_len p xs) (length xs)))

-- a channel of number 0
blank : Held
blank = record { channel = record { number = 0; phase = Asked; credit = 0; eof = false; said = false; exit = None }; buffers = no_bytes }

-- one goes, and one comes
pub kepts-forgotten : (i : ℕ) (xs ys : List Held) → ys ≡ remove xs i → map kept_of ys ≡ remove (map kept_of xs) i
kepts-forgotten i xs ys e = ap (map kept_of) e ∙ map-append kept_of (take i xs) (drop (suc i) xs) ∙ (λ j. sym (take-map kept_of i xs) j ++ sym (drop-map kept_of (suc i) xs) j)

pub kepts-started : (t u : Table Held Bytes) (h : Held) (n : ℕ) → kept_of h ≡ fresh n → u.held.items ≡ t.held.items ++ h ∷ [] → kepts_of u ≡ kepts_of t ++ fresh n ∷ []
kepts-started t u h n k e = ap (map kept_of) e ∙ map-append kept_of t.held.items (h ∷ []) ∙ ap (λ z. kepts_of t ++ z ∷ []) k

module _ (t : Table Held Bytes) where
  pub length-kepts : length (kepts_of t) ≡ vec_len t.held
  length-kepts = length-map t.held.items kept_of ∙ sym t.held.ok.0

  pub length_most : length (kepts_of t) ≤ 16
  length_most = let e = length-kepts in let r = t.room.2 in omega arith

  among : (i : ℕ) → i < length (kepts_of t) → i < length t.held.items
  among i l = let e = length-map t.held.items kept_of in omega arith

  pub kept-at : (i : ℕ) (r : Held) → i < length (kepts_of t) → r ≡ get_or t.held.items i r → get_or (kepts_of t) i (fresh 0) ≡ kept_of r
  kept-at i r l e = get_or-map kept_of t.held.items i r (fresh 0) (among i l) ∙ ap kept_of (sym e)

  -- one is changed
  pub set-at : (i : ℕ) (r w : Held) (f : Kept → Kept) → i < length (kepts_of t) → r ≡ get_or t.held.items i r → kept_of w ≡ f (kept_of r) → map kept_of (set t.held.items i w) ≡ set (kepts_of t) i (f (get_or (kepts_of t) i (fresh 0)))
  set-at i r w f l e h = map-set kept_of t.held.items i w ∙ ap (set (kepts_of t) i) (h ∙ ap f (sym (kept-at i r l e)))

  -- or stays
  pub unset : (i : ℕ) (r w : Held) → i < length (kepts_of t) → r ≡ get_or t.held.items i r → kept_of w ≡ kept_of r → map kept_of (set t.held.items i w) ≡ kepts_of t
  unset i r w l e h = set-at i r w (λ k. k) l e h ∙ set-get_or (kepts_of t) i (fresh 0)

  module _ (n : ℕ) where
    abbrev has_number : Held → Bool
    has_number h = eqb h.channel.number n

    pub place : (i : ℕ) → position has_number t.held.items ≡ Some i → IsAt n (kepts_of t) i
    place i e =
        let p = position-Some has_number t.held.items i blank e in
        let l : i < length (kepts_of t) = (let m = length-map t.held.items kept_of in omega arith) in
        record { within = l; number = ap (λ (k : Kept). k.number) (get_or-map kept_of t.held.items i blank (fresh 0) p.0) ∙ eqb-true _ _ p.1 }

    pub not_there : position has_number t.held.items ≡ None → IsNowhere n (kepts_of t)
    not_there e i d l q =
        let f = none_passes has_number t.held.items e i blank (among i l) in
        never _ (eq-eqb _ _ (ap (λ (k : Kept). k.number) (sym (get_or-map kept_of t.held.items i blank d (among i l))) ∙ q)) f

    -- it is found, or is not held
    pub placed : (r : Result ℕ Refusal) → r ≡ ok_or (position has_number t.held.items) NotHeld → MatchResult r (IsAt n (kepts_of t)) (λ f. (f ≡ NotHeld) × IsNowhere n (kepts_of t))
    placed r e = subst (λ q. MatchResult q (IsAt n (kepts_of t)) (λ f. (f ≡ NotHeld) × IsNowhere n (kepts_of t))) (sym e) (go (position has_number t.held.items) refl)
      where
        go : (o : Option ℕ) → position has_number t.held.items ≡ o → MatchResult (ok_or o NotHeld) (IsAt n (kepts_of t)) (λ f. (f ≡ NotHeld) × IsNowhere n (kepts_of t))
        go None q = (refl, not_there q)
        go (Some i) q = place i q
