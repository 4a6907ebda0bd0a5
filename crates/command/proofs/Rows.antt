-- A row of actions, one action on.
use Rattle.std.proofs.Common.{◌≡◌, ℕ, ◌<◌, ◌≤◌, true, false, leb, ◌⊎◌, List, [], ◌∷◌, ◌++◌, length, Some, None, Option, sym, refl, ap, ◌∙◌, inl, inr, append_assoc, append-nil, arith}
use Rattle.std.specs.Option.{option_map}
use Rattle.std.proofs.lemmas.Bool.{cond-true, cond-false, and_left, and_right, and_from, le-leb, lt-leb}
use Rattle.command.specs.Orders.{Step, go}
use Rattle.command.specs.Programs.{limited, action_of, ahead, is_go, steps_of}

abbrev pub led : List Step → Option (List Step) → Option (List Step)
led done o = option_map (λ ss. done ++ ss) o

led-ahead : (done : List Step) (s : Step) (o : Option (List Step)) → led done (ahead (Some s) o) ≡ led (done ++ s ∷ []) o
led-ahead done s None = refl
led-ahead done s (Some ss) = ap Some (sym (append_assoc done (s ∷ []) ss))

pub steps-go : (w : List ℕ) (ws : List (List ℕ)) → is_go w ≡ true → steps_of (w ∷ ws) ≡ ahead (Some go) (steps_of ws)
unfolding steps_of
steps-go w [] e = cond-true _ _ _ e
steps-go w (x ∷ ws) e = cond-true _ _ _ e

pub steps-two : (w x : List ℕ) (ws : List (List ℕ)) → is_go w ≡ false → steps_of (w ∷ x ∷ ws) ≡ ahead (action_of w x) (steps_of ws)
unfolding steps_of
steps-two w x ws e = cond-false _ _ _ e

steps-odd : (w : List ℕ) → is_go w ≡ false → steps_of (w ∷ []) ≡ None
unfolding steps_of
steps-odd w e = cond-false _ _ _ e

-- what the words done say, and those that are left
abbrev pub Acted : List (List ℕ) → List Step → List (List ℕ) → Type 0
Acted ws done rest = led done (steps_of rest) ≡ steps_of ws

module _ (ws : List (List ℕ)) (done : List Step) (w : List ℕ) where
  pub acted-go : (more : List (List ℕ)) → Acted ws done (w ∷ more) → is_go w ≡ true → Acted ws (done ++ go ∷ []) more
  acted-go more so e = sym (led-ahead done go (steps_of more)) ∙ ap (led done) (sym (steps-go _ _ e)) ∙ so

  pub acted-odd : Acted ws done (w ∷ []) → is_go w ≡ false → steps_of ws ≡ None
  acted-odd so e = sym so ∙ ap (led done) (steps-odd _ e)

  module _ (x : List ℕ) (more : List (List ℕ)) (so : Acted ws done (w ∷ x ∷ more)) (e : is_go w ≡ false) where
    pub acted-bad : action_of w x ≡ None → steps_of ws ≡ None
    acted-bad a = sym so ∙ ap (led done) (steps-two _ _ _ e ∙ ap (λ o. ahead o (steps_of more)) a)

    pub acted-two : (s : Step) → action_of w x ≡ Some s → Acted ws (done ++ s ∷ []) more
    acted-two s a = sym (led-ahead done s (steps_of more)) ∙ ap (led done) (sym (steps-two _ _ _ e ∙ ap (λ o. ahead o (steps_of more)) a)) ∙ so

pub acted-all : (ws : List (List ℕ)) (done : List Step) → Acted ws done [] → steps_of ws ≡ Some done
unfolding steps_of
acted-all ws done so = sym so ∙ ap Some (append-nil done)

pub limit-out : (ss : List Step) → (length ss ≡ 0) ⊎ (64 < length ss) → limited (Some ss) ≡ None
limit-out ss (inl e) = cond-false _ _ _ (and_left (leb 1 (length ss)) (leb (length ss) 64) (lt-leb 1 (length ss) (omega arith)))
limit-out ss (inr h) = cond-false _ _ _ (and_right (leb 1 (length ss)) (leb (length ss) 64) (lt-leb (length ss) 64 h))

pub limit-in : (ss : List Step) → (length ss ≡ 0 → ⊥) → length ss ≤ 64 → limited (Some ss) ≡ Some ss
limit-in ss e h = cond-true _ _ _ (and_from _ _ (le-leb 1 (length ss) (omega arith)) (le-leb (length ss) 64 h))
