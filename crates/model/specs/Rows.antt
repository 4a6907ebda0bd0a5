-- Programs that are rows of actions, one a turn; a row that comes to its end begins again. Assumes nothing.
use Rattle.std.specs.Prelude.{ℕ, Bool, false, cond, ◌||◌, ◌⊎◌, List, [], ◌∷◌, ◌++◌}
use Rattle.std.proofs.Common.{inl, inr}
use Rattle.model.specs.Messages.{Does, GoesOn, Programs}

-- row: all its actions; left: from the next one on; got: all that it read; told: whether it was told that no more will come
pub record Playing : Type 0 where
  pub row : List Does
  pub left : List Does
  pub got : List ℕ
  pub told : Bool

abbrev pub action : List Does → Does
action [] = GoesOn
action (a ∷ rest) = a

abbrev pub onward : List Does → List Does → List Does
onward row [] = row
onward row (a ∷ []) = row
onward row (a ∷ (b ∷ bs)) = b ∷ bs

-- the programs of a table of commands; they leave the environment as it is
abbrev pub rows : {E : Type 0} → (ℕ → List Does) → Programs Playing E
rows table = record {
  first = λ e k. record { row = table k; left = table k; got = []; told = false };
  does = λ e s. action s.left;
  next = λ e s bs eof. record { row = s.row; left = onward s.row s.left; got = s.got ++ bs; told = s.told || eof };
  after = λ e s bs eof. e;
  release = λ e s. e;
}

-- Programs beside others over one environment: those commands that pass a test are of the second kind.
module _ {S T E : Type 0} (p : Programs S E) (q : Programs T E) where
  abbrev pub does_either : E → S ⊎ T → Does
  does_either e (inl s) = p.does e s
  does_either e (inr t) = q.does e t

  abbrev pub next_either : E → S ⊎ T → List ℕ → Bool → S ⊎ T
  next_either e (inl s) bs eof = inl (p.next e s bs eof)
  next_either e (inr t) bs eof = inr (q.next e t bs eof)

  abbrev pub after_either : E → S ⊎ T → List ℕ → Bool → E
  after_either e (inl s) bs eof = p.after e s bs eof
  after_either e (inr t) bs eof = q.after e t bs eof

  abbrev pub release_either : E → S ⊎ T → E
  release_either e (inl s) = p.release e s
  release_either e (inr t) = q.release e t

  abbrev pub beside : (ℕ → Bool) → Programs (S ⊎ T) E
  beside second = record {
    first = λ e k. cond (second k) (inr (q.first e k)) (inl (p.first e k));
    does = does_either;
    next = next_either;
    after = after_either;
    release = release_either;
  }
