-- A cut at the first place of a mark.
use Rattle.std.proofs.Common.{◌≡◌, ℕ, ◌+◌, Bool, true, false, cond, eqb, List, [], ◌∷◌, ◌++◌, length, take, drop, Some, None, Option, sym, refl, ap, ◌∙◌, ap₂, append_assoc, append-nil, length-append}
use Rattle.std.specs.Option.{option_map}
use Rattle.std.specs.List.{position, position_from}
use Rattle.std.proofs.lemmas.Iterator.Adapters.{position_from-zero}
use Rattle.std.proofs.Math.Seq.{take-append_seam, drop-append-add}
use Rattle.token.specs.Words.{cut_at, after}

pub after-after : (a b : List ℕ) (o : Option (List ℕ × List ℕ)) → option_map (after a) (option_map (after b) o) ≡ option_map (after (a ++ b)) o
after-after a b None = refl
after-after a b (Some p) = ap (λ l. Some (l, p.1)) (sym (append_assoc a b p.0))

pub cut-none : (o : Option (List ℕ × List ℕ)) → option_map (after []) o ≡ o
cut-none None = refl
cut-none (Some p) = refl

-- what stands before and after a place
abbrev pub parted : List ℕ → ℕ → List ℕ × List ℕ
parted s i = (take i s, drop (i + 1) s)

cut-from : (mark : ℕ) (done s : List ℕ) → option_map (after done) (cut_at mark s) ≡ option_map (parted (done ++ s)) (position_from (λ b. eqb b mark) (length done) s)
unfolding cut_at
cut-from mark done [] = refl
cut-from mark done (b ∷ bs) = go (eqb b mark) (after-after done (b ∷ []) (cut_at mark bs) ∙ cut-from mark (done ++ b ∷ []) bs ∙ ap₂ (λ l n. option_map (parted l) (position_from (λ b. eqb b mark) n bs)) (append_assoc done (b ∷ []) bs) (length-append done (b ∷ [])))
  where
    go : (t : Bool) → option_map (after done) (option_map (after (b ∷ [])) (cut_at mark bs)) ≡ option_map (parted (done ++ b ∷ bs)) (position_from (λ b. eqb b mark) (length done + 1) bs) → option_map (after done) (cond t (Some ([], bs)) (option_map (after (b ∷ [])) (cut_at mark bs))) ≡ option_map (parted (done ++ b ∷ bs)) (cond t (Some (length done)) (position_from (λ b. eqb b mark) (length done + 1) bs))
    go true more = ap₂ (λ x y. Some (x, y)) (append-nil done ∙ sym (take-append_seam done (b ∷ bs))) (sym (drop-append-add done (b ∷ bs) 1))
    go false more = more

pub cut-position : (mark : ℕ) (s : List ℕ) → cut_at mark s ≡ option_map (parted s) (position (λ b. eqb b mark) s)
cut-position mark s = sym (cut-none (cut_at mark s)) ∙ cut-from mark [] s ∙ ap (option_map (parted s)) (sym (position_from-zero (λ b. eqb b mark) s))
