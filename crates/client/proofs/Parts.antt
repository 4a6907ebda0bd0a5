-- Bytes in parts: the first part, and the parts of what is left.
use Rattle.std.proofs.Common.{◌≡◌, ℕ, zero, suc, ◌+◌, ◌-◌, ◌<◌, ◌≤◌, min, List, [], ◌∷◌, length, take, drop, sym, refl, ap, ◌∙◌, ⊎_elim, arith}
use Rattle.std.proofs.lemmas.List.{length-take, length-drop, take_all, take-take, drop_all, drop-take}
use Rattle.std.proofs.lemmas.Bool.{cases_lt}
use Rattle.model.specs.Messages.{parts}

-- more than enough parts are no more parts
fuel : (n m p : ℕ) (z : List ℕ) → 0 < p → length z ≤ n → length z ≤ m → parts n p z ≡ parts m p z
unfolding parts
fuel zero zero p z h a b = refl
fuel zero (suc m) p [] h a b = refl
fuel zero (suc m) p (x ∷ xs) h a b = absurd (let q : suc (length xs) ≤ 0 = a in omega arith)
fuel (suc n) zero p [] h a b = refl
fuel (suc n) zero p (x ∷ xs) h a b = absurd (let q : suc (length xs) ≤ 0 = b in omega arith)
fuel (suc n) (suc m) p [] h a b = refl
fuel (suc n) (suc m) p (x ∷ xs) h a b =
    let l = length-drop p (x ∷ xs) in
    let q : suc (length xs) ≤ suc n = a in
    let r : suc (length xs) ≤ suc m = b in
    ap (λ y. take p (x ∷ xs) ∷ y) (fuel n m p (drop p (x ∷ xs)) h (omega arith) (omega arith))

pub first_part : (z : List ℕ) → 0 < length z → parts (length z) 1024 z ≡ take 1024 z ∷ parts (length (drop 1024 z)) 1024 (drop 1024 z)
unfolding parts
first_part [] h = absurd (let q : 0 < 0 = h in omega arith)
first_part (x ∷ xs) h =
    let l = length-drop 1024 (x ∷ xs) in
    let q : length (x ∷ xs) ≡ suc (length xs) = refl in
    ap (λ y. take 1024 (x ∷ xs) ∷ y) (fuel (length xs) (length (drop 1024 (x ∷ xs))) 1024 (drop 1024 (x ∷ xs)) (omega arith) (omega arith) (omega arith))

pub no-parts : (z : List ℕ) → length z ≡ 0 → parts (length z) 1024 z ≡ []
unfolding parts
no-parts [] h = refl
no-parts (x ∷ xs) h = absurd (let q : suc (length xs) ≡ 0 = h in omega arith)

-- of what may go the first part, and the rest
module _ (p c : ℕ) (w : List ℕ) where
  front : take p (take c w) ≡ take (min (min c (length w)) p) w
  front =
      let l = length-take c w in
      ⊎_elim
      (λ h. let m : min (min c (length w)) p ≡ min c (length w) = omega arith in
      take_all p (take c w) (omega arith)
      ∙ ⊎_elim (λ f. ap (λ j. take j w) (let e : c ≡ min (min c (length w)) p = omega arith in e)) (λ f. take_all c w f ∙ sym (take_all (min (min c (length w)) p) w (omega arith))) (cases_lt c (length w)))
      (λ h. take-take p c w (omega arith) ∙ ap (λ j. take j w) (let e : p ≡ min (min c (length w)) p = omega arith in e))
      (cases_lt (min c (length w)) p)

  back : drop p (take c w) ≡ take (c - min (min c (length w)) p) (drop (min (min c (length w)) p) w)
  back =
      let l = length-take c w in
      ⊎_elim
      (λ h. drop_all p (take c w) (omega arith)
      ∙ ⊎_elim
      (λ f. ap (λ j. take j (drop (min (min c (length w)) p) w)) (let e : 0 ≡ c - min (min c (length w)) p = omega arith in e))
      (λ f. sym (ap (take (c - min (min c (length w)) p)) (drop_all (min (min c (length w)) p) w (omega arith)) ∙ take_all (c - min (min c (length w)) p) [] (omega arith)))
      (cases_lt c (length w)))
      (λ h. let e : min (min c (length w)) p ≡ p = omega arith in
      let f : p + (c - p) ≡ c = omega arith in
      ap (λ j. drop p (take j w)) (sym f) ∙ drop-take p (c - p) w ∙ ap (λ j. take (c - j) (drop j w)) (sym e))
      (cases_lt (min c (length w)) p)

pub part-front : (c : ℕ) (w : List ℕ) → take 1024 (take c w) ≡ take (min (min c (length w)) 1024) w
part-front c w = front 1024 c w

pub part-back : (c : ℕ) (w : List ℕ) → drop 1024 (take c w) ≡ take (c - min (min c (length w)) 1024) (drop (min (min c (length w)) 1024) w)
part-back c w = back 1024 c w
