-- What one more digit says.
use Rattle.std.proofs.Common.{◌≡◌, ℕ, ◌+◌, ◌-◌, ◌*◌, ◌<◌, ◌≤◌, Bool, true, false, cond, eqb, leb, List, [], ◌∷◌, length, get_or, drop, IfSome, Some, None, Option, refl, ◌∙◌, arith, false-eqb}
use Rattle.std.specs.Char.{is_ascii_digit}
use Rattle.std.proofs.lemmas.List.{at_drop_more, at_drop_all}
use Rattle.std.proofs.lemmas.Bool.{cond-true, cond-false, le-leb, lt-leb, and_from, and_left, and_right}
use Rattle.token.specs.Number.{digits_of, within, number_of}

pub digits_more : (n : ℕ) (w : List ℕ) (i : ℕ) → i < length w → is_ascii_digit (get_or w i 0) ≡ true → digits_of n (drop i w) ≡ digits_of (n * 10 + (get_or w i 0 - 48)) (drop (i + 1) w)
unfolding digits_of
digits_more n w i h d = at_drop_more (digits_of n) w i 0 h ∙ cond-true _ _ _ d

pub digits-bad : (n : ℕ) (w : List ℕ) (i : ℕ) → i < length w → is_ascii_digit (get_or w i 0) ≡ false → digits_of n (drop i w) ≡ None
unfolding digits_of
digits-bad n w i h d = at_drop_more (digits_of n) w i 0 h ∙ cond-false _ _ _ d

pub digits-all : (n : ℕ) (w : List ℕ) (i : ℕ) → length w ≤ i → digits_of n (drop i w) ≡ Some n
unfolding digits_of
digits-all n w i h = at_drop_all (digits_of n) w i h

-- more digits make a number no smaller
grows : (n : ℕ) (bs : List ℕ) → IfSome (digits_of n bs) (λ m. n ≤ m)
unfolding digits_of
grows n [] = omega arith
grows n (b ∷ bs) = go (is_ascii_digit b) (grows (n * 10 + (b - 48)) bs)
  where
    more : (o : Option ℕ) → IfSome o (λ m. n * 10 + (b - 48) ≤ m) → IfSome o (λ m. n ≤ m)
    more None h = tt
    more (Some m) h = omega arith

    go : (t : Bool) → IfSome (digits_of (n * 10 + (b - 48)) bs) (λ m. n * 10 + (b - 48) ≤ m) → IfSome (cond t (digits_of (n * 10 + (b - 48)) bs) None) (λ m. n ≤ m)
    go true h = more _ h
    go false h = tt

pub too_large : (low high n : ℕ) (bs : List ℕ) → high < n → within low high (digits_of n bs) ≡ None
too_large low high n bs h = go (digits_of n bs) (grows n bs)
  where
    go : (o : Option ℕ) → IfSome o (λ m. n ≤ m) → within low high o ≡ None
    go None g = refl
    go (Some m) g = cond-false _ _ _ (and_right (leb low m) (leb m high) (lt-leb m high (omega arith)))

pub number-some : (low high : ℕ) (w : List ℕ) → false ≡ eqb (length w) 0 → number_of low high w ≡ within low high (digits_of 0 w)
unfolding number_of
number-some low high [] h = absurd (false-eqb _ 0 h refl)
number-some low high (b ∷ bs) h = refl

pub number-none : (low high : ℕ) (w : List ℕ) → length w ≡ 0 → number_of low high w ≡ None
unfolding number_of
number-none low high [] h = refl
number-none low high (b ∷ bs) h = absurd (omega arith)

pub inside : (low high n : ℕ) → low ≤ n → n ≤ high → within low high (Some n) ≡ Some n
inside low high n l h = cond-true _ _ _ (and_from _ _ (le-leb low n l) (le-leb n high h))

pub below : (low high n : ℕ) → n < low → within low high (Some n) ≡ None
below low high n l = cond-false _ _ _ (and_left (leb low n) (leb n high) (lt-leb low n l))
