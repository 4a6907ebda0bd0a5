-- Lists of one length are the same where, and only where, no bit differs.
use Rattle.std.proofs.Common.{◌≡◌, ℕ, List, [], ◌∷◌, length, refl, ap, ◌∙◌, subst, sym, arith}
use Rattle.std.specs.List.{fold, zip}
use Rattle.octets.specs.Differences.{differences}
use lib.Bits.{and_le_l, and_le_r, bit_or, bit_xor, or_add_and, or_zero_l, xor_add_and, xor_self}

differences_from : ℕ → List ℕ → List ℕ → ℕ
differences_from d a b = fold (λ all p. bit_or all (bit_xor p.0 p.1)) d (zip a b)

or_left : (x y : ℕ) → bit_or x y ≡ 0 → x ≡ 0
or_left x y e = omega (arith, or_add_and x y, and_le_r x y)

or_right : (x y : ℕ) → bit_or x y ≡ 0 → y ≡ 0
or_right x y e = omega (arith, or_add_and x y, and_le_l x y)

xor_same : (x y : ℕ) → bit_xor x y ≡ 0 → x ≡ y
xor_same x y e = omega (arith, xor_add_and x y, and_le_l x y, and_le_r x y)

record Alike (d : ℕ) (a b : List ℕ) : Type 0 where
  nothing : d ≡ 0
  same : a ≡ b

alike : (d : ℕ) (a b : List ℕ) → length a ≡ length b → differences_from d a b ≡ 0 → Alike d a b
unfolding differences_from
alike d [] (y ∷ b) l e = absurd (omega arith)
alike d (x ∷ a) [] l e = absurd (omega arith)
alike d [] [] l e = record { nothing = e; same = refl }
alike d (x ∷ a) (y ∷ b) l e =
    let h = alike (bit_or d (bit_xor x y)) a b (omega arith) e in
    let s = xor_same x y (or_right d (bit_xor x y) h.nothing) in
    record { nothing = or_left d (bit_xor x y) h.nothing; same = ap (λ z. z ∷ a) s ∙ ap (λ z. y ∷ z) h.same }

pub same : (a b : List ℕ) → length a ≡ length b → differences a b ≡ 0 → a ≡ b
unfolding differences_from
same a b l e = (alike 0 a b l e).same

pub differences-self : (a : List ℕ) → differences a a ≡ 0
differences-self [] = refl
differences-self (x ∷ a) = subst (λ z. fold (λ all p. bit_or all (bit_xor p.0 p.1)) z (zip a a) ≡ 0) (sym (or_zero_l (bit_xor x x) ∙ xor_self x)) (differences-self a)
