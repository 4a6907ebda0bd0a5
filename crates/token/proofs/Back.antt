-- What is written of a number is read as it.
use Rattle.std.proofs.Common.{◌≡◌, ℕ, ◌+◌, ◌-◌, ◌*◌, ◌/◌, ◌%◌, ◌^◌, ◌<◌, ◌≤◌, Bool, true, false, cond, List, [], ◌∷◌, ◌++◌, length, Some, None, decimal, sym, refl, ap, ◌∙◌, arith, length-append}
use Rattle.std.specs.Char.{is_ascii_digit}
use Rattle.std.proofs.lemmas.Fmt.{decimal_by_steps}
use Rattle.std.proofs.lemmas.Bool.{cond-true, and_from, or_from, not_from_false, le-leb, ne_eqb}
use Rattle.token.specs.declared.mode.Mode.TheVariants.{Plain, Quoted}
use Rattle.token.specs.Number.{digits_of, within, number_of}
use Rattle.token.proofs.Digits.{number-some, inside}
use Rattle.token.proofs.Whole.{whole_of, Kept, whole_append}

digit : (d : ℕ) → d < 10 → is_ascii_digit (48 + d) ≡ true
digit d h = and_from _ _ (le-leb 48 (48 + d) (omega arith)) (le-leb (48 + d) 57 (omega arith))

digits_push : (a : ℕ) (ds : List ℕ) (m d : ℕ) → d < 10 → digits_of a ds ≡ Some m → digits_of a (ds ++ (48 + d) ∷ []) ≡ Some (m * 10 + d)
unfolding digits_of
digits_push a [] m d h e =
    let same : a ≡ m = cc in
    let sum : a * 10 + (48 + d - 48) ≡ m * 10 + d = omega arith in
    cond-true _ _ _ (digit d h) ∙ ap Some sum
digits_push a (b ∷ ds) m d h e = go (is_ascii_digit b) (digits_push (a * 10 + (b - 48)) ds m d h) e
  where
    go : (t : Bool) → (digits_of (a * 10 + (b - 48)) ds ≡ Some m → digits_of (a * 10 + (b - 48)) (ds ++ (48 + d) ∷ []) ≡ Some (m * 10 + d)) → cond t (digits_of (a * 10 + (b - 48)) ds) None ≡ Some m → cond t (digits_of (a * 10 + (b - 48)) (ds ++ (48 + d) ∷ [])) None ≡ Some (m * 10 + d)
    go true ih e = ih e
    go false ih e = absurd (let z : ◌≡◌ {A = ℕ} 0 1 = cc in omega arith)

digit-whole : (d : ℕ) → whole_of Plain ((48 + d) ∷ []) ≡ true
digit-whole d =
    let line = ne_eqb (48 + d) 10 (omega arith) in
    let space = ne_eqb (48 + d) 32 (omega arith) in
    let mark = ne_eqb (48 + d) 35 (omega arith) in
    let quote = ne_eqb (48 + d) 34 (omega arith) in
    and_from _ _ (not_from_false _ line) (and_from _ _ (not_from_false _ (or_from _ _ space mark)) (ap (λ t. whole_of (cond t Quoted Plain) []) quote))

abbrev Spelled : ℕ → List ℕ → Type 0
Spelled n ds = (digits_of 0 ds ≡ Some n) × (whole_of Plain ds ≡ true) × (0 < length ds)

spelled : (n : ℕ) → n < 2 ^ 64 → Spelled n (decimal n)
unfolding digits_of
spelled =
    decimal_by_steps Spelled
    (λ n h. (digits_push 0 [] 0 n h refl ∙ ap Some (omega arith), digit-whole n, omega arith))
    (λ n ds h p.
    let sum : n / 10 * 10 + n % 10 ≡ n = omega arith in (
      digits_push 0 ds (n / 10) (n % 10) (omega arith) p.0 ∙ ap Some sum,
      whole_append Plain ds _ p.1 (digit-whole (n % 10)),
      simp length-append (omega arith),
    ))

pub number-back : (low high n : ℕ) → low ≤ n → n ≤ high → n < 2 ^ 64 → number_of low high (decimal n) ≡ Some n
number-back low high n l h fits =
    number-some low high (decimal n) (sym (ne_eqb (length (decimal n)) 0 (λ e. omega (arith, (spelled n fits).2)))) ∙ ap (within low high) (spelled n fits).0 ∙ inside low high n l h

pub number-kept : (n : ℕ) → n < 2 ^ 64 → Kept (decimal n)
number-kept n h = ((spelled n h).1, (spelled n h).2)
