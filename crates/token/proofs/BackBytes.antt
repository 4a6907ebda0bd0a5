-- What is written of bytes is read as them.
use Rattle.std.proofs.Common.{◌≡◌, ℕ, ◌+◌, ◌-◌, ◌*◌, ◌/◌, ◌%◌, ◌<◌, ◌≤◌, true, eqb, leb, List, [], ◌∷◌, ◌++◌, length, Some, None, sym, refl, ap, ◌∙◌, subst, ⊎_elim, append_assoc, append-nil, arith}
use Rattle.std.specs.Option.{option_map}
use Rattle.std.specs.List.{AllByRecursion as All}
use Rattle.std.proofs.lemmas.Bool.{cond-true, cond-false, and_from, and_right, or_from, and_parts, cases_Bool, cases_lt, cases_eq, not_from_false, leb-true, le-leb, lt-leb, lt-ltb, le-ltb, ne_eqb}
use Rattle.token.specs.declared.mode.Mode.TheVariants.{Plain, Quoted, Escaped}
use Rattle.token.specs.declared.quote.Quote.TheVariants.{Body, Low}
use Rattle.token.specs.Bytes.{bytes_of, repeat_of, times_of}
use Rattle.token.specs.Quotes.{hex_of, told, unquote_of}
use Rattle.token.specs.Written.{hex_digit, escape_of, escapes_of, quoted_of}
use Rattle.token.proofs.Unquote.{first, first-first, first-none}
use Rattle.token.proofs.Whole.{whole_of, Kept}

-- the cases of a byte that is written
data Kind (b : ℕ) : Type 0 where
  quote : b ≡ 34 → Kind b
  slash : b ≡ 92 → Kind b
  own : (b ≡ 34 → ⊥) → (b ≡ 92 → ⊥) → 32 ≤ b → b ≤ 126 → escape_of b ≡ b ∷ [] → Kind b
  hex : escape_of b ≡ 92 ∷ 120 ∷ hex_digit (b / 16) ∷ hex_digit (b % 16) ∷ [] → Kind b

kind : (b : ℕ) → Kind b
kind b =
    ⊎_elim quote
    (λ q. ⊎_elim slash
    (λ s.
    let plain = cond-false _ (92 ∷ b ∷ []) _ (or_from (eqb b 34) (eqb b 92) (ne_eqb b 34 q) (ne_eqb b 92 s)) in
    ⊎_elim
    (λ t. let p = and_parts (leb 32 b) (leb b 126) t in own q s (leb-true 32 b p.0) (leb-true b 126 p.1) (plain ∙ cond-true _ _ _ t))
    (λ f. hex (plain ∙ cond-false _ _ _ f))
    (cases_Bool _))
    (cases_eq b 92))
    (cases_eq b 34)

hex-back : (n : ℕ) → n < 16 → hex_of (hex_digit n) ≡ Some n
hex-back n h = ⊎_elim low high (cases_lt n 10)
  where
    low : n < 10 → hex_of (hex_digit n) ≡ Some n
    low l =
        let same : 48 + n - 48 ≡ n = omega arith in
        ap hex_of (cond-true _ _ _ (lt-ltb n 10 l)) ∙ cond-true _ _ _ (and_from _ _ (le-leb 48 (48 + n) (omega arith)) (le-leb (48 + n) 57 (omega arith))) ∙ ap Some same

    high : 10 ≤ n → hex_of (hex_digit n) ≡ Some n
    high l =
        let same : 97 + (n - 10) - 97 + 10 ≡ n = omega arith in
        ap hex_of (cond-false _ _ _ (le-ltb n 10 l))
        ∙ cond-false _ _ _ (and_right (leb 48 (97 + (n - 10))) (leb (97 + (n - 10)) 57) (lt-leb (97 + (n - 10)) 57 (omega arith)))
        ∙ cond-true _ _ _ (and_from _ _ (le-leb 97 (97 + (n - 10)) (omega arith)) (le-leb (97 + (n - 10)) 102 (omega arith)))
        ∙ ap Some same

digit-range : (n : ℕ) → n < 16 → (48 ≤ hex_digit n) × (hex_digit n ≤ 112) × (hex_digit n ≡ 92 → ⊥)
digit-range n h =
    ⊎_elim
    (λ l. let e : hex_digit n ≡ 48 + n = cond-true _ _ _ (lt-ltb n 10 l) in (omega arith, omega arith, omega arith))
    (λ l. let e : hex_digit n ≡ 97 + (n - 10) = cond-false _ _ _ (le-ltb n 10 l) in (omega arith, omega arith, omega arith))
    (cases_lt n 10)

step-own : (b : ℕ) (rest : List ℕ) → (b ≡ 34 → ⊥) → (b ≡ 92 → ⊥) → 32 ≤ b → b ≤ 126 → unquote_of Body (b ∷ rest) ≡ first (b ∷ []) (unquote_of Body rest)
unfolding unquote_of
step-own b rest q s l h =
    ap (λ o. told o (λ p. unquote_of p rest)) (cond-false _ _ _ (ne_eqb b 34 q) ∙ cond-false _ _ _ (ne_eqb b 92 s) ∙ cond-true _ _ _ (and_from _ _ (le-leb 32 b l) (le-leb b 126 h)))

step-hex : (b : ℕ) (rest : List ℕ) → b < 256 → unquote_of Body (92 ∷ 120 ∷ hex_digit (b / 16) ∷ hex_digit (b % 16) ∷ rest) ≡ first (b ∷ []) (unquote_of Body rest)
unfolding unquote_of
step-hex b rest h =
    let sum : b / 16 * 16 + b % 16 ≡ b = omega arith in
    first-none _ ∙ first-none _
    ∙ ap (λ o. told (option_map (λ h. (Low h, None)) o) (λ p. unquote_of p (hex_digit (b % 16) ∷ rest))) (hex-back (b / 16) (omega arith))
    ∙ first-none _
    ∙ ap (λ o. told (option_map (λ l. (Body, Some (b / 16 * 16 + l))) o) (λ p. unquote_of p rest)) (hex-back (b % 16) (omega arith))
    ∙ ap (λ n. first (n ∷ []) (unquote_of Body rest)) sum

unquote-one : (b : ℕ) (rest : List ℕ) → b < 256 → unquote_of Body (escape_of b ++ rest) ≡ first (b ∷ []) (unquote_of Body rest)
unfolding unquote_of
unquote-one b rest h = go (kind b)
  where
    go : Kind b → unquote_of Body (escape_of b ++ rest) ≡ first (b ∷ []) (unquote_of Body rest)
    go (quote e) = subst (λ n. unquote_of Body (escape_of n ++ rest) ≡ first (n ∷ []) (unquote_of Body rest)) (sym e) (first-none _)
    go (slash e) = subst (λ n. unquote_of Body (escape_of n ++ rest) ≡ first (n ∷ []) (unquote_of Body rest)) (sym e) (first-none _)
    go (own q s l k e) = ap (λ w. unquote_of Body (w ++ rest)) e ∙ step-own b rest q s l k
    go (hex e) = ap (λ w. unquote_of Body (w ++ rest)) e ∙ step-hex b rest h

unquote-all : (bs rest : List ℕ) → All (λ b. b < 256) bs → unquote_of Body (escapes_of bs ++ rest) ≡ first bs (unquote_of Body rest)
unquote-all [] rest h = sym (first-none _)
unquote-all (b ∷ bs) rest h =
    ap (unquote_of Body) (append_assoc (escape_of b) (escapes_of bs) rest)
    ∙ unquote-one b (escapes_of bs ++ rest) h.0
    ∙ ap (first (b ∷ [])) (unquote-all bs rest h.1)
    ∙ first-first (b ∷ []) bs (unquote_of Body rest)

closing : unquote_of Body (34 ∷ []) ≡ Some []
unfolding unquote_of
closing = refl

pub bytes_back : (bs : List ℕ) → All (λ b. b < 256) bs → length bs ≤ 65536 → bytes_of (quoted_of bs) ≡ Some bs
unfolding bytes_of times_of
bytes_back bs h l =
    ap (repeat_of 1) (unquote-all bs (34 ∷ []) h ∙ ap (first bs) closing ∙ ap Some (append-nil bs)) ∙ cond-true _ _ _ (le-leb (length bs * 1) 65536 (omega arith))

-- between quotes each byte but a line's end, a quote and a backslash stays there
quoted-byte : (b : ℕ) (v : List ℕ) → (b ≡ 10 → ⊥) → (b ≡ 34 → ⊥) → (b ≡ 92 → ⊥) → whole_of Quoted v ≡ true → whole_of Quoted (b ∷ v) ≡ true
quoted-byte b v n q s h =
    and_from _ _ (not_from_false _ (ne_eqb b 10 n)) (ap (λ m. whole_of m v) (cond-false _ Plain _ (ne_eqb b 34 q) ∙ cond-false _ Escaped Quoted (ne_eqb b 92 s)) ∙ h)

whole-one : (b : ℕ) (v : List ℕ) → b < 256 → whole_of Quoted v ≡ true → whole_of Quoted (escape_of b ++ v) ≡ true
whole-one b v h k = go (kind b)
  where
    go : Kind b → whole_of Quoted (escape_of b ++ v) ≡ true
    go (quote e) = subst (λ n. whole_of Quoted (escape_of n ++ v) ≡ true) (sym e) k
    go (slash e) = subst (λ n. whole_of Quoted (escape_of n ++ v) ≡ true) (sym e) k
    go (own q s l m e) = ap (λ w. whole_of Quoted (w ++ v)) e ∙ quoted-byte b v (λ n. omega arith) q s k
    go (hex e) =
        let p = digit-range (b / 16) (omega arith) in
        let r = digit-range (b % 16) (omega arith) in
        ap (λ w. whole_of Quoted (w ++ v)) e
        ∙ quoted-byte (hex_digit (b / 16)) (hex_digit (b % 16) ∷ v) (λ n. omega arith) (λ n. omega arith) p.2 (quoted-byte (hex_digit (b % 16)) v (λ n. omega arith) (λ n. omega arith) r.2 k)

whole-all : (bs v : List ℕ) → All (λ b. b < 256) bs → whole_of Quoted v ≡ true → whole_of Quoted (escapes_of bs ++ v) ≡ true
whole-all [] v h k = k
whole-all (b ∷ bs) v h k = ap (whole_of Quoted) (append_assoc (escape_of b) (escapes_of bs) v) ∙ whole-one b (escapes_of bs ++ v) h.0 (whole-all bs v h.1 k)

pub bytes-kept : (bs : List ℕ) → All (λ b. b < 256) bs → Kept (quoted_of bs)
bytes-kept bs h = (whole-all bs (34 ∷ []) h refl, omega arith)
