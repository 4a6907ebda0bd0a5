-- What is read lies within its bounds.
use Rattle.std.proofs.Common.{◌≡◌, ℕ, zero, suc, ◌+◌, ◌*◌, ◌<◌, ◌≤◌, ◌&&◌, ◌||◌, eqb, leb, List, [], ◌∷◌, ◌++◌, length, IfSome, Some, None, Option, sym, ap, ◌∙◌, ⊎_elim, mul-suc, arith, length-append}
use Rattle.std.specs.Option.{option_map, option_to_list}
use Rattle.std.specs.List.{AllByRecursion as All}
use Rattle.std.proofs.lemmas.Bool.{cond_both, and_parts, or_cases, leb-true, eqb-true}
use Rattle.token.specs.declared.quote.Quote.{Quote}
use Rattle.token.specs.declared.quote.Quote.TheVariants.{Body, Escape, High, Low, Closed}
use Rattle.token.specs.Bytes.{opened_of, repeat_of, times_of, many_of, counted_of, either_of, bytes_of}
use Rattle.token.specs.Number.{digits_of, within, number_of}
use Rattle.token.specs.Quotes.{Small, hex_of, step_of, told, finished, unquote_of}
use Rattle.token.specs.Words.{cut_at}

-- what holds of what is read
abbrev pub If : {A : Type 0} → Option A → (A → Type 0) → Type 0
If o P = IfSome o P

within-range : (low high : ℕ) (o : Option ℕ) → If (within low high o) (λ n. (low ≤ n) × (n ≤ high))
within-range low high None = tt
within-range low high (Some n) =
    cond_both (leb low n && leb n high) (Some n) None (λ o. If o (λ n. (low ≤ n) × (n ≤ high)))
    (λ t. let p = and_parts (leb low n) (leb n high) t in (leb-true low n p.0, leb-true n high p.1)) (λ f. tt)

pub number-range : (low high : ℕ) (w : List ℕ) → If (number_of low high w) (λ n. (low ≤ n) × (n ≤ high))
unfolding number_of
number-range low high [] = tt
number-range low high (b ∷ bs) = within-range low high (digits_of 0 (b ∷ bs))

abbrev pub Bytes : List ℕ → Type 0
Bytes bs = All (λ b. b < 256) bs

bytes-append : (xs ys : List ℕ) → Bytes xs → Bytes ys → Bytes (xs ++ ys)
bytes-append [] ys h k = k
bytes-append (x ∷ xs) ys h k = (h.0, bytes-append xs ys h.1 k)

hex-small : (b : ℕ) → If (hex_of b) (λ n. n < 16)
hex-small b =
    cond_both (leb 48 b && leb b 57) _ _ (λ o. If o (λ n. n < 16))
    (λ t. let p = leb-true b 57 (and_parts (leb 48 b) (leb b 57) t).1 in omega arith)
    (λ f. cond_both (leb 97 b && leb b 102) _ _ (λ o. If o (λ n. n < 16))
    (λ t. let p = leb-true b 102 (and_parts (leb 97 b) (leb b 102) t).1 in omega arith)
    (λ f. cond_both (leb 65 b && leb b 70) _ _ (λ o. If o (λ n. n < 16))
    (λ t. let p = leb-true b 70 (and_parts (leb 65 b) (leb b 70) t).1 in omega arith)
    (λ f. tt)))

abbrev Stepped : Option (Quote × Option ℕ) → Type 0
Stepped o = If o (λ p. Small p.0 × Bytes (option_to_list p.1))

step_small : (q : Quote) (b : ℕ) → Small q → Stepped (step_of q b)
step_small Body b h =
    cond_both (eqb b 34) _ _ Stepped (λ t. (tt, tt))
    (λ f. cond_both (eqb b 92) _ _ Stepped (λ t. (tt, tt))
    (λ f. cond_both (leb 32 b && leb b 126) _ _ Stepped
    (λ t. let p = leb-true b 126 (and_parts (leb 32 b) (leb b 126) t).1 in (tt, (omega arith, tt)))
    (λ f. tt)))
step_small Escape b h =
    cond_both (eqb b 120) _ _ Stepped (λ t. (tt, tt))
    (λ f. cond_both (eqb b 34 || eqb b 92) _ _ Stepped
    (λ t. (tt, (⊎_elim (λ e. let k = eqb-true b 34 e in omega arith) (λ e. let k = eqb-true b 92 e in omega arith) (or_cases _ _ t), tt)))
    (λ f. tt))
step_small High b h = go (hex_of b) (hex-small b)
  where
    go : (o : Option ℕ) → If o (λ n. n < 16) → Stepped (option_map (λ n. (Low n, None)) o)
    go None k = tt
    go (Some n) k = (k, tt)
step_small (Low m) b h = go (hex_of b) (hex-small b)
  where
    go : (o : Option ℕ) → If o (λ n. n < 16) → Stepped (option_map (λ n. (Body, Some (m * 16 + n))) o)
    go None k = tt
    go (Some n) k = (tt, (omega arith, tt))
step_small Closed b h = tt

told-bytes : (o : Option (Quote × Option ℕ)) (rest : Quote → Option (List ℕ)) → Stepped o → ((q : Quote) → Small q → If (rest q) Bytes) → If (told o rest) Bytes
told-bytes None rest h k = tt
told-bytes (Some p) rest h k = go (rest p.0) (k p.0 h.0)
  where
    go : (o : Option (List ℕ)) → If o Bytes → If (option_map (λ bs. option_to_list p.1 ++ bs) o) Bytes
    go None g = tt
    go (Some bs) g = bytes-append (option_to_list p.1) bs h.1 g

finished-bytes : (q : Quote) → If (finished q) Bytes
finished-bytes Body = tt
finished-bytes Escape = tt
finished-bytes High = tt
finished-bytes (Low h) = tt
finished-bytes Closed = tt

unquote-bytes : (q : Quote) (s : List ℕ) → Small q → If (unquote_of q s) Bytes
unfolding unquote_of
unquote-bytes q [] h = finished-bytes q
unquote-bytes q (b ∷ bs) h = told-bytes (step_of q b) (λ p. unquote_of p bs) (step_small q b h) (λ p k. unquote-bytes p bs k)

times-bytes : (n : ℕ) (bs : List ℕ) → Bytes bs → Bytes (times_of n bs)
unfolding times_of
times-bytes zero bs h = tt
times-bytes (suc n) bs h = bytes-append (times_of n bs) bs (times-bytes n bs h) h

times-length : (n : ℕ) (bs : List ℕ) → length (times_of n bs) ≡ length bs * n
unfolding times_of
times-length zero bs = omega arith
times-length (suc n) bs = length-append (times_of n bs) bs ∙ ap (λ k. k + length bs) (times-length n bs) ∙ sym (mul-suc (length bs) n)

abbrev pub Text : List ℕ → Type 0
Text bs = Bytes bs × (length bs ≤ 65536)

repeat-text : (n : ℕ) (o : Option (List ℕ)) → If o Bytes → If (repeat_of n o) Text
repeat-text n None h = tt
repeat-text n (Some bs) h =
    cond_both (leb (length bs * n) 65536) _ _ (λ o. If o Text)
    (λ t. (times-bytes n bs h, omega (arith, times-length n bs, leb-true (length bs * n) 65536 t)))
    (λ f. tt)

many-text : (o : Option ℕ) (t : Option (List ℕ)) → If (many_of o t) Text
many-text None t = tt
many-text (Some n) None = tt
many-text (Some n) (Some t) = repeat-text n (unquote_of Body t) (unquote-bytes Body t tt)

pub bytes-text : (w : List ℕ) → If (bytes_of w) Text
unfolding bytes_of
bytes-text w = go (opened_of w)
  where
    count : (o : Option (List ℕ × List ℕ)) → If (counted_of o) Text
    count None = tt
    count (Some p) = many-text (number_of 1 65535 p.0) (opened_of p.1)

    go : (o : Option (List ℕ)) → If (either_of o w) Text
    go None = count (cut_at 42 w)
    go (Some t) = repeat-text 1 (unquote_of Body t) (unquote-bytes Body t tt)
