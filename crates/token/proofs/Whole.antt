-- Words that stay together in a line: no byte of them ends a word or a line, and no quote stays open.
use Rattle.std.proofs.Common.{◌≡◌, ℕ, ◌<◌, Bool, true, false, not, ◌&&◌, eqb, List, [], ◌∷◌, ◌++◌, length, Some, sym, refl, ap, ◌∙◌, append_assoc, append-nil, arith}
use Rattle.std.specs.Option.{option_map}
use Rattle.std.specs.List.{All, AllByRecursion}
use Rattle.std.proofs.lemmas.Bool.{cond-false, and_parts, and_from, not-true, true≢false}
use Rattle.std.proofs.lemmas.List.Elements.{All-nil, All-cons, All-append}
use Rattle.token.specs.declared.mode.Mode.{Mode}
use Rattle.token.specs.declared.mode.Mode.TheVariants.{Plain, Quoted, Escaped}
use Rattle.token.specs.Written.{spaced_of, unwords_of}
use Rattle.token.specs.Words.{after, begun, cut_at, ends_word, after_byte, words_of}
use Rattle.token.proofs.Cuts.{after-after, cut-none}
use Rattle.token.proofs.Scan.{led}

abbrev pub shut : Mode → Bool
shut Plain = true
shut Quoted = false
shut Escaped = false

abbrev pub whole_of : Mode → List ℕ → Bool
whole_of m [] = shut m
whole_of m (b ∷ bs) = not (eqb b 10) && (not (ends_word m b) && whole_of (after_byte m b) bs)

pub whole_append : (m : Mode) (v w : List ℕ) → whole_of m v ≡ true → whole_of Plain w ≡ true → whole_of m (v ++ w) ≡ true
whole_append Plain [] w h k = k
whole_append Quoted [] w h k = absurd (true≢false (sym h))
whole_append Escaped [] w h k = absurd (true≢false (sym h))
whole_append m (b ∷ v) w h k =
    let p = and_parts (not (eqb b 10)) _ h in
    let q = and_parts (not (ends_word m b)) _ p.1 in
    and_from _ _ p.0 (and_from _ _ q.0 (whole_append (after_byte m b) v w q.1 k))

-- a scan goes through a whole word
pub scan-whole : (m : Mode) (w v rest : List ℕ) → whole_of m v ≡ true → words_of m w (v ++ rest) ≡ words_of Plain (w ++ v) rest
unfolding words_of
scan-whole Plain w [] rest h = ap (λ l. words_of Plain l rest) (sym (append-nil w))
scan-whole Quoted w [] rest h = absurd (true≢false (sym h))
scan-whole Escaped w [] rest h = absurd (true≢false (sym h))
scan-whole m w (b ∷ v) rest h =
    let p = and_parts (not (eqb b 10)) _ h in
    let q = and_parts (not (ends_word m b)) _ p.1 in
    cond-false _ _ _ (not-true _ q.0) ∙ scan-whole (after_byte m b) (w ++ b ∷ []) v rest q.1 ∙ ap (λ l. words_of Plain l rest) (append_assoc w (b ∷ []) v)

-- a cut into lines too
pub cut-whole : (m : Mode) (v rest : List ℕ) → whole_of m v ≡ true → cut_at 10 (v ++ rest) ≡ option_map (after v) (cut_at 10 rest)
unfolding cut_at
cut-whole m [] rest h = sym (cut-none (cut_at 10 rest))
cut-whole m (b ∷ v) rest h =
    let p = and_parts (not (eqb b 10)) _ h in
    let q = and_parts (not (ends_word m b)) _ p.1 in
    cond-false _ _ _ (not-true _ p.0) ∙ ap (option_map (after (b ∷ []))) (cut-whole (after_byte m b) v rest q.1) ∙ after-after (b ∷ []) v (cut_at 10 rest)

-- no byte of it ends a line
abbrev pub Within : ℕ → Type 0
Within b = eqb b 10 ≡ false

abbrev pub OneLine : List ℕ → Type 0
OneLine v = All Within v

one-line : (m : Mode) (v : List ℕ) → whole_of m v ≡ true → OneLine v
one-line m [] h = All-nil Within
one-line m (b ∷ v) h =
    let p = and_parts (not (eqb b 10)) _ h in
    let q = and_parts (not (ends_word m b)) _ p.1 in
    All-cons Within b v (not-true _ p.0) (one-line (after_byte m b) v q.1)

-- a word that can stand in a line
abbrev pub Kept : List ℕ → Type 0
Kept w = (whole_of Plain w ≡ true) × (0 < length w)

begins : (w : List ℕ) → 0 < length w → begun w ≡ w ∷ []
begins [] h = absurd (omega arith)
begins (b ∷ bs) h = refl

scan-spaced : (w : List ℕ) (ws : List (List ℕ)) → 0 < length w → AllByRecursion Kept ws → words_of Plain w (spaced_of ws) ≡ Some (w ∷ ws)
unfolding words_of
scan-spaced w [] h k = ap Some (begins w h)
scan-spaced w (v ∷ vs) h k =
    ap (led (begun w)) (scan-whole Plain [] v (spaced_of vs) k.0.0 ∙ scan-spaced v vs k.0.1 k.1) ∙ ap (λ l. Some (l ++ v ∷ vs)) (begins w h)

pub words_back : (w : List ℕ) (ws : List (List ℕ)) → Kept w → AllByRecursion Kept ws → words_of Plain [] (unwords_of (w ∷ ws)) ≡ Some (w ∷ ws)
words_back w ws h k = scan-whole Plain [] w (spaced_of ws) h.0 ∙ scan-spaced w ws h.1 k

one-spaced : (ws : List (List ℕ)) → AllByRecursion Kept ws → OneLine (spaced_of ws)
one-spaced [] k = All-nil Within
one-spaced (v ∷ vs) k = All-cons Within 32 _ refl (All-append Within v (spaced_of vs) (one-line Plain v k.0.0) (one-spaced vs k.1))

pub unwords_line : (w : List ℕ) (ws : List (List ℕ)) → Kept w → AllByRecursion Kept ws → OneLine (unwords_of (w ∷ ws))
unwords_line w ws h k = All-append Within w (spaced_of ws) (one-line Plain w h.0) (one-spaced ws k)

cut-spaced : (ws : List (List ℕ)) (rest : List ℕ) → AllByRecursion Kept ws → cut_at 10 (spaced_of ws ++ rest) ≡ option_map (after (spaced_of ws)) (cut_at 10 rest)
unfolding cut_at
cut-spaced [] rest k = sym (cut-none (cut_at 10 rest))
cut-spaced (v ∷ vs) rest k =
    ap (option_map (after (32 ∷ []))) (ap (cut_at 10) (append_assoc v (spaced_of vs) rest) ∙ cut-whole Plain v (spaced_of vs ++ rest) k.0.0 ∙ ap (option_map (after v)) (cut-spaced vs rest k.1) ∙ after-after v (spaced_of vs) (cut_at 10 rest))
    ∙ after-after (32 ∷ []) (v ++ spaced_of vs) (cut_at 10 rest)

pub cut-back : (w : List ℕ) (ws : List (List ℕ)) (rest : List ℕ) → Kept w → AllByRecursion Kept ws → cut_at 10 (unwords_of (w ∷ ws) ++ 10 ∷ rest) ≡ Some (unwords_of (w ∷ ws), rest)
unfolding cut_at
cut-back w ws rest h k =
    ap (cut_at 10) (append_assoc w (spaced_of ws) (10 ∷ rest))
    ∙ cut-whole Plain w (spaced_of ws ++ 10 ∷ rest) h.0
    ∙ ap (option_map (after w)) (cut-spaced ws (10 ∷ rest) k)
    ∙ after-after w (spaced_of ws) (cut_at 10 (10 ∷ rest))
    ∙ ap (λ l. Some (l, rest)) (append-nil (w ++ spaced_of ws))
