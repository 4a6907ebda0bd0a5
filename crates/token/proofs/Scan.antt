-- The words of a line, one byte on.
use Rattle.std.proofs.Common.{◌≡◌, ℕ, ◌+◌, ◌-◌, ◌<◌, ◌≤◌, true, false, List, [], ◌∷◌, ◌++◌, length, get_or, take, drop, Some, None, Option, sym, refl, ap, ◌∙◌, append_assoc, arith, length-drop}
use Rattle.std.specs.Option.{option_map}
use Rattle.std.proofs.lemmas.List.{at_drop_more, at_drop_all, take_more, get_or-drop}
use Rattle.std.proofs.lemmas.Bool.{cond-true, cond-false, eq-eqb, ne_eqb, true≢false}
use Rattle.token.specs.declared.mode.Mode.{Mode}
use Rattle.token.specs.declared.mode.Mode.TheVariants.{Plain, Quoted, Escaped}
use Rattle.token.specs.Words.{begun, closed, ends_word, after_byte, words_of}

-- words that come before others
abbrev pub led : List (List ℕ) → Option (List (List ℕ)) → Option (List (List ℕ))
led done o = option_map (λ ws. done ++ ws) o

pub led-led : (a b : List (List ℕ)) (o : Option (List (List ℕ))) → led a (led b o) ≡ led (a ++ b) o
led-led a b None = refl
led-led a b (Some ws) = ap Some (sym (append_assoc a b ws))

pub led-none : (o : Option (List (List ℕ))) → led [] o ≡ o
led-none None = refl
led-none (Some ws) = refl

pub ends-plain : (m : Mode) (b : ℕ) → ends_word m b ≡ true → m ≡ Plain
ends-plain Plain b e = refl
ends-plain Quoted b e = absurd (true≢false (sym e))
ends-plain Escaped b e = absurd (true≢false (sym e))

-- the bytes from a on, up to i
abbrev pub part : List ℕ → ℕ → ℕ → List ℕ
part s a i = take (i - a) (drop a s)

pub part-more : (s : List ℕ) (a i : ℕ) → a ≤ i → i < length s → part s a (i + 1) ≡ part s a i ++ get_or s i 0 ∷ []
part-more s a i le lt =
    let h : i - a < length (drop a s) = simp length-drop (omega arith) in
    let e : i + 1 - a ≡ i - a + 1 = omega arith in
    let f : a + (i - a) ≡ i = omega arith in
    ap (λ n. take n (drop a s)) e ∙ take_more (drop a s) (i - a) 0 h ∙ ap (λ x. part s a i ++ x ∷ []) (get_or-drop a s (i - a) 0 ∙ ap (λ n. get_or s n 0) f)

pub part_none : (s : List ℕ) (i : ℕ) → part s i i ≡ []
part_none s i = let e : i - i ≡ 0 = omega arith in ap (λ n. take n (drop i s)) e

module _ (m : Mode) (w s : List ℕ) (i : ℕ) where
  pub scan-more : i < length s → ends_word m (get_or s i 0) ≡ false → words_of m w (drop i s) ≡ words_of (after_byte m (get_or s i 0)) (w ++ get_or s i 0 ∷ []) (drop (i + 1) s)
  unfolding words_of
  scan-more h e = at_drop_more (words_of m w) s i 0 h ∙ cond-false _ _ _ e

  pub scan-comment : i < length s → ends_word m (get_or s i 0) ≡ true → get_or s i 0 ≡ 35 → words_of m w (drop i s) ≡ Some (begun w)
  unfolding words_of
  scan-comment h e is = at_drop_more (words_of m w) s i 0 h ∙ cond-true _ _ _ e ∙ cond-true _ _ _ (eq-eqb _ _ is)

  pub scan-space : i < length s → ends_word m (get_or s i 0) ≡ true → (get_or s i 0 ≡ 35 → ⊥) → words_of m w (drop i s) ≡ led (begun w) (words_of Plain [] (drop (i + 1) s))
  unfolding words_of
  scan-space h e is = at_drop_more (words_of m w) s i 0 h ∙ cond-true _ _ _ e ∙ cond-false _ _ _ (ne_eqb _ _ is)

  pub scan-end : length s ≤ i → words_of m w (drop i s) ≡ closed m (begun w)
  unfolding words_of
  scan-end h = at_drop_all (words_of m w) s i h

-- i bytes of s are read: done are the words before a, where the word under way begins
pub record Scanned (s : List ℕ) (done : List (List ℕ)) (m : Mode) (a i : ℕ) : Type 0 where
  pub order : a ≤ i
  pub says : led done (words_of m (part s a i) (drop i s)) ≡ words_of Plain [] s

module _ (s : List ℕ) (done : List (List ℕ)) (m : Mode) (a i : ℕ) (so : Scanned s done m a i) where
  pub scan-byte : (done' : List (List ℕ)) (m' : Mode) (a' : ℕ) → i < length s → ends_word m (get_or s i 0) ≡ false → done' ≡ done → m' ≡ after_byte m (get_or s i 0) → a' ≡ a → Scanned s done' m' a' (i + 1)
  scan-byte done' m' a' h e d n same = record {
    order = omega (arith, so.order);
    says =
        (λ j. led (d j) (words_of (n j) (part s (same j) (i + 1)) (drop (i + 1) s)))
        ∙ ap (λ w. led done (words_of (after_byte m (get_or s i 0)) w (drop (i + 1) s))) (part-more s a i so.order h)
        ∙ ap (led done) (sym (scan-more m (part s a i) s i h e))
        ∙ so.says;
  }

  pub scan-word : (done' : List (List ℕ)) (m' : Mode) (a' : ℕ) → i < length s → ends_word m (get_or s i 0) ≡ true → (get_or s i 0 ≡ 35 → ⊥) → done' ≡ done ++ begun (part s a i) → m' ≡ m → a' ≡ i + 1 → Scanned s done' m' a' (i + 1)
  scan-word done' m' a' h e is d n next = record {
    order = omega arith;
    says =
        (λ j. led (d j) (words_of ((n ∙ ends-plain m (get_or s i 0) e) j) (part s (next j) (i + 1)) (drop (i + 1) s)))
        ∙ ap (λ w. led (done ++ begun (part s a i)) (words_of Plain w (drop (i + 1) s))) (part_none s (i + 1))
        ∙ sym (led-led done (begun (part s a i)) (words_of Plain [] (drop (i + 1) s)))
        ∙ ap (led done) (sym (scan-space m (part s a i) s i h e is))
        ∙ so.says;
  }

  pub scan-rest : (done' : List (List ℕ)) → i < length s → ends_word m (get_or s i 0) ≡ true → get_or s i 0 ≡ 35 → done' ≡ done ++ begun (part s a i) → words_of Plain [] s ≡ Some done'
  scan-rest done' h e is d = sym so.says ∙ ap (led done) (scan-comment m (part s a i) s i h e is) ∙ ap Some (sym d)

  pub scan-open : length s ≤ i → (m ≡ Plain → ⊥) → words_of Plain [] s ≡ None
  scan-open h quoted = sym so.says ∙ ap (led done) (scan-end m (part s a i) s i h ∙ none m quoted)
    where
      none : (n : Mode) → (n ≡ Plain → ⊥) → closed n (begun (part s a i)) ≡ None
      none Plain q = absurd (q refl)
      none Quoted q = refl
      none Escaped q = refl

  pub scan-all : (done' : List (List ℕ)) → length s ≡ i → m ≡ Plain → done' ≡ done ++ begun (part s a (length s)) → words_of Plain [] s ≡ Some done'
  scan-all done' h plain d =
      sym so.says
      ∙ ap (led done) (scan-end m (part s a i) s i (omega arith) ∙ ap (λ n. closed n (begun (part s a i))) plain)
      ∙ ap (λ n. Some (done ++ begun (part s a n))) (sym h)
      ∙ ap Some (sym d)
