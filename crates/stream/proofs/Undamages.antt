-- A stream without damage, and one with a message in the wrong place.
use Rattle.std.proofs.Common.{◌≡◌, ℕ, suc, ◌+◌, ◌-◌, ◌^◌, ◌<◌, ◌≤◌, Bool, true, false, cond, ◌⊎◌, List, [], ◌∷◌, ◌++◌, length, take, drop, Some, None, sym, refl, ap, ◌∙◌, inl, inr, arith}
use Rattle.std.proofs.lemmas.List.{append_assoc, append-nil, drop_at, length-drop, take_all, take-append-drop}
use Rattle.std.proofs.lemmas.Bool.{cases_Bool}
use Rattle.std.proofs.lemmas.Grind.{common_steps}
use Rattle.wire.specs.declared.fault.Fault.TheVariants.{Tag}
use Rattle.seal.specs.declared.secret.Secret.{Secret}
use Rattle.seal.specs.Frames.{Whole, frame, largest, opened, size_at}
use Rattle.seal.proofs.Opened.{length-frame, opens-sealed}
use Rattle.stream.specs.Streams.{Got, arrived, feed, got, is_right, read, start, whole}
use Rattle.stream.specs.Readers.{Short}
use Rattle.stream.specs.Promises.{CutIsShort, Forged, Messages, Misplaced, Undamaged, sealed_from}
use Rattle.stream.proofs.Gathering.{few}
use Rattle.stream.proofs.Feeds.{at_last, at-whole, feed-append, quiet, right-fits, whole-taken}

-- all but some of a whole message
front-short : (f part rest : List ℕ) → Whole f → part ++ rest ≡ f → 0 < length rest → Short part
front-short f part rest w e l = record { fits = λ k. grind (arith, common_steps) }

pub whole_of : (s : Secret) (n : ℕ) (x : List ℕ) → length x ≤ largest → Whole (frame s n x)
whole_of s n x l =
    let e : length (frame s n x) ≡ length x + 18 = length-frame s n x in
    record { size = grind (arith, common_steps); bound = grind (arith, common_steps) }

pub cut-is-short : CutIsShort
cut-is-short s n x part rest l e k = front-short (frame s n x) part rest (whole_of s n x l) e k

module _ (s : Secret) (known : List ℕ → Bool) where
  -- a whole message by itself
  one : (n : ℕ) (t : List (List ℕ)) (f : List ℕ) → Whole f
      → feed s known (got n [] t None) f ≡ whole s known (got n (take (length f - 1) f) t None) f
  one n t f w =
      let k : ℕ = length f in
      let w0 : length f ≡ size_at f + 18 = w.size in
      let ld : length (drop (k - 1) f) ≡ 1 = length-drop (k - 1) f ∙ omega arith in
      let sh : Short (take (k - 1) f) = front-short f (take (k - 1) f) (drop (k - 1) f) w (take-append-drop (k - 1) f) (omega arith) in
      let e : take k f ≡ f = take_all k f (omega arith) in
      ap (feed s known (got n [] t None)) (sym e) ∙ at_last s known n [] t f k (omega arith) (omega arith) sh
      ∙ ap (arrived s known (got n (take (k - 1) f) t None)) e
      ∙ at-whole s known n (take (k - 1) f) t f w

  next : (n : ℕ) (t : List (List ℕ)) (x : List ℕ) → n < 2 ^ 64 → length x ≤ largest → known x ≡ true
      → feed s known (got n [] t None) (frame s n x) ≡ got (n + 1) [] (t ++ x ∷ []) None
  next n t x ln lx k =
      let o = opens-sealed s n x lx ln in
      one n t (frame s n x) o.whole ∙ whole-taken s known n (take (length (frame s n x) - 1) (frame s n x)) t (frame s n x) x o.fits (sym o.inside) k

  pub undamaged-from : (n : ℕ) (t xs : List (List ℕ)) (part : List ℕ) → Messages known xs → n + length xs ≤ 2 ^ 64 → Short part
      → feed s known (got n [] t None) (sealed_from s n xs ++ part) ≡ got (n + length xs) part (t ++ xs) None
  unfolding sealed_from Messages
  undamaged-from n t [] part ms l sh =
      let e : n ≡ n + 0 = omega arith in
      quiet s known n [] t part sh ∙ (λ i. got (e i) part (sym (append-nil t) i) None)
  undamaged-from n t (x ∷ xs) part ms l sh =
      let e : n + 1 + length xs ≡ n + suc (length xs) = omega arith in
      ap (feed s known (got n [] t None)) (append_assoc (frame s n x) (sealed_from s (n + 1) xs) part)
      ∙ feed-append s known (got n [] t None) (frame s n x) (sealed_from s (n + 1) xs ++ part)
      ∙ ap (λ (g : Got). feed s known g (sealed_from s (n + 1) xs ++ part)) (next n t x (omega arith) ms.1 ms.0)
      ∙ undamaged-from (n + 1) (t ++ x ∷ []) xs part ms.2 (omega arith) sh
      ∙ (λ i. got (e i) part (append_assoc t (x ∷ []) xs i) None)

pub undamaged : Undamaged
undamaged s known sent part ms l sh =
    let z : 0 + length sent ≡ length sent = omega arith in
    undamaged-from s known 0 [] sent part ms (omega arith) sh ∙ ap (λ (n : ℕ). got n part sent None) z

pub misplaced : Misplaced
misplaced s known first later f ms l w un = by (cases_Bool (is_right s (length first) f))
  where
    n : ℕ
    n = length first

    bs : List ℕ
    bs = sealed_from s 0 first

    after : feed s known start (sealed_from s 0 first ++ f) ≡ whole s known (got (length first) (take (length f - 1) f) first None) f
    after =
        feed-append s known start (sealed_from s 0 first) f
        ∙ ap (λ (g : Got). feed s known g f)
        (ap (feed s known start) (sym (append-nil (sealed_from s 0 first))) ∙ undamaged s known first [] ms l (few [] (omega arith)))
        ∙ one s known (length first) first f w

    by : (is_right s (length first) f ≡ true) ⊎ (is_right s (length first) f ≡ false)
        → (feed s known start (sealed_from s 0 first ++ f) ≡ got (length first) [] first (Some Tag)) ⊎ Forged s (first ++ later) (sealed_from s 0 first ++ f)
    by (inl t) =
        inr
        (record {
          number = length first;
          before = sealed_from s 0 first;
          message = f;
          behind = [];
          at = ap (λ (v : List ℕ). sealed_from s 0 first ++ v) (sym (append-nil f));
          whole = w;
          fits = right-fits s (length first) f t;
          unmade = λ a x b e la ef.
              let d1 : drop (length first) (first ++ later) ≡ x ∷ b = ap (drop (length first)) e ∙ drop_at a (x ∷ b) (length first) la in
              un x b (sym (drop_at first later (length first) refl) ∙ d1) ef;
        })
    by (inr q) =
        inl
        (after
        ∙ ap (λ (v : Bool). cond v (read s known (got (length first) (take (length f - 1) f) first None) (opened s (length first) f)) (got (length first) [] first (Some Tag))) q)
