-- A stream read byte by byte, and in pieces.
use Rattle.std.proofs.Common.{◌≡◌, ℕ, ◌+◌, ◌-◌, ◌^◌, ◌<◌, ◌≤◌, Bool, true, false, cond, eqb, ltb, ◌⊎◌, List, [], ◌∷◌, ◌++◌, length, get_or, take, Some, None, Option, sym, refl, ap, ◌∙◌, subst, inl, inr, arith, ltb-true, lt-ltb, eq-eqb, eqb-true}
use borrow.Author.Tests.{both_ways}
use Rattle.std.proofs.lemmas.List.{append_assoc, append-nil}
use Rattle.std.proofs.lemmas.Bool.{cases_Bool}
use Rattle.std.proofs.lemmas.Bool.Decides.{nat_tests}
use Rattle.std.proofs.lemmas.Grind.{common_steps}
use Rattle.wire.specs.declared.fault.Fault.{Fault}
use Rattle.wire.specs.declared.fault.Fault.TheVariants.{Length, Tag, Malformed}
use Rattle.seal.specs.declared.secret.Secret.{Secret}
use Rattle.seal.specs.Frames.{Fits, Whole, body_of, largest, opened, size_at, tag, tag_of}
use Rattle.stream.specs.Streams.{Got, arrived, fails, feed, got, is_right, read, same, step, whole}
use Rattle.stream.specs.Readers.{Short}
use Rattle.stream.proofs.Gathering.{short-front}

-- two lists of bytes
pub same_true : (xs ys : List ℕ) → same xs ys ≡ true → xs ≡ ys
unfolding same
same_true [] [] e = refl
same_true [] (y ∷ ys) e = absurd (both_ways false refl e)
same_true (x ∷ xs) [] e = absurd (both_ways false refl e)
same_true (x ∷ xs) (y ∷ ys) e = by (eqb x y) refl (same_true xs ys) e
  where
    by : (b : Bool) → eqb x y ≡ b → (same xs ys ≡ true → xs ≡ ys) → cond b (same xs ys) false ≡ true → x ∷ xs ≡ y ∷ ys
    by true q f t = λ i. eqb-true x y q i ∷ f t i
    by false q f t = absurd (both_ways false refl t)

pub same_refl : (xs : List ℕ) → same xs xs ≡ true
unfolding same
same_refl [] = refl
same_refl (x ∷ xs) = ap (λ (b : Bool). cond b (same xs xs) false) (eq-eqb x x refl) ∙ same_refl xs

pub right-true : (s : Secret) (n : ℕ) (f : List ℕ) → Fits s n f → is_right s n f ≡ true
unfolding is_right
right-true s n f h =
    ap (λ (b : Bool). cond b (same (tag_of f) (tag s n (body_of f))) false) (lt-ltb n (2 ^ 64) h.0)
    ∙ ap (λ (v : List ℕ). same v (tag s n (body_of f))) h.1
    ∙ same_refl (tag s n (body_of f))

pub right-fits : (s : Secret) (n : ℕ) (f : List ℕ) → is_right s n f ≡ true → Fits s n f
unfolding is_right
right-fits s n f e = by (ltb n (2 ^ 64)) refl e
  where
    by : (b : Bool) → ltb n (2 ^ 64) ≡ b → cond b (same (tag_of f) (tag s n (body_of f))) false ≡ true → Fits s n f
    by true q t = (ltb-true n (2 ^ 64) q, same_true (tag_of f) (tag s n (body_of f)) t)
    by false q t = absurd (both_ways false refl t)

pub right-false : (s : Secret) (n : ℕ) (f : List ℕ) → (Fits s n f → ⊥) → is_right s n f ≡ false
right-false s n f h = by (cases_Bool (is_right s n f))
  where
    by : (is_right s n f ≡ true) ⊎ (is_right s n f ≡ false) → is_right s n f ≡ false
    by (inl t) = absurd (h (right-fits s n f t))
    by (inr q) = q

module _ (s : Secret) (known : List ℕ → Bool) where
  -- however the stream is cut
  pub feed-append : (g : Got) (a b : List ℕ) → feed s known g (a ++ b) ≡ feed s known (feed s known g a) b
  unfolding feed
  feed-append g [] b = refl
  feed-append g (x ∷ a) b = feed-append (step s known g x) a b

  -- after a fault nothing is taken
  pub feed-fault : (n : ℕ) (h : List ℕ) (t : List (List ℕ)) (f : Fault) (bs : List ℕ) → feed s known (got n h t (Some f)) bs ≡ got n h t (Some f)
  unfolding feed
  feed-fault n h t f [] = refl
  feed-fault n h t f (b ∷ bs) = feed-fault n h t f bs

  feed-one : (g : Got) (b : ℕ) → feed s known g (b ∷ []) ≡ step s known g b
  unfolding feed
  feed-one g b = refl

  feed-more : (g : Got) (b : ℕ) (bs : List ℕ) → feed s known g (b ∷ bs) ≡ feed s known (step s known g b) bs
  unfolding feed
  feed-more g b bs = refl

  feed-none : (g : Got) → feed s known g [] ≡ g
  unfolding feed
  feed-none g = refl

  arrived-short : (n : ℕ) (h : List ℕ) (t : List (List ℕ)) (o : Option Fault) (x : List ℕ) → Short x
      → arrived s known (got n h t o) x ≡ got n x t None
  arrived-short n h t o x sh = grind (arith, nat_tests, sh.fits)

  -- bytes that make no message whole are held
  pub quiet : (n : ℕ) (h : List ℕ) (t : List (List ℕ)) (p : List ℕ) → Short (h ++ p) → feed s known (got n h t None) p ≡ got n (h ++ p) t None
  quiet n h t [] sh = feed-none (got n h t None) ∙ ap (λ (v : List ℕ). got n v t None) (sym (append-nil h))
  quiet n h t (b ∷ p) sh =
      let x : List ℕ = h ++ b ∷ [] in
      let e : x ++ p ≡ h ++ b ∷ p = append_assoc h (b ∷ []) p in
      let sx : Short (x ++ p) = subst Short (sym e) sh in
      feed-more (got n h t None) b p ∙ ap (λ (g : Got). feed s known g p) (arrived-short n h t None x (short-front x p sx))
      ∙ quiet n x t p sx
      ∙ ap (λ (v : List ℕ). got n v t None) e

  -- up to the last byte, and with it
  pub at_last : (n : ℕ) (h : List ℕ) (t : List (List ℕ)) (p : List ℕ) (k : ℕ) → 0 < k → k ≤ length p → Short (h ++ take (k - 1) p)
      → feed s known (got n h t None) (take k p) ≡ arrived s known (got n (h ++ take (k - 1) p) t None) (h ++ take k p)
  at_last n h t p k l u sh =
      let q : List ℕ = take (k - 1) p in
      let b : ℕ = get_or p (k - 1) 0 in
      let e : take k p ≡ q ++ b ∷ [] = grind (arith, common_steps) in
      ap (feed s known (got n h t None)) e ∙ feed-append (got n h t None) q (b ∷ [])
      ∙ ap (λ (g : Got). feed s known g (b ∷ [])) (quiet n h t q sh)
      ∙ feed-one (got n (h ++ q) t None) b
      ∙ ap (arrived s known (got n (h ++ q) t None)) (append_assoc h q (b ∷ []) ∙ ap (λ (v : List ℕ). h ++ v) (sym e))

  -- a whole message, and one that is too long
  pub at-whole : (n : ℕ) (h : List ℕ) (t : List (List ℕ)) (x : List ℕ) → Whole x → arrived s known (got n h t None) x ≡ whole s known (got n h t None) x
  at-whole n h t x w = grind (arith, nat_tests)

  pub at_long : (n : ℕ) (h : List ℕ) (t : List (List ℕ)) (x : List ℕ) → length x ≡ 2 → largest < size_at x
      → arrived s known (got n h t None) x ≡ got n [] t (Some Length)
  at_long n h t x e l = grind (arith, nat_tests)

  -- a whole message is taken, or a fault
  pub whole-taken : (n : ℕ) (h : List ℕ) (t : List (List ℕ)) (x y : List ℕ) → Fits s n x → y ≡ opened s n x → known y ≡ true
      → whole s known (got n h t None) x ≡ got (n + 1) [] (t ++ y ∷ []) None
  whole-taken n h t x y f ey k =
      ap (λ (b : Bool). cond b (read s known (got n h t None) (opened s n x)) (fails s known (got n h t None) Tag)) (right-true s n x f)
      ∙ ap (read s known (got n h t None)) (sym ey)
      ∙ ap (λ (b : Bool). cond b (got (n + 1) [] (t ++ y ∷ []) None) (fails s known (got n h t None) Malformed)) k

  pub whole-malformed : (n : ℕ) (h : List ℕ) (t : List (List ℕ)) (x : List ℕ) → Fits s n x → known (opened s n x) ≡ false
      → whole s known (got n h t None) x ≡ got n [] t (Some Malformed)
  whole-malformed n h t x f k =
      ap (λ (b : Bool). cond b (read s known (got n h t None) (opened s n x)) (fails s known (got n h t None) Tag)) (right-true s n x f)
      ∙ ap (λ (b : Bool). cond b (got (n + 1) [] (t ++ opened s n x ∷ []) None) (fails s known (got n h t None) Malformed)) k

  pub whole-wrong : (n : ℕ) (h : List ℕ) (t : List (List ℕ)) (x : List ℕ) → (Fits s n x → ⊥) → whole s known (got n h t None) x ≡ got n [] t (Some Tag)
  whole-wrong n h t x f =
      ap (λ (b : Bool). cond b (read s known (got n h t None) (opened s n x)) (fails s known (got n h t None) Tag)) (right-false s n x f)
