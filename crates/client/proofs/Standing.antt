-- Lists of channels that stand for one another: what is sent, flushed, counted, found and changed.
use Rattle.std.proofs.Common.{◌≡◌, ℕ, zero, suc, ◌+◌, ◌<◌, Bool, true, false, cond, ◌&&◌, ◌||◌, eqb, ltb, ◌⊎◌, List, [], ◌∷◌, ◌++◌, map, length, get_or, set, Some, None, sym, refl, ap, ◌∙◌, subst, inl, inr, ⊎_elim, arith}
use Rattle.std.specs.List.{remove}
use Rattle.std.proofs.lemmas.Bool.{cond-true, cond-false, eq-eqb, ne_eqb, and_parts, cases_eq, ltb-true}
use Rattle.model.specs.Keyed.{find, change, numbers, count, is_in, above, gather, each}
use Rattle.model.specs.Client.{Phase, Asked, Running, Refused, Closed, holds, runs, ClientChannel, number_of, new_channel, is_held, requests, requests_of, flushed, flushed_running, labelled}
use Rattle.client_channel.specs.Kept.{Kept, fresh}
use Rattle.client.specs.Stand.{phase_of, whole, limits, bare, Stand, none, past, held}
use Rattle.client.proofs.Bare.{requests_k, requests-whole, quiet-flushed}

-- a channel that is not held sends nothing
not-runs : (p : Phase) → holds p ≡ false → runs p ≡ false
not-runs Asked h = refl
not-runs Running h = cc
not-runs Refused h = refl
not-runs Closed h = refl

pub past-quiet : (x : ClientChannel) → is_held x ≡ false → requests limits x ≡ []
past-quiet x h = cond-false (runs x.phase) _ [] (not-runs x.phase h)

pub past-flushed : (x : ClientChannel) → is_held x ≡ false → flushed x ≡ x
past-flushed x h = cond-false (runs x.phase) (flushed_running x) x (not-runs x.phase h)

pub whole-held : (b : Bool) → holds (phase_of b) ≡ true
whole-held true = refl
whole-held false = refl

pub bare-requests : (k : Kept) → requests limits (bare k) ≡ requests_k k
bare-requests k = requests-whole k 0 [] []

-- all have nothing to send
abbrev pub AllQuiet : List Kept → Type 0
AllQuiet ks = (i : ℕ) (d : Kept) → i < length ks → requests limits (bare (get_or ks i d)) ≡ []

pub gather-stand : {ks : List Kept} {hs : List ClientChannel} → Stand ks hs → gather (requests_of limits) hs ≡ gather (requests_of limits) (map bare ks)
unfolding gather labelled
gather-stand none = refl
gather-stand (past {ks} {hs} x h n s) = ap (λ z. labelled x.number z ++ gather (requests_of limits) hs) (past-quiet x h) ∙ gather-stand s
gather-stand (held {ks} {hs} k c g t n s) =
    ap (λ z. labelled k.number z ++ gather (requests_of limits) hs) (requests-whole k c g t ∙ sym (bare-requests k)) ∙ ap (λ z. requests_of limits (bare k) ++ z) (gather-stand s)

pub each-quiet : {ks : List Kept} {hs : List ClientChannel} → Stand ks hs → AllQuiet ks → each flushed hs ≡ hs
unfolding each
each-quiet none q = refl
each-quiet (past {ks} {hs} x h n s) q = ap (λ z. z ∷ each flushed hs) (past-flushed x h) ∙ ap (λ z. x ∷ z) (each-quiet s q)
each-quiet (held {ks} {hs} k c g t n s) q =
    ap (λ z. z ∷ each flushed hs) (quiet-flushed k c g t (sym (bare-requests k) ∙ q 0 k (omega arith)))
    ∙ ap (λ z. whole k c g t ∷ z) (each-quiet s (λ i d l. q (suc i) d (omega arith)))

pub count-stand : {ks : List Kept} {hs : List ClientChannel} → Stand ks hs → count is_held hs ≡ length ks
unfolding count
count-stand none = refl
count-stand (past {ks} {hs} x h n s) = ap (λ b. cond b 1 0 + count is_held hs) h ∙ (let e = count-stand s in omega arith)
count-stand (held {ks} {hs} k c g t n s) = ap (λ b. cond b 1 0 + count is_held hs) (whole-held k.running) ∙ (let e = count-stand s in omega arith)

-- numbers
pub find-in : (t : ℕ) (hs : List ClientChannel) (x : ClientChannel) → find number_of t hs ≡ Some x → is_in t (numbers number_of hs) ≡ true
unfolding find numbers is_in
find-in t [] x h = cc
find-in t (y ∷ ys) x h = go (eqb y.number t) (λ e. find-in t ys x e) h
  where
    go : (b : Bool) → (find number_of t ys ≡ Some x → is_in t (numbers number_of ys) ≡ true) → cond b (Some y) (find number_of t ys) ≡ Some x → cond b true (is_in t (numbers number_of ys)) ≡ true
    go true r e = refl
    go false r e = r e

pub change-none : (t : ℕ) (f : ClientChannel → ClientChannel) (hs : List ClientChannel) → is_in t (numbers number_of hs) ≡ false → change number_of t f hs ≡ hs
unfolding change numbers is_in
change-none t f [] h = refl
change-none t f (y ∷ ys) h = go (eqb y.number t) (λ e. change-none t f ys e) h
  where
    go : (b : Bool) → (is_in t (numbers number_of ys) ≡ false → change number_of t f ys ≡ ys) → cond b true (is_in t (numbers number_of ys)) ≡ false → cond b (f y) y ∷ change number_of t f ys ≡ y ∷ ys
    go true r e = cc
    go false r e = ap (λ z. y ∷ z) (r e)

pub is_in-push : (n : ℕ) (hs : List ClientChannel) (y : ClientChannel) → is_in n (numbers number_of (hs ++ y ∷ [])) ≡ (is_in n (numbers number_of hs) || eqb y.number n)
unfolding numbers is_in
is_in-push n [] y = go (eqb y.number n)
  where
    go : (b : Bool) → cond b true false ≡ b
    go true = refl
    go false = refl
is_in-push n (x ∷ xs) y = ap (cond (eqb x.number n) true) (is_in-push n xs y) ∙ go (eqb x.number n) (is_in n (numbers number_of xs)) (eqb y.number n)
  where
    go : (b r s : Bool) → cond b true (r || s) ≡ (cond b true r || s)
    go true r s = refl
    go false r s = refl

pub above-push : (n : ℕ) (hs : List ClientChannel) (y : ClientChannel) → above n (numbers number_of (hs ++ y ∷ [])) ≡ (above n (numbers number_of hs) && ltb y.number n)
unfolding numbers above
above-push n [] y = go (ltb y.number n)
  where
    go : (b : Bool) → (b && true) ≡ b
    go true = refl
    go false = refl
above-push n (x ∷ xs) y = ap (λ z. ltb x.number n && z) (above-push n xs y) ∙ go (ltb x.number n) (above n (numbers number_of xs)) (ltb y.number n)
  where
    go : (b r s : Bool) → (b && (r && s)) ≡ ((b && r) && s)
    go true r s = refl
    go false r s = refl

-- a number above all is not among them
push-in : (n t : ℕ) (hs : List ClientChannel) (y : ClientChannel) → y.number ≡ t → n < t → is_in n (numbers number_of hs) ≡ false → is_in n (numbers number_of (hs ++ y ∷ [])) ≡ false
push-in n t hs y e l h = is_in-push n hs y ∙ ap (λ z. z || eqb y.number n) h ∙ ne_eqb y.number n (λ q. omega arith)

pub push-stand : {ks : List Kept} {hs : List ClientChannel} → Stand ks hs → (t command : ℕ) → above t (numbers number_of hs) ≡ true → Stand (ks ++ fresh t ∷ []) (hs ++ new_channel t command ∷ [])
unfolding numbers above is_in
push-stand none t c a = held (fresh t) c [] [] refl none
push-stand (past {ks} {hs} x h n s) t c a =
    let p = and_parts (ltb x.number t) (above t (numbers number_of hs)) a in
    past x h (push-in x.number t hs (new_channel t c) refl (ltb-true x.number t p.0) n) (push-stand s t c p.1)
push-stand (held {ks} {hs} k m g u n s) t c a =
    let p = and_parts (ltb k.number t) (above t (numbers number_of hs)) a in
    held k m g u (push-in k.number t hs (new_channel t c) refl (ltb-true k.number t p.0) n) (push-stand s t c p.1)

-- one channel among them: how it is found, and what becomes of all when it is changed
pub record Focus (ks : List Kept) (hs : List ClientChannel) (i : ℕ) (k : Kept) : Type 0 where
  pub command : ℕ
  pub went : List ℕ
  pub taken : List ℕ
  pub found : find number_of k.number hs ≡ Some (whole k command went taken)
  pub keeps : (f : ClientChannel → ClientChannel) (k' : Kept) (g t : List ℕ) → k'.number ≡ k.number → f (whole k command went taken) ≡ whole k' command g t → Stand (set ks i k') (change number_of k.number f hs)
  pub drops : (f : ClientChannel → ClientChannel) → (f (whole k command went taken)).number ≡ k.number → is_held (f (whole k command went taken)) ≡ false → Stand (remove ks i) (change number_of k.number f hs)
  pub numbered : (f : ClientChannel → ClientChannel) → (f (whole k command went taken)).number ≡ k.number → numbers number_of (change number_of k.number f hs) ≡ numbers number_of hs
  pub flushes : (f : ClientChannel → ClientChannel) → flushed (f (whole k command went taken)) ≡ flushed (whole k command went taken) → each flushed (change number_of k.number f hs) ≡ each flushed hs

-- past a channel of another number
other : (n t : ℕ) (hs : List ClientChannel) → is_in n (numbers number_of hs) ≡ false → is_in t (numbers number_of hs) ≡ true → eqb n t ≡ false
other n t hs a b = ne_eqb n t (λ e. let q : is_in n (numbers number_of hs) ≡ true = ap (λ j. is_in j (numbers number_of hs)) e ∙ b in cc)

over-find : (x : ClientChannel) (t : ℕ) (hs : List ClientChannel) → eqb x.number t ≡ false → find number_of t (x ∷ hs) ≡ find number_of t hs
unfolding find
over-find x t hs e = cond-false (eqb x.number t) _ _ e

over-change : (x : ClientChannel) (t : ℕ) (f : ClientChannel → ClientChannel) (hs : List ClientChannel) → eqb x.number t ≡ false → change number_of t f (x ∷ hs) ≡ x ∷ change number_of t f hs
unfolding change
over-change x t f hs e = ap (λ z. z ∷ change number_of t f hs) (cond-false (eqb x.number t) (f x) x e)

here-change : (x : ClientChannel) (f : ClientChannel → ClientChannel) (hs : List ClientChannel) → is_in x.number (numbers number_of hs) ≡ false → change number_of x.number f (x ∷ hs) ≡ f x ∷ hs
unfolding change
here-change x f hs n = ap (λ z. z ∷ change number_of x.number f hs) (cond-true (eqb x.number x.number) (f x) x (eq-eqb x.number x.number refl)) ∙ ap (λ z. f x ∷ z) (change-none x.number f hs n)

here-find : (x : ClientChannel) (hs : List ClientChannel) → find number_of x.number (x ∷ hs) ≡ Some x
unfolding find
here-find x hs = cond-true (eqb x.number x.number) _ _ (eq-eqb x.number x.number refl)

numbers-cons : (x : ClientChannel) (hs : List ClientChannel) → numbers number_of (x ∷ hs) ≡ x.number ∷ numbers number_of hs
unfolding numbers
numbers-cons x hs = refl

each-cons : (x : ClientChannel) (hs : List ClientChannel) → each flushed (x ∷ hs) ≡ flushed x ∷ each flushed hs
unfolding each
each-cons x hs = refl

-- a number stays apart when others are changed
apart : (n : ℕ) (ys zs : List ℕ) → ys ≡ zs → is_in n zs ≡ false → is_in n ys ≡ false
apart n ys zs e h = ap (is_in n) e ∙ h

over-numbered : (x : ClientChannel) (ys bs cs : List ClientChannel) → cs ≡ x ∷ ys → numbers number_of ys ≡ numbers number_of bs → numbers number_of cs ≡ numbers number_of (x ∷ bs)
over-numbered x ys bs cs e h = ap (numbers number_of) e ∙ numbers-cons x ys ∙ ap (λ z. x.number ∷ z) h ∙ sym (numbers-cons x bs)

over-flushes : (x : ClientChannel) (ys bs cs : List ClientChannel) → cs ≡ x ∷ ys → each flushed ys ≡ each flushed bs → each flushed cs ≡ each flushed (x ∷ bs)
over-flushes x ys bs cs e h = ap (each flushed) e ∙ each-cons x ys ∙ ap (λ z. flushed x ∷ z) h ∙ sym (each-cons x bs)

first-focus : {ks : List Kept} {hs : List ClientChannel} (k : Kept) (c : ℕ) (g t : List ℕ) → is_in k.number (numbers number_of hs) ≡ false → Stand ks hs → Focus (k ∷ ks) (whole k c g t ∷ hs) 0 k
first-focus {ks} {hs} k c g t n s =
    record {
      command = c;
      went = g;
      taken = t;
      found = here-find (whole k c g t) hs;
      keeps = λ f k' g' t' en ef. subst (λ z. Stand (k' ∷ ks) z) (sym (here-change (whole k c g t) f hs n ∙ ap (λ z. z ∷ hs) ef)) (held k' c g' t' (ap (λ j. is_in j (numbers number_of hs)) en ∙ n) s);
      drops = λ f en nh. subst (λ z. Stand ks z) (sym (here-change (whole k c g t) f hs n)) (past (f (whole k c g t)) nh (ap (λ j. is_in j (numbers number_of hs)) en ∙ n) s);
      numbered = λ f en. ap (numbers number_of) (here-change (whole k c g t) f hs n) ∙ numbers-cons (f (whole k c g t)) hs ∙ ap (λ z. z ∷ numbers number_of hs) en ∙ sym (numbers-cons (whole k c g t) hs);
      flushes = λ f ef. ap (each flushed) (here-change (whole k c g t) f hs n) ∙ each-cons (f (whole k c g t)) hs ∙ ap (λ z. z ∷ each flushed hs) ef ∙ sym (each-cons (whole k c g t) hs);
    }

past-focus : {ks : List Kept} {hs : List ClientChannel} {i : ℕ} {k : Kept} (x : ClientChannel) → is_held x ≡ false → is_in x.number (numbers number_of hs) ≡ false → Focus ks hs i k → Focus ks (x ∷ hs) i k
past-focus {ks} {hs} {i} {k} x h n o =
    let e = other x.number k.number hs n (find-in k.number hs _ o.found) in
    record {
      command = o.command;
      went = o.went;
      taken = o.taken;
      found = over-find x k.number hs e ∙ o.found;
      keeps = λ f k' g t en ef. subst (λ z. Stand (set ks i k') z) (sym (over-change x k.number f hs e)) (past x h (apart x.number _ _ (o.numbered f (ap number_of ef ∙ en)) n) (o.keeps f k' g t en ef));
      drops = λ f en nh. subst (λ z. Stand (remove ks i) z) (sym (over-change x k.number f hs e)) (past x h (apart x.number _ _ (o.numbered f en) n) (o.drops f en nh));
      numbered = λ f en. over-numbered x (change number_of k.number f hs) hs _ (over-change x k.number f hs e) (o.numbered f en);
      flushes = λ f ef. over-flushes x (change number_of k.number f hs) hs _ (over-change x k.number f hs e) (o.flushes f ef);
    }

held-focus : {ks : List Kept} {hs : List ClientChannel} {i : ℕ} {k : Kept} (j : Kept) (c : ℕ) (g t : List ℕ) → is_in j.number (numbers number_of hs) ≡ false → Focus ks hs i k → Focus (j ∷ ks) (whole j c g t ∷ hs) (suc i) k
held-focus {ks} {hs} {i} {k} j c g t n o =
    let x = whole j c g t in
    let e = other j.number k.number hs n (find-in k.number hs _ o.found) in
    record {
      command = o.command;
      went = o.went;
      taken = o.taken;
      found = over-find x k.number hs e ∙ o.found;
      keeps = λ f k' g' t' en ef. subst (λ z. Stand (j ∷ set ks i k') z) (sym (over-change x k.number f hs e)) (held j c g t (apart j.number _ _ (o.numbered f (ap number_of ef ∙ en)) n) (o.keeps f k' g' t' en ef));
      drops = λ f en nh. subst (λ z. Stand (j ∷ remove ks i) z) (sym (over-change x k.number f hs e)) (held j c g t (apart j.number _ _ (o.numbered f en) n) (o.drops f en nh));
      numbered = λ f en. over-numbered x (change number_of k.number f hs) hs _ (over-change x k.number f hs e) (o.numbered f en);
      flushes = λ f ef. over-flushes x (change number_of k.number f hs) hs _ (over-change x k.number f hs e) (o.flushes f ef);
    }

pub focus : {ks : List Kept} {hs : List ClientChannel} → Stand ks hs → (i : ℕ) (d : Kept) → i < length ks → Focus ks hs i (get_or ks i d)
focus none i d l = absurd (let z : i < 0 = l in omega arith)
focus (past x h n s) i d l = past-focus x h n (focus s i d l)
focus (held k c g t n s) zero d l = first-focus k c g t n s
focus (held {ks} k c g t n s) (suc i) d l = held-focus k c g t n (focus s i d (let z : suc i < suc (length ks) = l in omega arith))

-- a number that is not among those held: never used, or of a channel that was
abbrev pub Absent : ℕ → List ClientChannel → Type 0
Absent t hs =
    ((find number_of t hs ≡ None) × (is_in t (numbers number_of hs) ≡ false))
    ⊎ ((x : ClientChannel) × (find number_of t hs ≡ Some x) × (is_held x ≡ false) × (change number_of t (λ _. x) hs ≡ hs) × (is_in t (numbers number_of hs) ≡ true))

over-in : (x : ClientChannel) (t : ℕ) (hs : List ClientChannel) → eqb x.number t ≡ false → is_in t (numbers number_of (x ∷ hs)) ≡ is_in t (numbers number_of hs)
unfolding numbers is_in
over-in x t hs e = cond-false (eqb x.number t) _ _ e

here_in : (x : ClientChannel) (hs : List ClientChannel) → is_in x.number (numbers number_of (x ∷ hs)) ≡ true
unfolding numbers is_in
here_in x hs = cond-true (eqb x.number x.number) _ _ (eq-eqb x.number x.number refl)

over-absent : (x : ClientChannel) (t : ℕ) (hs : List ClientChannel) → eqb x.number t ≡ false → Absent t hs → Absent t (x ∷ hs)
over-absent x t hs e (inl a) = inl (over-find x t hs e ∙ a.0, over-in x t hs e ∙ a.1)
over-absent x t hs e (inr a) = inr (a.0, over-find x t hs e ∙ a.1, a.2, over-change x t (λ _. a.0) hs e ∙ ap (λ z. x ∷ z) a.3, over-in x t hs e ∙ a.4)

pub absent : {ks : List Kept} {hs : List ClientChannel} → Stand ks hs → (t : ℕ) → ((i : ℕ) (d : Kept) → i < length ks → (get_or ks i d).number ≡ t → ⊥) → Absent t hs
unfolding find numbers is_in
absent none t h = inl (refl, refl)
absent (past {ks} {hs} x nh n s) t h =
    ⊎_elim
    (λ e. subst (λ j. Absent j (x ∷ hs)) e (inr (x, here-find x hs, nh, here-change x (λ _. x) hs n, here_in x hs)))
    (λ e. over-absent x t hs (ne_eqb x.number t e) (absent s t h))
    (cases_eq x.number t)
absent (held {ks} {hs} k c g u n s) t h = over-absent (whole k c g u) t hs (ne_eqb k.number t (h 0 k (omega arith))) (absent s t (λ i d l. h (suc i) d (omega arith)))
