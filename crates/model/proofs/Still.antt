-- A side with nothing left that may be sent: its flush changes and sends nothing, but for one channel that was changed. Assumes nothing.
use Rattle.std.proofs.Common.{◌≡◌, ℕ, zero, suc, ◌+◌, ◌≤◌, Bool, true, false, cond, ◌&&◌, ◌||◌, eqb, List, [], ◌∷◌, ◌++◌, length, Some, None, Option, sym, refl, ap, ◌∙◌, append_assoc, append-nil, arith}
use mathlib.Core.List.{Memᴰ}
use Rattle.std.proofs.lemmas.List.{nil_from_length}
use Rattle.std.proofs.lemmas.Bool.{eqb-true, true≢false, cond-true, cond-false}
use Rattle.model.specs.Keyed.{find, change, numbers, is_in, Rising, gather, each}
use Rattle.model.specs.Messages.{Rules, Eof, Close, parts, is_some}
use Rattle.model.specs.Client.{Client, ClientChannel, runs, inputs, requests, goes, eof_now, close_now, flushed, flushed_running}
use Rattle.model.specs.Server.{ServerChannel, outputs, exit_reply, replies, goes_back, exit_now, sent_back, sent_kept}
use Rattle.model.proofs.Finds.{found, rising-tail, rising-first}

module _ {X : Type 0} where
  pub each-still : (f : X → X) (xs : List X) → ((x : X) → Memᴰ x xs → f x ≡ x) → each f xs ≡ xs
  unfolding each
  each-still f [] h = refl
  each-still f (x ∷ xs) h = let a = h x (Memᴰ.head refl) in let b = each-still f xs (λ y m. h y (Memᴰ.tail m)) in cc

  pub gather-still : {M : Type 0} (g : X → List M) (xs : List X) → ((x : X) → Memᴰ x xs → g x ≡ []) → gather g xs ≡ []
  unfolding gather
  gather-still g [] h = refl
  gather-still g (x ∷ xs) h = let b = gather-still g xs (λ y m. h y (Memᴰ.tail m)) in ap (λ l. l ++ gather g xs) (h x (Memᴰ.head refl)) ∙ b

  pub gather_append : {M : Type 0} (g : X → List M) (xs ys : List X) → gather g (xs ++ ys) ≡ gather g xs ++ gather g ys
  unfolding gather
  gather_append g [] ys = refl
  gather_append g (x ∷ xs) ys = ap (λ l. g x ++ l) (gather_append g xs ys) ∙ sym (append_assoc (g x) (gather g xs) (gather g ys))

  pub each_append : (f : X → X) (xs ys : List X) → each f (xs ++ ys) ≡ each f xs ++ each f ys
  unfolding each
  each_append f [] ys = refl
  each_append f (x ∷ xs) ys = ap (λ l. f x ∷ l) (each_append f xs ys)

  module _ (key : X → ℕ) where
    -- nothing is changed where the number is not
    pub change-none : (t : ℕ) (f : X → X) (xs : List X) → is_in t (numbers key xs) ≡ false → change key t f xs ≡ xs
    unfolding change numbers is_in
    change-none t f [] h = refl
    change-none t f (x ∷ xs) h = go (eqb (key x) t) h (change-none t f xs)
      where
        go : (b : Bool) → cond b true (is_in t (numbers key xs)) ≡ false → (is_in t (numbers key xs) ≡ false → change key t f xs ≡ xs) → cond b (f x) x ∷ change key t f xs ≡ x ∷ xs
        go true q ih = absurd (true≢false q)
        go false q ih = ap (λ l. x ∷ l) (ih q)

    not-later : (x : X) (t : ℕ) (xs : List X) → Rising (key x ∷ numbers key xs) → eqb (key x) t ≡ true → is_in t (numbers key xs) ≡ false
    not-later x t xs h e = go (is_in t (numbers key xs)) refl
      where
        go : (b : Bool) → is_in t (numbers key xs) ≡ b → b ≡ false
        go true i = absurd (let l = rising-first (key x) t (numbers key xs) h i in let z = eqb-true (key x) t e in omega arith)
        go false i = refl

    -- to put a channel where it is changes nothing
    pub change-same : (t : ℕ) (x : X) (xs : List X) → Rising (numbers key xs) → find key t xs ≡ Some x → change key t (λ _. x) xs ≡ xs
    unfolding change numbers find
    change-same t x [] h e = refl
    change-same t x (y ∷ ys) h e = go (eqb (key y) t) refl e (change-same t x ys (rising-tail (key y) (numbers key ys) h))
      where
        go : (b : Bool) → eqb (key y) t ≡ b → cond b (Some y) (find key t ys) ≡ Some x → (find key t ys ≡ Some x → change key t (λ _. x) ys ≡ ys) → cond b x y ∷ change key t (λ _. x) ys ≡ y ∷ ys
        go true q f ih = let z : x ≡ y = cc in let c = change-none t (λ _. x) ys (not-later y t ys h q) in cc
        go false q f ih = ap (λ l. y ∷ l) (ih f)

    -- of all channels only the one that was changed has something
    pub gather-one : {M : Type 0} (g : X → List M) (t : ℕ) (x y : X) (xs : List X) → Rising (numbers key xs) → find key t xs ≡ Some x → ((z : X) → Memᴰ z xs → g z ≡ []) → gather g (change key t (λ _. y) xs) ≡ g y
    unfolding change numbers find gather
    gather-one g t x y [] r e h = absurd (let z : ◌≡◌ {A = ℕ} 0 1 = cc in omega arith)
    gather-one g t x y (z ∷ zs) r e h = go (eqb (key z) t) refl e (λ f. gather-one g t x y zs (rising-tail (key z) (numbers key zs) r) f (λ w m. h w (Memᴰ.tail m)))
      where
        go : (b : Bool) → eqb (key z) t ≡ b → cond b (Some z) (find key t zs) ≡ Some x → (find key t zs ≡ Some x → gather g (change key t (λ _. y) zs) ≡ g y) → g (cond b y z) ++ gather g (change key t (λ _. y) zs) ≡ g y
        go true q f ih = ap (λ l. g y ++ gather g l) (change-none t (λ _. y) zs (not-later z t zs r q)) ∙ ap (λ l. g y ++ l) (gather-still g zs (λ w m. h w (Memᴰ.tail m))) ∙ append-nil (g y)
        go false q f ih = ap (λ l. l ++ gather g (change key t (λ _. y) zs)) (h z (Memᴰ.head refl)) ∙ ih f

    -- what is said of each that is found is said of each member
    pub of_members : {Y : Type 0} (g : X → List Y) (xs : List X) → Rising (numbers key xs) → ((t : ℕ) (x : X) → find key t xs ≡ Some x → g x ≡ []) → (x : X) → Memᴰ x xs → g x ≡ []
    of_members g xs r h x m = h (key x) x (found key x xs r m)

append-none : {A : Type 0} (a b : List A) → a ++ b ≡ [] → (a ≡ []) × (b ≡ [])
append-none [] b e = (refl, e)
append-none (x ∷ xs) b e = absurd (let z : ◌≡◌ {A = ℕ} 0 1 = cc in omega arith)

inputs-none : (k p : ℕ) (bs : List ℕ) → length bs ≤ k → inputs (parts k p bs) ≡ [] → bs ≡ []
unfolding inputs parts
inputs-none zero p bs l e = nil_from_length bs (omega arith)
inputs-none (suc k) p [] l e = refl
inputs-none (suc k) p (b ∷ bs) l e = absurd (let z : ◌≡◌ {A = ℕ} 0 1 = cc in omega arith)

outputs-none : (k p : ℕ) (bs : List ℕ) → length bs ≤ k → outputs (parts k p bs) ≡ [] → bs ≡ []
unfolding outputs parts
outputs-none zero p bs l e = nil_from_length bs (omega arith)
outputs-none (suc k) p [] l e = refl
outputs-none (suc k) p (b ∷ bs) l e = absurd (let z : ◌≡◌ {A = ℕ} 0 1 = cc in omega arith)

cond-none : {A : Type 0} (b : Bool) (x : A) → cond b (x ∷ []) [] ≡ [] → b ≡ false
cond-none true x e = absurd (let z : ◌≡◌ {A = ℕ} 0 1 = cc in omega arith)
cond-none false x e = refl

-- a channel that runs and may send nothing
pub requests-none : (r : Rules) (x : ClientChannel) → runs x.phase ≡ true → requests r x ≡ [] → (goes x ≡ []) × (eof_now x ≡ false) × (close_now x ≡ false)
requests-none r x h e = go (sym (cond-true (runs x.phase) (inputs (parts (length (goes x)) r.part (goes x)) ++ (cond (eof_now x) (Eof ∷ []) [] ++ cond (close_now x) (Close ∷ []) [])) [] h) ∙ e)
  where
    go : inputs (parts (length (goes x)) r.part (goes x)) ++ (cond (eof_now x) (Eof ∷ []) [] ++ cond (close_now x) (Close ∷ []) []) ≡ [] → (goes x ≡ []) × (eof_now x ≡ false) × (close_now x ≡ false)
    go q = let a = append-none (inputs (parts (length (goes x)) r.part (goes x))) (cond (eof_now x) (Eof ∷ []) [] ++ cond (close_now x) (Close ∷ []) []) q in
        let b = append-none (cond (eof_now x) (Eof ∷ []) []) (cond (close_now x) (Close ∷ []) []) a.1 in
        (inputs-none (length (goes x)) r.part (goes x) (omega arith) a.0, cond-none (eof_now x) Eof b.0, cond-none (close_now x) Close b.1)

or-false : (b c : Bool) → c ≡ false → (b || c) ≡ b
or-false true c e = refl
or-false false c e = e

pub flushed-still : (r : Rules) (x : ClientChannel) → requests r x ≡ [] → flushed x ≡ x
flushed-still r x e = go (runs x.phase) refl
  where
    go : (b : Bool) → runs x.phase ≡ b → cond b (flushed_running x) x ≡ x
    go true q = let z = requests-none r x q e in
        let s : x.sent + length (goes x) ≡ x.sent = let l = ap length z.0 in omega arith in
        λ i. record { number = x.number; command = x.command; phase = ap (λ b. cond b Rattle.model.specs.Client.Closed x.phase) z.2 i; input = x.input; sent = s i; may = x.may; eof = x.eof; said = or-false x.said (eof_now x) z.1 i; got = x.got; taken = x.taken; exit = x.exit }
    go false q = refl

exit-none : (b : Bool) (o : Option ℕ) → exit_reply b o ≡ [] → (b && is_some o) ≡ false
exit-none true None e = refl
exit-none true (Some n) e = absurd (let z : ◌≡◌ {A = ℕ} 0 1 = cc in omega arith)
exit-none false o e = refl

module _ {S : Type 0} where
  pub replies-none : (r : Rules) (f : ServerChannel S) → f.forgotten ≡ false → replies r f ≡ [] → (goes_back f ≡ []) × ((exit_now f && is_some f.exit) ≡ false)
  replies-none r f h e = go (sym (cond-false f.forgotten [] (outputs (parts (length (goes_back f)) r.part (goes_back f)) ++ exit_reply (exit_now f) f.exit) h) ∙ e)
    where
      go : outputs (parts (length (goes_back f)) r.part (goes_back f)) ++ exit_reply (exit_now f) f.exit ≡ [] → (goes_back f ≡ []) × ((exit_now f && is_some f.exit) ≡ false)
      go q = let a = append-none (outputs (parts (length (goes_back f)) r.part (goes_back f))) (exit_reply (exit_now f) f.exit) q in
          (outputs-none (length (goes_back f)) r.part (goes_back f) (omega arith) a.0, exit-none (exit_now f) f.exit a.1)

  pub sent_back-still : (r : Rules) (f : ServerChannel S) → replies r f ≡ [] → sent_back f ≡ f
  sent_back-still r f e = go f.forgotten refl
    where
      go : (b : Bool) → f.forgotten ≡ b → cond b f (sent_kept f) ≡ f
      go true q = refl
      go false q = let z = replies-none r f q e in
          let s : f.sent + length (goes_back f) ≡ f.sent = let l = ap length z.0 in omega arith in
          λ i. record { number = f.number; command = f.command; user = f.user; state = f.state; input = f.input; read = f.read; eof = f.eof; wrote = f.wrote; sent = s i; may = f.may; exit = f.exit; said = or-false f.said (exit_now f && is_some f.exit) z.1 i; left = f.left; forgotten = f.forgotten }
