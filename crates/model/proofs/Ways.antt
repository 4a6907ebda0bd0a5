-- The messages of one channel on a way. Assumes nothing.
use Rattle.std.proofs.Common.{◌≡◌, ℕ, Bool, true, false, cond, eqb, List, [], ◌∷◌, ◌++◌, Some, None, Option, refl, ap, ◌∙◌, append-nil, arith}
use Rattle.std.proofs.lemmas.Bool.{eqb-true}
use Rattle.model.specs.Keyed.{find, numbers, is_in, Rising, gather}
use Rattle.model.specs.Messages.{Request, Reply, ToServer, Login, Tick, For, ToClient, Accepted, Tock, Of}
use Rattle.model.specs.Client.{labelled}
use Rattle.model.specs.Server.{returned}
use Rattle.model.proofs.Finds.{rising-tail, rising-first}

-- the requests of channel t that are on the way
unfoldable pub asks : ℕ → List ToServer → List Request
asks t [] = []
asks t (Login u q ∷ ms) = asks t ms
asks t (Tick ∷ ms) = asks t ms
asks t (For k m ∷ ms) = cond (eqb k t) (m ∷ asks t ms) (asks t ms)

-- the replies
unfoldable pub tells-of : ℕ → List ToClient → List Reply
tells-of t [] = []
tells-of t (Accepted b ∷ ms) = tells-of t ms
tells-of t (Tock ∷ ms) = tells-of t ms
tells-of t (Of k m ∷ ms) = cond (eqb k t) (m ∷ tells-of t ms) (tells-of t ms)

pub asks_append : (t : ℕ) (a b : List ToServer) → asks t (a ++ b) ≡ asks t a ++ asks t b
unfolding asks
asks_append t [] b = refl
asks_append t (Login u q ∷ ms) b = asks_append t ms b
asks_append t (Tick ∷ ms) b = asks_append t ms b
asks_append t (For k m ∷ ms) b = go (eqb k t) (asks_append t ms b)
  where
    go : (c : Bool) → asks t (ms ++ b) ≡ asks t ms ++ asks t b → cond c (m ∷ asks t (ms ++ b)) (asks t (ms ++ b)) ≡ cond c (m ∷ asks t ms) (asks t ms) ++ asks t b
    go true ih = ap (λ l. m ∷ l) ih
    go false ih = ih

pub tells-append : (t : ℕ) (a b : List ToClient) → tells-of t (a ++ b) ≡ tells-of t a ++ tells-of t b
unfolding tells-of
tells-append t [] b = refl
tells-append t (Accepted u ∷ ms) b = tells-append t ms b
tells-append t (Tock ∷ ms) b = tells-append t ms b
tells-append t (Of k m ∷ ms) b = go (eqb k t) (tells-append t ms b)
  where
    go : (c : Bool) → tells-of t (ms ++ b) ≡ tells-of t ms ++ tells-of t b → cond c (m ∷ tells-of t (ms ++ b)) (tells-of t (ms ++ b)) ≡ cond c (m ∷ tells-of t ms) (tells-of t ms) ++ tells-of t b
    go true ih = ap (λ l. m ∷ l) ih
    go false ih = ih

pub asks-labelled : (t k : ℕ) (ms : List Request) → asks t (labelled k ms) ≡ cond (eqb k t) ms []
unfolding asks labelled
asks-labelled t k [] = go (eqb k t)
  where
    go : (c : Bool) → ◌≡◌ {A = List Request} [] (cond c [] [])
    go true = refl
    go false = refl
asks-labelled t k (m ∷ ms) = let ih = asks-labelled t k ms in go (eqb k t) ih
  where
    go : (c : Bool) → asks t (labelled k ms) ≡ cond c ms [] → cond c (m ∷ asks t (labelled k ms)) (asks t (labelled k ms)) ≡ cond c (m ∷ ms) []
    go true ih = ap (λ l. m ∷ l) ih
    go false ih = ih

pub tells-returned : (t k : ℕ) (ms : List Reply) → tells-of t (returned k ms) ≡ cond (eqb k t) ms []
unfolding tells-of returned
tells-returned t k [] = go (eqb k t)
  where
    go : (c : Bool) → ◌≡◌ {A = List Reply} [] (cond c [] [])
    go true = refl
    go false = refl
tells-returned t k (m ∷ ms) = let ih = tells-returned t k ms in go (eqb k t) ih
  where
    go : (c : Bool) → tells-of t (returned k ms) ≡ cond c ms [] → cond c (m ∷ tells-of t (returned k ms)) (tells-of t (returned k ms)) ≡ cond c (m ∷ ms) []
    go true ih = ap (λ l. m ∷ l) ih
    go false ih = ih

-- what a channel that was found has
abbrev pub those : {X M : Type 0} → (X → List M) → Option X → List M
those g None = []
those g (Some x) = g x

-- of what all channels send, what one of them does, where numbers rise
module _ {X M N : Type 0} (key : X → ℕ) (own : ℕ → List M → List N) (own-append : (t : ℕ) (a b : List M) → own t (a ++ b) ≡ own t a ++ own t b) (own-nil : (t : ℕ) → own t [] ≡ [])
    (sends : X → List M) (g : X → List N) (own-sends : (t : ℕ) (x : X) → own t (sends x) ≡ cond (eqb (key x) t) (g x) []) where
  own-none : (t : ℕ) (xs : List X) → is_in t (numbers key xs) ≡ false → own t (gather sends xs) ≡ []
  unfolding gather numbers is_in
  own-none t [] h = own-nil t
  own-none t (x ∷ xs) h = own-append t (sends x) (gather sends xs) ∙ go (eqb (key x) t) (own-sends t x) h (own-none t xs)
    where
      go : (b : Bool) → own t (sends x) ≡ cond b (g x) [] → cond b true (is_in t (numbers key xs)) ≡ false → (is_in t (numbers key xs) ≡ false → own t (gather sends xs) ≡ []) → own t (sends x) ++ own t (gather sends xs) ≡ []
      go true e q ih = absurd (let z : ◌≡◌ {A = ℕ} 0 1 = cc in omega arith)
      go false e q ih = let z = ih q in ap (λ l. l ++ own t (gather sends xs)) e ∙ z

  pub own-gather : (t : ℕ) (xs : List X) → Rising (numbers key xs) → own t (gather sends xs) ≡ those g (find key t xs)
  unfolding gather numbers find
  own-gather t [] h = own-nil t
  own-gather t (x ∷ xs) h = own-append t (sends x) (gather sends xs) ∙ go (eqb (key x) t) refl (own-sends t x) (own-gather t xs (rising-tail (key x) (numbers key xs) h)) (is_in t (numbers key xs)) refl
    where
      go : (b : Bool) → eqb (key x) t ≡ b → own t (sends x) ≡ cond b (g x) [] → own t (gather sends xs) ≡ those g (find key t xs) → (c : Bool) → is_in t (numbers key xs) ≡ c → own t (sends x) ++ own t (gather sends xs) ≡ those g (cond b (Some x) (find key t xs))
      go true q e ih true i = absurd (let l = rising-first (key x) t (numbers key xs) h i in let z = eqb-true (key x) t q in omega arith)
      go true q e ih false i = ap (λ l. own t (sends x) ++ l) (own-none t xs i) ∙ append-nil (own t (sends x)) ∙ e
      go false q e ih c i = ap (λ l. l ++ own t (gather sends xs)) e ∙ ih
