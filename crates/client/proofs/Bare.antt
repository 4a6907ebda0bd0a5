-- One channel: what it sends by itself does not depend on its past; what flushing makes of it; its next request.
use Rattle.std.proofs.Common.{◌≡◌, ℕ, ◌+◌, ◌-◌, Bool, true, false, cond, not, ◌&&◌, ◌||◌, eqb, List, [], ◌∷◌, ◌++◌, length, sym, refl, ap, ◌∙◌, ⊎_elim, arith}
use Rattle.std.proofs.lemmas.List.{length-append, drop_at}
use Rattle.std.proofs.lemmas.Bool.Decides.{nat_tests}
use Rattle.std.proofs.lemmas.Bool.{cases_Bool, cond-true, cond-false}
use Rattle.model.specs.Messages.{Request, Eof, Close, parts, is_some}
use Rattle.model.specs.Client.{Closed, ClientChannel, runs, goes, eof_now, close_now, inputs, requests, flushed, flushed_running}
use Rattle.client_channel.specs.Kept.{Kept}
use Rattle.client_channel.specs.Steps.{goes_of}
use Rattle.client.specs.Stand.{phase_of, whole, limits}

abbrev pub eof_k : Kept → Bool
eof_k k = k.eof && (eqb (length (goes_of k)) (length k.waiting) && not k.said)

abbrev pub close_k : Kept → Bool
close_k k = is_some k.exit && eqb (length k.unseen) 0

-- what it sends by itself, without the past
abbrev pub requests_k : Kept → List Request
requests_k k = cond k.running (inputs (parts (length (goes_of k)) 1024 (goes_of k)) ++ (cond (eof_k k) (Eof ∷ []) [] ++ cond (close_k k) (Close ∷ []) [])) []

module _ (k : Kept) (c : ℕ) (g t : List ℕ) where
  goes-whole : goes (whole k c g t) ≡ goes_of k
  goes-whole = let e : length g + k.credit - length g ≡ k.credit = omega arith in let d = drop_at g k.waiting (length g) refl in cc

  eof-whole : eof_now (whole k c g t) ≡ eof_k k
  eof-whole =
      let l = length-append g k.waiting in
      let e : eqb (length g + length (goes (whole k c g t))) (length (g ++ k.waiting)) ≡ eqb (length (goes_of k)) (length k.waiting) = (let z = ap length goes-whole in grind (arith, nat_tests)) in
      ap (λ b. k.eof && (b && not k.said)) e

  close-whole : close_now (whole k c g t) ≡ close_k k
  close-whole =
      let l = length-append t k.unseen in
      let e : eqb (length t) (length (t ++ k.unseen)) ≡ eqb (length k.unseen) 0 = grind (arith, nat_tests) in
      ap (λ b. is_some k.exit && b) e

  runs-whole : runs (phase_of k.running) ≡ k.running
  runs-whole = go k.running
    where
      go : (b : Bool) → runs (phase_of b) ≡ b
      go true = refl
      go false = refl

  pub requests-whole : requests limits (whole k c g t) ≡ requests_k k
  requests-whole = rw (eof-whole, close-whole, runs-whole, goes-whole)

  -- a channel that runs, flushed
  abbrev pub shape : ClientChannel
  shape = record (whole k c g t) { phase = cond (close_k k) Closed (phase_of k.running); sent = length g + length (goes_of k); said = k.said || eof_k k }

  pub flushed-whole : k.running ≡ true → flushed (whole k c g t) ≡ shape
  flushed-whole h =
      cond-true (runs (phase_of k.running)) (flushed_running (whole k c g t)) (whole k c g t) (runs-whole ∙ h)
      ∙ (λ i. record (whole k c g t) { phase = cond (close-whole i) Closed (phase_of k.running); sent = length g + length (goes-whole i); said = k.said || eof-whole i })

  pub flushed-asked : k.running ≡ false → flushed (whole k c g t) ≡ whole k c g t
  flushed-asked h = cond-false (runs (phase_of k.running)) (flushed_running (whole k c g t)) (whole k c g t) (runs-whole ∙ h)

pub or-false : (a b : Bool) → b ≡ false → (a || b) ≡ a
or-false true b h = refl
or-false false b h = h

-- a channel with nothing to send is flushed already
app_nil : (xs ys : List Request) → xs ++ ys ≡ [] → (xs ≡ []) × (ys ≡ [])
app_nil [] ys h = (refl, h)
app_nil (x ∷ xs) ys h = cc

one-nil : (b : Bool) (q : Request) → cond b (q ∷ []) [] ≡ [] → b ≡ false
one-nil true q h = cc
one-nil false q h = refl

inputs-nil : (z : List ℕ) → inputs (parts (length z) 1024 z) ≡ [] → length z ≡ 0
unfolding inputs parts
inputs-nil [] h = refl
inputs-nil (x ∷ xs) h = cc

-- what it sends, when it runs
pub sending : (k : Kept) → k.running ≡ true → requests_k k ≡ inputs (parts (length (goes_of k)) 1024 (goes_of k)) ++ (cond (eof_k k) (Eof ∷ []) [] ++ cond (close_k k) (Close ∷ []) [])
sending k h = cond-true k.running _ [] h

pub quiet-flushed : (k : Kept) (c : ℕ) (g t : List ℕ) → requests_k k ≡ [] → flushed (whole k c g t) ≡ whole k c g t
quiet-flushed k c g t h = ⊎_elim (λ r. running r) (λ r. flushed-asked k c g t r) (cases_Bool k.running)
  where
    running : k.running ≡ true → flushed (whole k c g t) ≡ whole k c g t
    running r =
        let a = app_nil _ _ (sym (sending k r) ∙ h) in
        let b = app_nil _ _ a.1 in
        let l = inputs-nil (goes_of k) a.0 in
        let e = one-nil (eof_k k) Eof b.0 in
        let f = one-nil (close_k k) Close b.1 in
        let s : length g + length (goes_of k) ≡ length g = omega arith in
        let d : (k.said || eof_k k) ≡ k.said = or-false k.said (eof_k k) e in
        flushed-whole k c g t r
        ∙ (λ i. record (whole k c g t) { phase = cond (f i) Closed (phase_of k.running); sent = s i; said = d i })
