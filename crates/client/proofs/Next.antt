-- The next request of a channel is the first that it sends by itself, and flushing it afterwards comes to the same.
use Rattle.std.proofs.Common.{◌≡◌, ℕ, ◌+◌, ◌-◌, min, Bool, true, false, cond, not, ◌&&◌, ◌||◌, eqb, List, [], ◌∷◌, ◌++◌, length, take, drop, Some, None, Option, sym, refl, ap, ◌∙◌, subst, ⊎_elim, arith}
use Rattle.std.proofs.lemmas.List.{length-take, length-drop, length-append, append_assoc, take-append-drop}
use Rattle.std.proofs.lemmas.Bool.Decides.{nat_tests}
use Rattle.std.proofs.lemmas.Bool.{cases_Bool, cond-true, cond-false, eqb-true, eqb-false, or_right}
use Rattle.model.specs.Messages.{Request, Run, Input, OutputCredit, Eof, Close, parts}
use Rattle.model.specs.Client.{Closed, holds, is_held, inputs, flushed}
use Rattle.client_channel.specs.Kept.{Kept}
use Rattle.client_channel.specs.Steps.{Step, step_to, goes_of, part_of, sent_of, said_of, end_of, next_of}
use Rattle.client.specs.Stand.{phase_of, whole}
use Rattle.client.proofs.Parts.{first_part, no-parts, part-front, part-back}
use Rattle.client.proofs.Bare.{eof_k, close_k, requests_k, sending, shape, flushed-whole}

pub record Sent (k k' : Kept) (q : Request) : Type 0 where
  pub number : k'.number ≡ k.number
  pub sends : requests_k k ≡ q ∷ requests_k k'
  pub flush : (c : ℕ) (g t : List ℕ) → (g' : List ℕ) × (flushed (whole k c g t) ≡ flushed (whole k' c g' t))

pub record Closing (k k' : Kept) : Type 0 where
  pub same : k' ≡ k
  pub sends : requests_k k ≡ Close ∷ []
  pub over : (c : ℕ) (g t : List ℕ) → is_held (flushed (whole k c g t)) ≡ false

abbrev pub NextFacts : Kept → Kept → Option Request → Type 0
NextFacts k k' None = (k' ≡ k) × (requests_k k ≡ [])
NextFacts k k' (Some (Run x)) = ⊥
NextFacts k k' (Some (Input bs)) = Sent k k' (Input bs)
NextFacts k k' (Some (OutputCredit n)) = ⊥
NextFacts k k' (Some Eof) = Sent k k' Eof
NextFacts k k' (Some Close) = Closing k k'

at-step : (k : Kept) (s : Step) → next_of k ≡ s → NextFacts k s.channel s.sends → NextFacts k (next_of k).channel (next_of k).sends
at-step k s e f = subst (λ (z : Step). NextFacts k z.channel z.sends) (sym e) f

module _ (k : Kept) (run : k.running ≡ true) where
  goes-length : length (goes_of k) ≡ min k.credit (length k.waiting)
  goes-length = length-take k.credit k.waiting

  -- input goes
  input-sends : eqb (part_of k) 0 ≡ false → requests_k k ≡ Input (take (part_of k) k.waiting) ∷ requests_k (sent_of (part_of k) k)
  unfolding inputs
  input-sends h =
      let n = part_of k in
      let k' = sent_of n k in
      let ne = eqb-false n 0 h in
      let l = goes-length in
      let f = first_part (goes_of k) (omega arith) in
      let a = part-front k.credit k.waiting in
      let b = part-back k.credit k.waiting in
      let lb = length-take (k.credit - n) (drop n k.waiting) in
      let ld = length-drop n k.waiting in
      let e : eof_k k ≡ eof_k k' = ap (λ z. k.eof && (z && not k.said)) (let z : eqb (length (goes_of k)) (length k.waiting) ≡ eqb (length (goes_of k')) (length k'.waiting) = grind (arith, nat_tests) in z) in
      let parted : inputs (parts (length (goes_of k)) 1024 (goes_of k)) ≡ Input (take n k.waiting) ∷ inputs (parts (length (goes_of k')) 1024 (goes_of k')) =
      ap inputs (f ∙ ap (λ z. z ∷ parts (length (drop 1024 (goes_of k))) 1024 (drop 1024 (goes_of k))) a) ∙ ap (λ z. Input (take n k.waiting) ∷ inputs (parts (length z) 1024 z)) b in
      sending k run
      ∙ ap (λ z. z ++ (cond (eof_k k) (Eof ∷ []) [] ++ cond (close_k k) (Close ∷ []) [])) parted
      ∙ ap (λ z. Input (take n k.waiting) ∷ (inputs (parts (length (goes_of k')) 1024 (goes_of k')) ++ (cond z (Eof ∷ []) [] ++ cond (close_k k) (Close ∷ []) []))) e
      ∙ ap (λ z. Input (take n k.waiting) ∷ z) (sym (sending k' run))

  input-flush : (c : ℕ) (g t : List ℕ) → flushed (whole k c g t) ≡ flushed (whole (sent_of (part_of k) k) c (g ++ take (part_of k) k.waiting) t)
  input-flush c g t =
      let n = part_of k in
      let k' = sent_of n k in
      let g' = g ++ take n k.waiting in
      let l = goes-length in
      let lg = length-append g (take n k.waiting) in
      let lt = length-take n k.waiting in
      let lb = length-take (k.credit - n) (drop n k.waiting) in
      let ld = length-drop n k.waiting in
      let i1 : g ++ k.waiting ≡ g' ++ drop n k.waiting = ap (λ z. g ++ z) (sym (take-append-drop n k.waiting)) ∙ sym (append_assoc g (take n k.waiting) (drop n k.waiting)) in
      let s1 : length g + length (goes_of k) ≡ length g' + length (goes_of k') = omega arith in
      let m1 : length g + k.credit ≡ length g' + (k.credit - n) = omega arith in
      let e : eof_k k ≡ eof_k k' = ap (λ z. k.eof && (z && not k.said)) (let z : eqb (length (goes_of k)) (length k.waiting) ≡ eqb (length (goes_of k')) (length k'.waiting) = grind (arith, nat_tests) in z) in
      flushed-whole k c g t run
      ∙ (λ i. record (shape k c g t) { input = i1 i; sent = s1 i; may = m1 i; said = k.said || e i })
      ∙ sym (flushed-whole k' c g' t run)

  input-facts : eqb (part_of k) 0 ≡ false → NextFacts k (next_of k).channel (next_of k).sends
  input-facts h =
      at-step k (step_to (sent_of (part_of k) k) (Some (Input (take (part_of k) k.waiting))))
      (cond-true k.running _ _ run ∙ cond-false (eqb (part_of k) 0) _ _ h)
      (record { number = refl; sends = input-sends h; flush = λ c g t. (g ++ take (part_of k) k.waiting, input-flush c g t) })

  -- nothing of it goes
  module _ (none : eqb (part_of k) 0 ≡ true) where
    goes_none : length (goes_of k) ≡ 0
    goes_none = let e = eqb-true (part_of k) 0 none in let l = goes-length in omega arith

    eof-same : (k.eof && (eqb (length k.waiting) 0 && not k.said)) ≡ eof_k k
    eof-same = let l = goes_none in ap (λ z. k.eof && (z && not k.said)) (let z : eqb (length k.waiting) 0 ≡ eqb (length (goes_of k)) (length k.waiting) = grind (arith, nat_tests) in z)

    ends : requests_k k ≡ cond (eof_k k) (Eof ∷ []) [] ++ cond (close_k k) (Close ∷ []) []
    unfolding inputs
    ends = sending k run ∙ ap (λ z. inputs z ++ (cond (eof_k k) (Eof ∷ []) [] ++ cond (close_k k) (Close ∷ []) [])) (no-parts (goes_of k) goes_none)

    to_end : next_of k ≡ end_of k
    to_end = cond-true k.running _ _ run ∙ cond-true (eqb (part_of k) 0) _ _ none

    said-not : eof_k k ≡ true → k.said ≡ false
    said-not h = go k.eof (eqb (length (goes_of k)) (length k.waiting)) k.said h
      where
        go : (a b d : Bool) → (a && (b && not d)) ≡ true → d ≡ false
        go true true true e = cc
        go true true false e = refl
        go true false d e = cc
        go false b d e = cc

    emptied : (z : List Request) → inputs (parts (length (goes_of k)) 1024 (goes_of k)) ++ z ≡ z
    unfolding inputs
    emptied z = ap (λ y. inputs y ++ z) (no-parts (goes_of k) goes_none)

    eof-facts : eof_k k ≡ true → NextFacts k (next_of k).channel (next_of k).sends
    eof-facts h =
        let k' = said_of k in
        let after : eof_k k' ≡ false = and_last k.eof (eqb (length (goes_of k)) (length k.waiting)) in
        let s = said-not h in
        let one : requests_k k' ≡ cond (close_k k) (Close ∷ []) [] = sending k' run ∙ gone ∙ ap (λ z. cond z (Eof ∷ []) [] ++ cond (close_k k) (Close ∷ []) []) after in
        at-step k (step_to k' (Some Eof)) (to_end ∙ cond-true _ _ _ (eof-same ∙ h))
        (record {
          number = refl;
          sends = ends ∙ ap (λ z. cond z (Eof ∷ []) [] ++ cond (close_k k) (Close ∷ []) []) h ∙ ap (λ z. Eof ∷ z) (sym one);
          flush = λ c g t. (
            g,
            flushed-whole k c g t run ∙ (λ i. record (shape k c g t) { said = or_right k.said (eof_k k) h i }) ∙ sym (flushed-whole k' c g t run),
          );
        })
      where
        and_last : (a b : Bool) → (a && (b && not true)) ≡ false
        and_last true true = refl
        and_last true false = refl
        and_last false b = refl

        gone : inputs (parts (length (goes_of k)) 1024 (goes_of k)) ++ (cond (eof_k (said_of k)) (Eof ∷ []) [] ++ cond (close_k k) (Close ∷ []) []) ≡ cond (eof_k (said_of k)) (Eof ∷ []) [] ++ cond (close_k k) (Close ∷ []) []
        gone = emptied (cond (eof_k (said_of k)) (Eof ∷ []) [] ++ cond (close_k k) (Close ∷ []) [])

    close_facts : eof_k k ≡ false → close_k k ≡ true → NextFacts k (next_of k).channel (next_of k).sends
    close_facts h f =
        at-step k (step_to k (Some Close)) (to_end ∙ cond-false _ _ _ (eof-same ∙ h) ∙ cond-true _ _ _ f)
        (record {
          same = refl;
          sends = ends ∙ ap (λ z. cond z (Eof ∷ []) [] ++ cond (close_k k) (Close ∷ []) []) h ∙ ap (λ z. cond z (Close ∷ []) []) f;
          over = λ c g t. ap is_held (flushed-whole k c g t run) ∙ ap (λ z. holds (cond z Closed (phase_of k.running))) f;
        })

    rest-facts : eof_k k ≡ false → close_k k ≡ false → NextFacts k (next_of k).channel (next_of k).sends
    rest-facts h f =
        at-step k (step_to k None) (to_end ∙ cond-false _ _ _ (eof-same ∙ h) ∙ cond-false _ _ _ f)
        (refl, ends ∙ ap (λ z. cond z (Eof ∷ []) [] ++ cond (close_k k) (Close ∷ []) []) h ∙ ap (λ z. cond z (Close ∷ []) []) f)

pub next-is : (k : Kept) → NextFacts k (next_of k).channel (next_of k).sends
next-is k =
    ⊎_elim
    (λ r. ⊎_elim
    (λ n. ⊎_elim (λ h. eof-facts k r n h) (λ h. ⊎_elim (λ f. close_facts k r n h f) (λ f. rest-facts k r n h f) (cases_Bool (close_k k))) (cases_Bool (eof_k k)))
    (λ n. input-facts k r n)
    (cases_Bool (eqb (part_of k) 0)))
    (λ r. at-step k (step_to k None) (cond-false k.running _ _ r) (refl, cond-false k.running _ _ r))
    (cases_Bool k.running)
