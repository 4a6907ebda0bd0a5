-- The words and the turns of a block, one more at a time.
use Rattle.std.proofs.Common.{◌≡◌, ℕ, zero, suc, ◌+◌, ◌%◌, ◌<◌, ◌≤◌, ◌⊎◌, inl, inr, List, [], ◌∷◌, ◌++◌, length, get_or, take, drop, set, sym, refl, ap, ◌∙◌, add-one, add-zero, add-suc, arith}
use Rattle.std.proofs.lemmas.List.{drop_at, get_or-drop, get_or-take, length-append, take_more_set, take_at}
use Rattle.sha256.specs.Constants.{KS}
use Rattle.sha256.specs.Rounds.{Extend, Round, Rounds, Schedule}
use Rattle.sha256.specs.declared.rounds.State.{State}

-- the block, and then zeros
pub schedule-none : (m b z : List ℕ) → b ≡ m → length m ≡ 16 → take 16 (b ++ z) ≡ Schedule m 0
unfolding Schedule
schedule-none m b z e l = ap (λ v. take 16 (v ++ z)) e ∙ take_at m z 16 l

-- a word more, made of those before it
pub schedule_more : (m w : List ℕ) (t x : ℕ) → t + 16 < length w → take (t + 16) w ≡ Schedule m t
    → x ≡ Extend (get_or w t 0) (get_or w (t + 1) 0) (get_or w (t + 9) 0) (get_or w (t + 14) 0)
    → take (t + 1 + 16) (set w (t + 16) x) ≡ Schedule m (t + 1)
unfolding Schedule
schedule_more m w t x l e ex =
    let n : t + 1 + 16 ≡ t + 16 + 1 = omega arith in
    let at : (i : ℕ) → i < 16 → get_or w (t + i) 0 ≡ get_or (Schedule m t) (t + i) 0 =
    λ i h. sym (get_or-take (t + 16) w (t + i) 0 (omega arith)) ∙ ap (λ v. get_or v (t + i) 0) e in
    let a0 : get_or w t 0 ≡ get_or (Schedule m t) t 0 = sym (get_or-take (t + 16) w t 0 (omega arith)) ∙ ap (λ v. get_or v t 0) e in
    let a1 = at 1 (omega arith) in
    let a9 = at 9 (omega arith) in
    let a14 = at 14 (omega arith) in
    let y : x ≡ Extend (get_or (Schedule m t) t 0) (get_or (Schedule m t) (t + 1) 0) (get_or (Schedule m t) (t + 9) 0)
    (get_or (Schedule m t) (t + 14) 0) = cc in
    ap (λ k. take k (set w (t + 16) x)) n ∙ take_more_set w (t + 16) x l ∙ (λ i. e i ++ (y i ∷ []))
    ∙ ap (Schedule m) (sym (add-one t))

-- later turns go on from earlier ones
rounds-split : (ks ws : List ℕ) (s : State) (n j : ℕ)
    → Rounds ks ws s (n + j) ≡ Rounds (drop n ks) (drop n ws) (Rounds ks ws s n) j
unfolding Rounds
rounds-split ks ws s n zero = ap (Rounds ks ws s) (add-zero n)
rounds-split ks ws s n (suc j) =
    let e : Rounds ks ws s (n + j) ≡ Rounds (drop n ks) (drop n ws) (Rounds ks ws s n) j = rounds-split ks ws s n j in
    let f : get_or ks (n + j) 0 ≡ get_or (drop n ks) j 0 = sym (get_or-drop n ks j 0) in
    let g : get_or ws (n + j) 0 ≡ get_or (drop n ws) j 0 = sym (get_or-drop n ws j 0) in
    ap (Rounds ks ws s) (add-suc n j)
    ∙ ap (λ (x : State). Round x (get_or ks (n + j) 0) (get_or ws (n + j) 0)) e
    ∙ ap (λ (x : ℕ). Round (Rounds (drop n ks) (drop n ws) (Rounds ks ws s n) j) x (get_or ws (n + j) 0)) f
    ∙ ap (λ (x : ℕ). Round (Rounds (drop n ks) (drop n ws) (Rounds ks ws s n) j) (get_or (drop n ks) j 0) x) g

-- n turns read n constants and n words
rounds-take : (ks ws : List ℕ) (s : State) (m n : ℕ) → n ≤ m → Rounds (take m ks) (take m ws) s n ≡ Rounds ks ws s n
unfolding Rounds
rounds-take ks ws s m zero h = refl
rounds-take ks ws s m (suc n) h =
    let l : n ≤ m = omega arith in
    let e : Rounds (take m ks) (take m ws) s n ≡ Rounds ks ws s n = rounds-take ks ws s m n l in
    let f : get_or (take m ks) n 0 ≡ get_or ks n 0 = get_or-take m ks n 0 (omega arith) in
    let g : get_or (take m ws) n 0 ≡ get_or ws n 0 = get_or-take m ws n 0 (omega arith) in cc

-- the turns of ks and ws are still to come, eight at a time
pub record Turned (h : State) (m : List ℕ) (s : State) (ks ws : List ℕ) : Type 0 where
  pub whole : Rounds ks ws s (length ks) ≡ Rounds KS (Schedule m 48) h 64
  pub same : length ws ≡ length ks
  pub eights : length ks % 8 ≡ 0

length-schedule : (m : List ℕ) (n : ℕ) → length (Schedule m n) ≡ length m + n
unfolding Schedule
length-schedule m zero = sym (add-zero (length m))
length-schedule m (suc n) = let e = length-schedule m n in simp length-append (omega arith)

pub turned-none : (h : State) (m w ks ws : List ℕ) → w ≡ Schedule m 48 → length m ≡ 16 → ks ≡ KS → ws ≡ w → Turned h m h ks ws
turned-none h m w ks ws ew lm ek es =
    let lw : length w ≡ 64 = ap length ew ∙ length-schedule m 48 ∙ ap (λ n. n + 48) lm in
    record {
      whole = λ i. Rounds (ek i) ((es ∙ ew) i) h (length (ek i));
      same = ap length es ∙ lw ∙ sym (ap length ek);
      eights = ap (λ v. length v % 8) ek;
    }

-- eight turns more
pub turned_more : (h : State) (m : List ℕ) (s t : State) (ks ws k w kr wr : List ℕ) → Turned h m s ks ws → ks ≡ k ++ kr → ws ≡ w ++ wr
    → length k ≡ 8
    → length w ≡ 8
    → t ≡ Rounds k w s 8
    → Turned h m t kr wr
turned_more h m s t ks ws k w kr wr x ek ew lk lw et =
    let lks : length ks ≡ 8 + length kr = ap length ek ∙ length-append k kr ∙ ap (λ n. n + length kr) lk in
    let lws : length ws ≡ 8 + length wr = ap length ew ∙ length-append w wr ∙ ap (λ n. n + length wr) lw in
    let a : Rounds k w s 8 ≡ Rounds (k ++ kr) (w ++ wr) s 8 =
    sym (λ i. Rounds (take_at k kr 8 lk i) (take_at w wr 8 lw i) s 8) ∙ rounds-take (k ++ kr) (w ++ wr) s 8 8 (omega arith) in
    let b : Rounds kr wr (Rounds (k ++ kr) (w ++ wr) s 8) (length kr) ≡ Rounds (k ++ kr) (w ++ wr) s (8 + length kr) =
    sym
    (rounds-split (k ++ kr) (w ++ wr) s 8 (length kr)
    ∙ (λ i. Rounds (drop_at k kr 8 lk i) (drop_at w wr 8 lw i) (Rounds (k ++ kr) (w ++ wr) s 8) (length kr))) in
    record {
      whole = ap (λ y. Rounds kr wr y (length kr)) (et ∙ a) ∙ b ∙ sym (λ i. Rounds (ek i) (ew i) s (lks i)) ∙ x.whole;
      same = omega (arith, x.same);
      eights = omega (arith, x.eights);
    }

-- no turn is left
pub turned-all : (h : State) (m : List ℕ) (s : State) (ks ws : List ℕ) → Turned h m s ks ws → (length ks < 8) ⊎ (length ws < 8)
    → s ≡ Rounds KS (Schedule m 48) h 64
unfolding Rounds
turned-all h m s ks ws x e =
    let n : length ks ≡ 0 = elim e [ inl l ↦ omega (arith, x.eights) | inr l ↦ omega (arith, x.eights, x.same) ] in
    sym (ap (Rounds ks ws s) n) ∙ x.whole
