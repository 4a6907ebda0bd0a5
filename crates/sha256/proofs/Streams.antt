-- The hash value after the blocks of a message that comes in parts.
use Rattle.std.proofs.Common.{◌≡◌, ℕ, zero, suc, ◌+◌, ◌-◌, ◌*◌, ◌/◌, ◌<◌, ◌≤◌, List, ◌++◌, length, take, drop, sym, refl, ap, ◌∙◌, add-zero, add-suc, add-one, arith}
use Rattle.std.proofs.lemmas.List.{append_assoc, drop-append-le, drop_at, drop-drop, length-append, length-drop, length-take-le, take-append-drop, take-append-le, take_at}
use Rattle.sha256.specs.Message.{After, Output, Padding, SHA256, Start, Words}
use Rattle.sha256.specs.Rounds.{Compress}
use Rattle.sha256.specs.declared.rounds.State.{State}

-- n blocks of p are taken in, and r is left
pub record Taken (h : State) (p : List ℕ) (n : ℕ) (s : State) (r : List ℕ) : Type 0 where
  pub state : s ≡ After h p n
  pub rest : r ≡ drop (64 * n) p
  pub within : 64 * n ≤ length p

pub taken-none : (h : State) (p r : List ℕ) → r ≡ p → Taken h p 0 h r
unfolding After
taken-none h p r e = record { state = refl; rest = e; within = omega arith }

-- one block more
pub taken_more : (h : State) (p : List ℕ) (n m : ℕ) (s t : State) (r q b w : List ℕ) → Taken h p n s r → r ≡ b ++ q → length b ≡ 64
    → w ≡ Words b
    → t ≡ Compress s w
    → m ≡ n + 1
    → Taken h p m t q
unfolding After
taken_more h p n m s t r q b w k er lb ew et em =
    let d : b ++ q ≡ drop (64 * n) p = sym er ∙ k.rest in
    let eb : b ≡ take 64 (drop (64 * n) p) = sym (take_at b q 64 lb) ∙ ap (take 64) d in
    let eq : q ≡ drop 64 (drop (64 * n) p) = sym (drop_at b q 64 lb) ∙ ap (drop 64) d in
    let j : 64 * n + 64 ≡ 64 * m = omega arith in
    let l : 64 + length q ≡ length p - 64 * n = sym (length-append b q ∙ ap (λ i. i + length q) lb) ∙ ap length d ∙ length-drop (64 * n) p in
    record {
      state = et ∙ (λ i. Compress (k.state i) (ew i)) ∙ ap (λ v. Compress (After h p n) (Words v)) eb ∙ ap (After h p) (sym (em ∙ add-one n));
      rest = eq ∙ drop-drop 64 (64 * n) p ∙ ap (λ i. drop i p) j;
      within = omega (arith, k.within);
    }

-- no block is left
pub taken_all : (h : State) (p : List ℕ) (n : ℕ) (s : State) (r : List ℕ) → Taken h p n s r → length r < 64 → s ≡ After h p (length p / 64)
taken_all h p n s r k l =
    let d : length r ≡ length p - 64 * n = ap length k.rest ∙ length-drop (64 * n) p in
    k.state ∙ ap (After h p) (let e : n ≡ length p / 64 = omega (arith, k.within) in e)

-- what stands behind n blocks does not matter to them
pub after_front : (h : State) (p q : List ℕ) (n : ℕ) → 64 * n ≤ length p → After h (p ++ q) n ≡ After h p n
unfolding After
after_front h p q zero l = refl
after_front h p q (suc n) l =
    let e : After h (p ++ q) n ≡ After h p n = after_front h p q n (omega arith) in
    let d : drop (64 * n) (p ++ q) ≡ drop (64 * n) p ++ q = drop-append-le (64 * n) p q (omega arith) in
    let k : 64 ≤ length (drop (64 * n) p) = simp length-drop (omega arith) in
    let t : take 64 (drop (64 * n) p ++ q) ≡ take 64 (drop (64 * n) p) = take-append-le 64 (drop (64 * n) p) q k in
    ap (λ (x : State). Compress x (Words (take 64 (drop (64 * n) (p ++ q))))) e
    ∙ ap (λ (v : List ℕ). Compress (After h p n) (Words v)) (ap (take 64) d ∙ t)

-- the blocks of q go on from those of p
pub after-split : (h : State) (p q : List ℕ) (i j : ℕ) → length p ≡ 64 * i → After h (p ++ q) (i + j) ≡ After (After h p i) q j
unfolding After
after-split h p q i zero l = ap (After h (p ++ q)) (add-zero i) ∙ after_front h p q i (omega arith)
after-split h p q i (suc j) l =
    let e : After h (p ++ q) (i + j) ≡ After (After h p i) q j = after-split h p q i j l in
    let n : 64 * (i + j) ≡ 64 * i + 64 * j = omega arith in
    let d : drop (64 * (i + j)) (p ++ q) ≡ drop (64 * j) q =
    ap (λ (k : ℕ). drop k (p ++ q)) n ∙ sym (drop-drop (64 * j) (64 * i) (p ++ q))
    ∙ ap (drop (64 * j)) (drop_at p q (64 * i) l) in
    ap (After h (p ++ q)) (add-suc i j)
    ∙ ap (λ (x : State). Compress x (Words (take 64 (drop (64 * (i + j)) (p ++ q))))) e
    ∙ ap (λ (v : List ℕ). Compress (After (After h p i) q j) (Words (take 64 v))) d

-- the hash value after all the whole blocks of m ++ q, from that after those of m and the bytes behind them
pub after-rest : (h : State) (m q : List ℕ) (j : ℕ)
    → After h (m ++ q) (length m / 64 + j) ≡ After (After h m (length m / 64)) (drop (64 * (length m / 64)) m ++ q) j
after-rest h m q j =
    let n : ℕ = length m / 64 in
    let f : List ℕ = take (64 * n) m in
    let b : List ℕ = drop (64 * n) m in
    let l : length f ≡ 64 * n = length-take-le (64 * n) m (omega arith) in
    let s : f ++ b ≡ m = take-append-drop (64 * n) m in
    let e : m ++ q ≡ f ++ (b ++ q) = ap (λ (v : List ℕ). v ++ q) (sym s) ∙ append_assoc f b q in
    let a : After h f n ≡ After h m n = sym (after_front h f b n (omega arith)) ∙ ap (λ (v : List ℕ). After h v n) s in
    ap (λ (v : List ℕ). After h v (n + j)) e ∙ after-split h f (b ++ q) n j l ∙ ap (λ (x : State). After x (b ++ q) j) a

-- the digest, from the hash value after the whole blocks and the bytes behind them
pub digest_is : (m b : List ℕ) (s : State) → s ≡ After Start m (length m / 64) → b ≡ drop (64 * (length m / 64)) m
    → Output (After s (b ++ Padding (length m)) (length (b ++ Padding (length m)) / 64)) ≡ SHA256 m
unfolding SHA256
digest_is m b s es eb =
    let n : ℕ = length m / 64 in
    let p : List ℕ = Padding (length m) in
    let d : List ℕ = drop (64 * n) m in
    let k : n + length (d ++ p) / 64 ≡ length (m ++ p) / 64 =
    omega (arith, length-append d p, length-append m p, length-drop (64 * n) m) in
    ap (λ (x : State). Output (After x (b ++ p) (length (b ++ p) / 64))) es
    ∙ ap (λ (v : List ℕ). Output (After (After Start m n) (v ++ p) (length (v ++ p) / 64))) eb
    ∙ ap Output (sym (after-rest Start m p (length (d ++ p) / 64)))
    ∙ ap (λ (i : ℕ). Output (After Start (m ++ p) i)) k
