-- A hash under way, before and after one more part.
use Rattle.std.proofs.Common.{◌≡◌, ℕ, ◌+◌, ◌-◌, ◌*◌, ◌/◌, ◌%◌, ◌^◌, ◌<◌, List, ◌++◌, length, take, drop, sym, ap, ◌∙◌, arith}
use Rattle.std.proofs.lemmas.List.{append_assoc, append-nil, drop_all, drop-append-le, drop_at, drop-drop, length-append, length-drop, length-take-le, take-append-drop, take_at}
use Rattle.sha256.specs.Message.{After, Start}
use Rattle.sha256.specs.Stream.{Holds}
use Rattle.sha256.specs.declared.rounds.State.{State}
use Rattle.sha256.specs.declared.stream.Sha256.{Sha256}
use Rattle.sha256.proofs.Streams.{after_front, after-rest, after-split}

-- the bytes behind the whole blocks
held-length : (m : List ℕ) → length (drop (64 * (length m / 64)) m) ≡ length m % 64
held-length m = simp length-drop (omega arith)

-- a part that fills no block
pub short : (s t : Sha256) (part x m : List ℕ) (held : ℕ) → held ≡ s.total % 64 → held + length part < 64
    → t.state ≡ s.state
    → t.total ≡ s.total + length part
    → s.total + length part < 2 ^ 61
    → t.buffer ≡ take held s.buffer ++ (part ++ x)
    → Holds s m
    → Holds t (m ++ part)
short s t part x m held eh lt es et lim eb h =
    let n : ℕ = length m / 64 in
    let hm : held ≡ length m % 64 = eh ∙ ap (λ (k : ℕ). k % 64) h.total in
    let la : length (m ++ part) ≡ length m + length part = length-append m part in
    let tm : s.total ≡ length m = h.total in
    let eq : length (m ++ part) / 64 ≡ n = omega arith in
    let d : List ℕ = drop (64 * n) m in
    let b : take held s.buffer ≡ d = ap (λ (k : ℕ). take k s.buffer) hm ∙ h.held in
    let ld : length d ≡ held = held-length m ∙ sym hm in
    let lk : length (d ++ part) ≡ length (m ++ part) % 64 = length-append d part ∙ omega arith in
    let b' : t.buffer ≡ (d ++ part) ++ x =
    eb ∙ ap (λ (v : List ℕ). v ++ (part ++ x)) b ∙ sym (append_assoc d part x) in
    record {
      state = es ∙ h.state ∙ sym (after_front Start m part n (omega arith)) ∙ ap (After Start (m ++ part)) (sym eq);
      held = ap (take (length (m ++ part) % 64)) b' ∙ take_at (d ++ part) x (length (m ++ part) % 64) lk
          ∙ sym (drop-append-le (64 * n) m part (omega arith))
          ∙ ap (λ (k : ℕ). drop (64 * k) (m ++ part)) (sym eq);
      total = et ∙ omega arith;
      bound = omega arith;
    }

-- the bytes that a block is filled with
filled : (buf d first b : List ℕ) (held : ℕ) → length buf ≡ 64 → length first ≡ 64 - held → held < 64
    → take held buf ≡ d
    → b ≡ take held buf ++ (first ++ drop (held + length first) buf)
    → b ≡ d ++ first
filled buf d first b held lb lf lt ed eb =
    eb ∙ ap (λ (v : List ℕ). v ++ (first ++ drop (held + length first) buf)) ed
    ∙ ap (λ (v : List ℕ). d ++ (first ++ v)) (drop_all (held + length first) buf (omega arith))
    ∙ ap (λ (v : List ℕ). d ++ v) (append-nil first)

-- the message's hash value and its last bytes, once a block is filled with first
blocks_more : (m first rest b : List ℕ) → b ≡ drop (64 * (length m / 64)) m ++ first → length b ≡ 64
    → After Start (m ++ (first ++ rest)) (length m / 64 + (1 + length rest / 64))
    ≡ After (After (After Start m (length m / 64)) b 1) rest (length rest / 64)
blocks_more m first rest b eb lb =
    let n : ℕ = length m / 64 in
    let d : List ℕ = drop (64 * n) m in
    after-rest Start m (first ++ rest) (1 + length rest / 64)
    ∙ ap (λ (v : List ℕ). After (After Start m n) v (1 + length rest / 64))
    (sym (append_assoc d first rest) ∙ ap (λ (v : List ℕ). v ++ rest) (sym eb))
    ∙ after-split (After Start m n) b rest 1 (length rest / 64) lb

rest_more : (m first rest b : List ℕ) (k : ℕ) → b ≡ drop (64 * (length m / 64)) m ++ first → length b ≡ 64
    → k ≡ 64 * (length m / 64 + (1 + length rest / 64))
    → drop k (m ++ (first ++ rest)) ≡ drop (64 * (length rest / 64)) rest
rest_more m first rest b k eb lb ek =
    let n : ℕ = length m / 64 in
    let f : List ℕ = take (64 * n) m in
    let d : List ℕ = drop (64 * n) m in
    let g : List ℕ = f ++ b in
    let lf : length f ≡ 64 * n = length-take-le (64 * n) m (omega arith) in
    let lg : length g ≡ 64 * n + 64 = length-append f b ∙ omega arith in
    let e : m ++ (first ++ rest) ≡ g ++ rest =
    ap (λ (v : List ℕ). v ++ (first ++ rest)) (sym (take-append-drop (64 * n) m))
    ∙ append_assoc f d (first ++ rest)
    ∙ ap (λ (v : List ℕ). f ++ v) (sym (append_assoc d first rest) ∙ ap (λ (v : List ℕ). v ++ rest) (sym eb))
    ∙ sym (append_assoc f b rest) in
    let q : k ≡ (64 * n + 64) + 64 * (length rest / 64) = ek ∙ omega arith in
    ap (drop k) e ∙ ap (λ (i : ℕ). drop i (g ++ rest)) q
    ∙ sym (drop-drop (64 * (length rest / 64)) (64 * n + 64) (g ++ rest))
    ∙ ap (drop (64 * (length rest / 64))) (drop_at g rest (64 * n + 64) lg)

-- a part that fills a block, and perhaps more
pub long : (s t : Sha256) (part first rest b end x m : List ℕ) (held : ℕ) → held ≡ s.total % 64
    → length s.buffer ≡ 64
    → length first ≡ 64 - held
    → part ≡ first ++ rest
    → b ≡ take held s.buffer ++ (first ++ drop (held + length first) s.buffer)
    → t.state ≡ After (After s.state b (length b / 64)) rest (length rest / 64)
    → end ≡ drop (64 * (length rest / 64)) rest
    → t.buffer ≡ end ++ x
    → t.total ≡ s.total + length part
    → s.total + length part < 2 ^ 61
    → Holds s m
    → Holds t (m ++ part)
long s t part first rest b end x m held eh lb lf ep eb es ee ex et lim h =
    let n : ℕ = length m / 64 in
    let hm : held ≡ length m % 64 = eh ∙ ap (λ (k : ℕ). k % 64) h.total in
    let tm : s.total ≡ length m = h.total in
    let d : List ℕ = drop (64 * n) m in
    let ed : take held s.buffer ≡ d = ap (λ (k : ℕ). take k s.buffer) hm ∙ h.held in
    let fb : b ≡ d ++ first = filled s.buffer d first b held lb lf (omega arith) ed eb in
    let l1 : length b ≡ 64 = ap length fb ∙ length-append d first ∙ omega (arith, held-length m) in
    let lp : length part ≡ length first + length rest = ap length ep ∙ length-append first rest in
    let la : length (m ++ part) ≡ length m + length part = length-append m part in
    let k : length (m ++ part) / 64 ≡ n + (1 + length rest / 64) = omega arith in
    let le : length end ≡ length (m ++ part) % 64 = ap length ee ∙ length-drop (64 * (length rest / 64)) rest ∙ omega arith in
    let st : t.state ≡ After (After (After Start m n) b 1) rest (length rest / 64) =
    es
    ∙ ap (λ (y : State). After (After y b (length b / 64)) rest (length rest / 64)) h.state
    ∙ ap (λ (i : ℕ). After (After (After Start m n) b (i / 64)) rest (length rest / 64)) l1 in
    record {
      state = st ∙ sym (blocks_more m first rest b fb l1)
          ∙ ap (λ (v : List ℕ). After Start (m ++ v) (n + (1 + length rest / 64))) (sym ep)
          ∙ ap (After Start (m ++ part)) (sym k);
      held = ap (take (length (m ++ part) % 64)) ex ∙ take_at end x (length (m ++ part) % 64) le ∙ ee
          ∙ sym (rest_more m first rest b (64 * (length (m ++ part) / 64)) fb l1 (ap (λ (i : ℕ). 64 * i) k))
          ∙ ap (λ (v : List ℕ). drop (64 * (length (m ++ part) / 64)) (m ++ v)) (sym ep);
      total = et ∙ omega arith;
      bound = omega arith;
    }
