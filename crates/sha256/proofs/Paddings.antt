-- The bytes of a message's end, as they are put together.
use Rattle.std.proofs.Common.{◌≡◌, ℕ, suc, ◌+◌, ◌-◌, ◌*◌, ◌/◌, ◌%◌, ◌^◌, ◌<◌, List, ◌∷◌, ◌++◌, length, take, drop, set, replicate, sym, refl, ap, ◌∙◌, arith}
use Rattle.std.proofs.lemmas.List.{append_assoc, drop-replicate, length-append, length-replicate, replicate-append-replicate, set_at, take_at}
use Rattle.sha256.specs.Message.{Bytes64, Padding, PaddingFills}

pub marked_is : (r t : List ℕ) → length r < 64 → t ≡ r ++ drop (0 + length r) (replicate 128 0)
    → set t (length r) 128 ≡ r ++ (128 ∷ replicate (127 - length r) 0)
marked_is r t h e =
    let n : 128 - (0 + length r) ≡ suc (127 - length r) = omega arith in
    let f : t ≡ r ++ (0 ∷ replicate (127 - length r) 0) =
    e ∙ ap (λ (v : List ℕ). r ++ v) (drop-replicate (0 + length r) 128 0 ∙ ap (λ (k : ℕ). replicate k 0) n) in
    ap (λ (v : List ℕ). set v (length r) 128) f ∙ set_at r 0 (replicate (127 - length r) 0) 128 (length r) refl

-- eight bytes hold a number modulo 2^64
bytes-mod : (n : ℕ) → Bytes64 (n % 2 ^ 64) ≡ Bytes64 n
bytes-mod n =
    let a : n % 18446744073709551616 / 72057594037927936 % 256 ≡ n / 72057594037927936 % 256 = omega arith in
    let b : n % 18446744073709551616 / 281474976710656 % 256 ≡ n / 281474976710656 % 256 = omega arith in
    let c : n % 18446744073709551616 / 1099511627776 % 256 ≡ n / 1099511627776 % 256 = omega arith in
    let d : n % 18446744073709551616 / 4294967296 % 256 ≡ n / 4294967296 % 256 = omega arith in
    let e : n % 18446744073709551616 / 16777216 % 256 ≡ n / 16777216 % 256 = omega arith in
    let f : n % 18446744073709551616 / 65536 % 256 ≡ n / 65536 % 256 = omega arith in
    let g : n % 18446744073709551616 / 256 % 256 ≡ n / 256 % 256 = omega arith in
    let h : n % 18446744073709551616 % 256 ≡ n % 256 = omega arith in
    cc

-- the marked end with its length, cut where the padding ends
pub padded_is : (r : List ℕ) (total e k : ℕ) (t b u : List ℕ) → length r ≡ total % 64
    → t ≡ r ++ (128 ∷ replicate (127 - length r) 0)
    → e ≡ length r + 9 + (119 - length r) % 64
    → b ≡ Bytes64 ((total * 8) % 2 ^ 64)
    → u ≡ take (e - 8) t ++ (b ++ drop (e - 8 + length b) t)
    → k ≡ e
    → take k u ≡ r ++ Padding total
unfolding Padding
padded_is r total e k t b u hr et ee eb eu ek =
    let z : ℕ = (119 - length r) % 64 in
    let m : List ℕ = r ++ (128 ∷ replicate z 0) in
    let lm : length m ≡ e - 8 = simp (length-append, length-replicate) (omega arith) in
    let f : t ≡ m ++ replicate (127 - length r - z) 0 =
    et
    ∙ ap (λ (n : ℕ). r ++ (128 ∷ replicate n 0)) (let q : 127 - length r ≡ z + (127 - length r - z) = omega arith in q)
    ∙ ap (λ (v : List ℕ). r ++ (128 ∷ v)) (sym (replicate-append-replicate z (127 - length r - z) 0))
    ∙ sym (append_assoc r (128 ∷ replicate z 0) (replicate (127 - length r - z) 0)) in
    let g : take (e - 8) t ≡ m = ap (take (e - 8)) f ∙ take_at m (replicate (127 - length r - z) 0) (e - 8) lm in
    let w : b ≡ Bytes64 (8 * total) =
    eb ∙ bytes-mod (total * 8) ∙ ap Bytes64 (let q : total * 8 ≡ 8 * total = omega arith in q) in
    let lb : length b ≡ 8 = ap length w in
    let u' : u ≡ (m ++ b) ++ drop (e - 8 + length b) t =
    eu ∙ ap (λ (v : List ℕ). v ++ (b ++ drop (e - 8 + length b) t)) g
    ∙ sym (append_assoc m b (drop (e - 8 + length b) t)) in
    let lk : length (m ++ b) ≡ k = omega (arith, length-append m b) in
    let p : z ≡ (119 - total % 64) % 64 = ap (λ (n : ℕ). (119 - n) % 64) hr in
    ap (take k) u' ∙ take_at (m ++ b) (drop (e - 8 + length b) t) k lk ∙ append_assoc r (128 ∷ replicate z 0) b
    ∙ ap (λ (v : List ℕ). r ++ (128 ∷ (replicate z 0 ++ v))) w
    ∙ ap (λ (n : ℕ). r ++ (128 ∷ (replicate n 0 ++ Bytes64 (8 * total)))) p

length-padding : (n : ℕ) → length (Padding n) ≡ 9 + (119 - n % 64) % 64
unfolding Padding
length-padding n =
    let z : ℕ = (119 - n % 64) % 64 in
    let l : length (replicate {A = ℕ} z 0) ≡ z = length-replicate z 0 in
    let k : length (replicate z 0 ++ Bytes64 (8 * n)) ≡ z + 8 =
    length-append (replicate z 0) (Bytes64 (8 * n)) ∙ ap (λ (i : ℕ). i + 8) l in
    omega arith

pub fills : PaddingFills
fills n =
    let l : length (Padding n) ≡ 9 + (119 - n % 64) % 64 = length-padding n in
    (omega arith, omega arith, omega arith)
