-- The bytes of words, and a text that is xored with them part by part.
use Rattle.std.proofs.Common.{◌≡◌, ℕ, ◌+◌, ◌-◌, ◌*◌, ◌/◌, ◌%◌, ◌^◌, ◌<◌, ◌≤◌, ◌⊎◌, List, ◌++◌, length, get_or, take, drop, sym, refl, ap, ◌∙◌, subst, inl, inr, arith, w32, Fits}
use lib.Bits.{bit_xor}
use lib.Lanes.{Each1, chunk, digits_l, number_l, put_chunk, zip2}
use Rattle.std.proofs.lemmas.Simd.{below_from_Fits, get_or_narrower, get_or-zip2, length-zip2, put_chunk_whole}
use Rattle.std.proofs.lemmas.List.{get_or_append_left, get_or-append_right, length-append, take-append-drop, take_all}
use Rattle.std.proofs.lemmas.Bool.{cases_lt}
use Rattle.chacha20.specs.Block.{ByteAt}
use Rattle.chacha20.specs.Cipher.{Xored}

-- a byte of four words
pub byte_is : (ws : List ℕ) (i : ℕ) → i < 16 → Each1 (Fits w32) ws
    → get_or (digits_l 256 16 (number_l 4294967296 ws)) i 0 ≡ ByteAt ws i
unfolding ByteAt
byte_is ws i h fits =
    let e : i ≡ 4 * (i / 4) + i % 4 = omega arith in
    ap (λ (k : ℕ). get_or (digits_l 256 16 (number_l 4294967296 ws)) k 0) e
    ∙ get_or_narrower 4294967296 4 256 16 ws (i / 4) (i % 4) refl (below_from_Fits w32 ws fits) (omega arith) (omega arith)

-- the bytes of four words and more
pub byte-front : (a r : List ℕ) (i : ℕ) → length a ≡ 4 → i < 16 → ByteAt (a ++ r) i ≡ ByteAt a i
unfolding ByteAt
byte-front a r i la h =
    ap (λ (w : ℕ). w / 256 ^ (i % 4) % 256) (get_or_append_left a r 0 (i / 4) (omega arith))

pub byte-back : (a r : List ℕ) (i k : ℕ) → length a ≡ 4 → k ≡ 16 + i → ByteAt (a ++ r) k ≡ ByteAt r i
unfolding ByteAt
byte-back a r i k la ek =
    let p : k / 4 - 4 ≡ i / 4 = omega arith in
    let q : k % 4 ≡ i % 4 = omega arith in
    ap (λ (w : ℕ). w / 256 ^ (k % 4) % 256) (get_or-append_right a r 4 (k / 4) 0 la (omega arith) ∙ ap (λ (n : ℕ). get_or r n 0) p)
    ∙ ap (λ (n : ℕ). get_or r (i / 4) 0 / 256 ^ n % 256) q

-- sixteen bytes that are read, xored with those of four words and written back
pub xored_is : (t ws : List ℕ) → length t ≡ 16 → Each1 (Fits w32) ws
    → Xored t (ByteAt ws) (put_chunk 0 t (zip2 bit_xor (chunk 0 16 t) (digits_l 256 16 (number_l 4294967296 ws))))
xored_is t ws lt fits =
    let bs : List ℕ = digits_l 256 16 (number_l 4294967296 ws) in
    let lb : length bs ≡ 16 = refl in
    let et : chunk 0 16 t ≡ t = take_all 16 t (omega arith) in
    let lz : length (zip2 bit_xor t bs) ≡ length t = length-zip2 bit_xor t bs (omega arith) in
    let eu : put_chunk 0 t (zip2 bit_xor (chunk 0 16 t) bs) ≡ zip2 bit_xor t bs =
    ap (λ (v : List ℕ). put_chunk 0 t (zip2 bit_xor v bs)) et ∙ put_chunk_whole t (zip2 bit_xor t bs) (sym lz) in
    record {
      size = ap length eu ∙ lz;
      byte = λ k h.
          ap (λ (v : List ℕ). get_or v k 0) eu ∙ get_or-zip2 bit_xor t bs k 0 0 0 h (omega arith)
          ∙ ap (bit_xor (get_or t k 0)) (byte_is ws k (omega arith) fits);
    }

-- another name for the same bytes
pub xored-as : {t u : List ℕ} (s r : ℕ → ℕ) → Xored t s u → ((i : ℕ) → i < length t → s i ≡ r i) → Xored t r u
xored-as {t = t} s r x e =
    record { size = x.size; byte = λ k h. x.byte k h ∙ ap (bit_xor (get_or t k 0)) (e k h) }

-- one part after another
pub xored-append : {t u v w : List ℕ} (s r : ℕ → ℕ) (n : ℕ) → length t ≡ n → Xored t s u → Xored v r w
    → ((i : ℕ) → i < length v → r i ≡ s (n + i))
    → Xored (t ++ v) s (u ++ w)
xored-append {t = t} {u = u} {v = v} {w = w} s r n lt x y e =
    record {
      size = length-append u w ∙ omega (arith, x.size, y.size, length-append t v);
      byte = λ k h. byte k h (cases_lt k n);
    }
  where
    byte : (k : ℕ) → k < length (t ++ v) → (k < n) ⊎ (n ≤ k) → get_or (u ++ w) k 0 ≡ bit_xor (get_or (t ++ v) k 0) (s k)
    byte k h (inl l) =
        get_or_append_left u w 0 k (omega (arith, x.size)) ∙ x.byte k (omega arith)
        ∙ ap (λ (b : ℕ). bit_xor b (s k)) (sym (get_or_append_left t v 0 k (omega arith)))
    byte k h (inr l) =
        let j : n + (k - n) ≡ k = omega arith in
        let below : k - n < length v = omega (arith, length-append t v) in
        get_or-append_right u w n k 0 (omega (arith, x.size)) l ∙ y.byte (k - n) below
        ∙ ap (λ (b : ℕ). bit_xor b (r (k - n))) (sym (get_or-append_right t v n k 0 lt l))
        ∙ ap (bit_xor (get_or (t ++ v) k 0)) (e (k - n) below ∙ ap s j)

-- a text in four parts
pub parts-are : {t f b p q x y : List ℕ} (m n : ℕ) → f ≡ take m t → b ≡ drop m t → p ≡ take n f → q ≡ drop n f → x ≡ take n b
    → y ≡ drop n b
    → (p ++ q) ++ (x ++ y) ≡ t
parts-are {t = t} {f = f} {b = b} m n ef eb ep eq ex ey =
    let e : take n f ++ drop n f ≡ f = take-append-drop n f in
    let g : take n b ++ drop n b ≡ b = take-append-drop n b in
    let h : take m t ++ drop m t ≡ t = take-append-drop m t in
    cc

-- four parts of n bytes
pub xored-four : {t p q x y u v w z : List ℕ} (s a b c d : ℕ → ℕ) (n : ℕ) → (p ++ q) ++ (x ++ y) ≡ t
    → length p ≡ n → length q ≡ n → length x ≡ n → length y ≡ n
    → Xored p a u → Xored q b v → Xored x c w → Xored y d z
    → ((i : ℕ) → i < n → a i ≡ s i)
    → ((i : ℕ) → i < n → b i ≡ s (n + i))
    → ((i : ℕ) → i < n → c i ≡ s (2 * n + i))
    → ((i : ℕ) → i < n → d i ≡ s (3 * n + i))
    → Xored t s ((u ++ v) ++ (w ++ z))
xored-four {p = p} {q = q} {u = u} {v = v} {w = w} {z = z} s a b c d n et lp lq lx ly xa xb xc xd ea eb ec ed =
    let back : ℕ → ℕ = λ i. s (2 * n + i) in
    subst (λ k. Xored k s ((u ++ v) ++ (w ++ z))) et
    (xored-append s back (2 * n) (omega (arith, length-append p q))
    (xored-append s b n lp (xored-as a s xa (λ i h. ea i (omega arith))) xb (λ i h. eb i (omega arith)))
    (xored-append back d n lx (xored-as c back xc (λ i h. ec i (omega arith))) xd
    (λ i h. ed i (omega arith) ∙ ap s (let j : 3 * n + i ≡ 2 * n + (n + i) = omega arith in j)))
    (λ i h. refl))

-- four times four words
pub xored-words : {t p q x y u v w z : List ℕ} (a b c d : List ℕ) → length a ≡ 4 → length b ≡ 4 → length c ≡ 4
    → (p ++ q) ++ (x ++ y) ≡ t
    → length p ≡ 16 → length q ≡ 16 → length x ≡ 16 → length y ≡ 16
    → Xored p (ByteAt a) u → Xored q (ByteAt b) v → Xored x (ByteAt c) w → Xored y (ByteAt d) z
    → Xored t (ByteAt (a ++ (b ++ (c ++ d)))) ((u ++ v) ++ (w ++ z))
xored-words a b c d la lb lc et lp lq lx ly xa xb xc xd =
    xored-four (ByteAt (a ++ (b ++ (c ++ d)))) (ByteAt a) (ByteAt b) (ByteAt c) (ByteAt d) 16 et lp lq lx ly xa xb xc xd
    (λ i h. sym (byte-front a (b ++ (c ++ d)) i la h))
    (λ i h. sym (byte-back a (b ++ (c ++ d)) i (16 + i) la refl ∙ byte-front b (c ++ d) i lb h))
    (λ i h.
    sym (byte-back a (b ++ (c ++ d)) (16 + i) (32 + i) la (omega arith) ∙ byte-back b (c ++ d) i (16 + i) lb refl
    ∙ byte-front c d i lc h))
    (λ i h.
    sym (byte-back a (b ++ (c ++ d)) (32 + i) (48 + i) la (omega arith)
    ∙ byte-back b (c ++ d) (16 + i) (32 + i) lb (omega arith)
    ∙ byte-back c d i (16 + i) lc refl))
