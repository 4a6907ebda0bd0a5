-- A whole text.
use Rattle.std.proofs.Common.{◌≡◌, ℕ, ◌+◌, ◌-◌, ◌*◌, ◌<◌, ◌≤◌, List, ◌++◌, length, get_or, take, drop, sym, ap, ◌∙◌, refl, subst, arith}
use borrow.Rule.Slice.PartMut.{put_mid}
use lib.Bits.{bit_xor, xor_assoc, xor_self, xor_zero_r}
use Rattle.std.proofs.Math.Seq.{take-add, take-append-add, drop-append-add, drop-append_seam}
use Rattle.std.proofs.lemmas.List.FromFn.{get_or-map-range_with_len, length-map-range_with_len}
use Rattle.std.proofs.lemmas.List.{drop-drop, ext_get_or, length-append, length-drop, length-take-le, take_all, take_at}
use Rattle.chacha20.specs.Block.{Init}
use Rattle.chacha20.specs.Cipher.{ChaCha20, Stream, Undoes, Xored}
use Rattle.chacha20.specs.Lanes.{Advance, Keyed}
use Rattle.chacha20.specs.declared.state.State.{State}
use Rattle.chacha20.proofs.Bytes.{xored-append}
use Rattle.chacha20.proofs.Streams.{keyed-advanced, keyed-is}

-- the first n bytes are xored, and the others as they were
pub record XoredTo (t : List ℕ) (s : State ℕ) (n : ℕ) (u : List ℕ) : Type 0 where
  pub size : length u ≡ length t
  pub below : Xored (take n t) (Keyed s) (take n u)
  pub above : drop n u ≡ drop n t

pub none-is : (t : List ℕ) (s : State ℕ) → XoredTo t s 0 t
none-is t s = record { size = refl; below = record { size = refl; byte = λ k h. absurd (omega arith) }; above = refl }

-- n bytes more, from the block i on
pub part_more : {t u z : List ℕ} (s r : State ℕ) (i a n b : ℕ) → a ≡ 64 * i → a + n ≡ b → b ≤ length t → r ≡ Advance i s
    → XoredTo t s a u
    → Xored (take n (drop a u)) (Keyed r) z
    → XoredTo t s b (put_mid a n u z)
part_more {t = t} {u = u} {z = z} s r i a n b ea eb l er x y =
    let p : List ℕ = take a u in
    let q : List ℕ = drop n (drop a u) in
    let w : List ℕ = p ++ (z ++ q) in
    let lp : length p ≡ a = length-take-le a u (omega (arith, x.size)) in
    let lt : length (take a t) ≡ a = length-take-le a t (omega arith) in
    let ld : length (drop a u) ≡ length u - a = length-drop a u in
    let lv : length (take n (drop a u)) ≡ n = length-take-le n (drop a u) (omega (arith, x.size)) in
    let lz : length z ≡ n = y.size ∙ lv in
    let lw : length w ≡ length p + (length z + length q) = length-append p (z ++ q) ∙ ap (λ k. length p + k) (length-append z q) in
    let lq : length q ≡ length u - a - n = length-drop n (drop a u) ∙ ap (λ k. k - n) ld in
    let et : take a t ++ take n (drop a u) ≡ take (a + n) t = ap (λ v. take a t ++ take n v) x.above ∙ sym (take-add a n t) in
    let eu : p ++ z ≡ take (a + n) w =
    ap (λ v. p ++ v) (sym (take_at z q n lz)) ∙ sym (take-append-add p (z ++ q) n) ∙ ap (λ k. take (k + n) w) lp in
    let ed : drop (a + n) w ≡ drop (a + n) t =
    ap (λ k. drop (k + n) w) (sym lp) ∙ drop-append-add p (z ++ q) n ∙ ap (λ k. drop k (z ++ q)) (sym lz) ∙ drop-append_seam z q
    ∙ ap (drop n) x.above
    ∙ drop-drop n a t in
    let f : (j : ℕ) → j < length (take n (drop a u)) → Keyed r j ≡ Keyed s (a + j) =
    λ j h. ap (λ k. Keyed k j) er ∙ keyed-advanced s i j ∙ ap (λ k. Keyed s (k + j)) (sym ea) in
    subst (λ k. XoredTo t s k w) eb
    (record {
      size = omega (arith, x.size);
      below = subst (λ v. Xored v (Keyed s) (take (a + n) w)) et
          (subst (Xored (take a t ++ take n (drop a u)) (Keyed s)) eu (xored-append (Keyed s) (Keyed r) a lt x.below y f));
      above = ed;
    })

-- all of it
pub whole-is : {t u : List ℕ} (s : State ℕ) (n : ℕ) → length t ≤ n → XoredTo t s n u → Xored t (Keyed s) u
whole-is {t = t} {u = u} s n l x =
    subst (λ v. Xored v (Keyed s) u) (take_all n t l)
    (subst (Xored (take n t) (Keyed s)) (take_all n u (omega (arith, x.size))) x.below)

-- a text that is xored with the key stream is the cipher's
pub cipher_is : (key : List ℕ) (c : ℕ) (nonce t u : List ℕ) (s : State ℕ) → s ≡ Init key c nonce → Xored t (Keyed s) u
    → u ≡ ChaCha20 key c nonce t
unfolding ChaCha20
cipher_is key c nonce t u s es x =
    let f : ℕ → ℕ = λ i. bit_xor (get_or t i 0) (Stream key c nonce i) in
    ext_get_or 0 u (ChaCha20 key c nonce t) (x.size ∙ sym (length-map-range_with_len f 0 (length t)))
    (λ i h.
    let lt : i < length t = omega (arith, x.size) in
    x.byte i lt ∙ ap (bit_xor (get_or t i 0)) (ap (λ (y : State ℕ). Keyed y i) es ∙ keyed-is key c nonce i)
    ∙ sym (get_or-map-range_with_len f 0 (length t) i i 0 lt (omega arith)))

cipher-size : (key : List ℕ) (c : ℕ) (nonce t : List ℕ) → length (ChaCha20 key c nonce t) ≡ length t
unfolding ChaCha20
cipher-size key c nonce t = length-map-range_with_len (λ i. bit_xor (get_or t i 0) (Stream key c nonce i)) 0 (length t)

cipher-byte : (key : List ℕ) (c : ℕ) (nonce t : List ℕ) (i : ℕ) → i < length t
    → get_or (ChaCha20 key c nonce t) i 0 ≡ bit_xor (get_or t i 0) (Stream key c nonce i)
unfolding ChaCha20
cipher-byte key c nonce t i h =
    get_or-map-range_with_len (λ k. bit_xor (get_or t k 0) (Stream key c nonce k)) 0 (length t) i i 0 h (omega arith)

pub twice : Undoes
twice key c nonce t =
    let u : List ℕ = ChaCha20 key c nonce t in
    let lu : length u ≡ length t = cipher-size key c nonce t in
    let lv : length (ChaCha20 key c nonce u) ≡ length u = cipher-size key c nonce u in
    ext_get_or 0 (ChaCha20 key c nonce u) t (lv ∙ lu)
    (λ i h.
    let s : ℕ = Stream key c nonce i in
    let k : i < length t = omega arith in
    cipher-byte key c nonce u i (omega arith) ∙ ap (λ (x : ℕ). bit_xor x s) (cipher-byte key c nonce t i k)
    ∙ xor_assoc (get_or t i 0) s s
    ∙ ap (bit_xor (get_or t i 0)) (xor_self s)
    ∙ xor_zero_r (get_or t i 0))
