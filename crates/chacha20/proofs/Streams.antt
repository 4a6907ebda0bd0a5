-- The key stream of a state, over the blocks of all lanes.
use Rattle.std.proofs.Common.{◌≡◌, ℕ, ◌+◌, ◌*◌, ◌/◌, ◌%◌, ◌^◌, ◌<◌, List, ◌++◌, length, sym, ap, ◌∙◌, arith}
use Rattle.std.proofs.lemmas.List.FromFn.{get_or-map-range_with_len}
use Rattle.chacha20.specs.Block.{Block, ByteAt, Init, Listed, Rounds}
use Rattle.chacha20.specs.Cipher.{Stream, Xored}
use Rattle.chacha20.specs.Lanes.{Advance, Keyed, Lane, LaneByte}
use Rattle.chacha20.specs.declared.state.State.{State}
use Rattle.chacha20.proofs.Bytes.{xored-as, xored-four}

-- no block on
pub advance-none : (s : State ℕ) → s.x12 < 2 ^ 32 → s ≡ Advance 0 s
unfolding Advance
advance-none s h =
    let e : s.x12 ≡ (s.x12 + 0) % 2 ^ 32 = omega arith in λ i.
    record { x0 = s.x0; x1 = s.x1; x2 = s.x2; x3 = s.x3; x4 = s.x4; x5 = s.x5; x6 = s.x6; x7 = s.x7; x8 = s.x8; x9 = s.x9; x10 = s.x10; x11 = s.x11; x12 = e i; x13 = s.x13; x14 = s.x14; x15 = s.x15 }

-- the byte of a block, by its number in four blocks
quad-byte : (f : ℕ → List ℕ) (w : List ℕ) (l k i : ℕ) → w ≡ f l → k / 64 ≡ l → k % 64 ≡ i → ByteAt w i ≡ ByteAt (f (k / 64)) (k % 64)
quad-byte f w l k i ew el ei = cc

-- four blocks, one after another
pub xored-quads : {t p q x y u v w z : List ℕ} (f : ℕ → List ℕ) (w0 w1 w2 w3 : List ℕ)
    → w0 ≡ f 0 → w1 ≡ f 1 → w2 ≡ f 2 → w3 ≡ f 3
    → (p ++ q) ++ (x ++ y) ≡ t
    → length p ≡ 64 → length q ≡ 64 → length x ≡ 64 → length y ≡ 64
    → Xored p (ByteAt w0) u → Xored q (ByteAt w1) v → Xored x (ByteAt w2) w → Xored y (ByteAt w3) z
    → Xored t (λ i. ByteAt (f (i / 64)) (i % 64)) ((u ++ v) ++ (w ++ z))
xored-quads f w0 w1 w2 w3 e0 e1 e2 e3 et lp lq lx ly x0 x1 x2 x3 =
    xored-four (λ i. ByteAt (f (i / 64)) (i % 64)) (ByteAt w0) (ByteAt w1) (ByteAt w2) (ByteAt w3) 64 et lp lq lx ly x0 x1 x2 x3
    (λ i h. quad-byte f w0 0 i i e0 (omega arith) (omega arith))
    (λ i h. quad-byte f w1 1 (64 + i) i e1 (omega arith) (omega arith))
    (λ i h. quad-byte f w2 2 (128 + i) i e2 (omega arith) (omega arith))
    (λ i h. quad-byte f w3 3 (192 + i) i e3 (omega arith) (omega arith))

-- what the lanes are worth
pub keyed_lanes : {W : Type 0} (lanes : ℕ) (lane : ℕ → W → ℕ) (s : State ℕ) (q r : State W) {t u : List ℕ} → length t ≡ 64 * lanes
    → ((l : ℕ) → l < lanes → Lane lane l q ≡ Advance l s)
    → ((l : ℕ) → l < lanes → Lane lane l r ≡ Rounds (Lane lane l q))
    → Xored t (LaneByte lane r) u
    → Xored t (Keyed s) u
unfolding Keyed
keyed_lanes lanes lane s q r lt eq er x =
    xored-as (LaneByte lane r) (Keyed s) x
    (λ i h.
    let l : i / 64 < lanes = omega arith in
    cc (er (i / 64) l, eq (i / 64) l))

-- the key stream, n blocks on
advance-more : (s : State ℕ) (n m : ℕ) → Advance m (Advance n s) ≡ Advance (n + m) s
unfolding Advance
advance-more s n m =
    let e : ((s.x12 + n) % 2 ^ 32 + m) % 2 ^ 32 ≡ (s.x12 + (n + m)) % 2 ^ 32 = omega arith in cc

pub keyed-advanced : (s : State ℕ) (n i : ℕ) → Keyed (Advance n s) i ≡ Keyed s (64 * n + i)
unfolding Keyed
keyed-advanced s n i =
    let d : n + i / 64 ≡ (64 * n + i) / 64 = omega arith in
    let m : i % 64 ≡ (64 * n + i) % 64 = omega arith in
    cc (advance-more s n (i / 64))

-- the state of a later block
advance-init : (key : List ℕ) (c : ℕ) (nonce : List ℕ) (n : ℕ) → Advance n (Init key c nonce) ≡ Init key (c + n) nonce
unfolding Advance Init
advance-init key c nonce n =
    let e : (c % 2 ^ 32 + n) % 2 ^ 32 ≡ (c + n) % 2 ^ 32 = omega arith in cc

-- the key stream of a key, a counter and a nonce
pub keyed-is : (key : List ℕ) (c : ℕ) (nonce : List ℕ) (i : ℕ) → Keyed (Init key c nonce) i ≡ Stream key c nonce i
unfolding Keyed Stream Block
keyed-is key c nonce i =
    ap (λ (s : State ℕ). ByteAt (Listed (Rounds s)) (i % 64)) (advance-init key c nonce (i / 64))
    ∙ sym
    (get_or-map-range_with_len (ByteAt (Listed (Rounds (Init key (c + i / 64) nonce)))) 0 64 (i % 64) (i % 64) 0 (omega arith)
    (omega arith))
