-- What stands in each lane of a vector that is made of others.
use Rattle.std.proofs.Common.{◌≡◌, ℕ, ◌-◌, ◌*◌, ◌/◌, ◌%◌, ◌^◌, ◌<◌, List, [], ◌∷◌, length, get_or, refl, ap, ◌∙◌, arith}
use lib.Bits.{bit_or, bit_xor}
use lib.Lanes.{zip2}
use Rattle.std.proofs.lemmas.Simd.{get_or-replicate, get_or-zip2, length-zip2}
use Rattle.chacha20.specs.Words.{ROTL}

-- an operator on two vectors of four lanes
pub lane2 : (f : ℕ → ℕ → ℕ) (a b : List ℕ) (l : ℕ) → length a ≡ 4 → length b ≡ 4 → l < 4
    → get_or (zip2 f a b) l 0 ≡ f (get_or a l 0) (get_or b l 0)
lane2 f a b l la lb h = get_or-zip2 f a b l 0 0 0 (omega arith) (omega arith)

long2 : (f : ℕ → ℕ → ℕ) (a b : List ℕ) → length a ≡ 4 → length b ≡ 4 → length (zip2 f a b) ≡ 4
long2 f a b la lb = length-zip2 f a b (omega arith) ∙ la

-- a xor and a rotation by shifts
pub mixed_is : (a b : List ℕ) (n m l : ℕ) → length a ≡ 4 → length b ≡ 4 → l < 4 → m ≡ 32 - n
    → get_or
    (zip2 bit_or (zip2 (λ x k. (x * 2 ^ k) % 2 ^ 32) (zip2 bit_xor a b) (n ∷ n ∷ n ∷ n ∷ []))
    (zip2 (λ x k. x / 2 ^ k) (zip2 bit_xor a b) (m ∷ m ∷ m ∷ m ∷ [])))
    l
    0
    ≡ ROTL n (bit_xor (get_or a l 0) (get_or b l 0))
mixed_is a b n m l la lb h em =
    let x : List ℕ = zip2 bit_xor a b in
    let lx : length x ≡ 4 = long2 bit_xor a b la lb in
    let ns : List ℕ = n ∷ n ∷ n ∷ n ∷ [] in
    let ms : List ℕ = m ∷ m ∷ m ∷ m ∷ [] in
    let ex : get_or x l 0 ≡ bit_xor (get_or a l 0) (get_or b l 0) = lane2 bit_xor a b l la lb h in
    let en : get_or ns l 0 ≡ n = get_or-replicate 4 l n 0 h in
    let er : get_or ms l 0 ≡ 32 - n = get_or-replicate 4 l m 0 h ∙ em in
    let up : ℕ → ℕ → ℕ = λ y k. (y * 2 ^ k) % 2 ^ 32 in
    let down : ℕ → ℕ → ℕ = λ y k. y / 2 ^ k in
    lane2 bit_or (zip2 up x ns) (zip2 down x ms) l (long2 up x ns lx refl) (long2 down x ms lx refl) h
    ∙ ap (λ (y : ℕ). bit_or y (get_or (zip2 down x ms) l 0)) (lane2 up x ns l lx refl h)
    ∙ ap (bit_or (up (get_or x l 0) (get_or ns l 0))) (lane2 down x ms l lx refl h)
    ∙ ap (λ (k : ℕ). bit_or (up (get_or x l 0) k) (down (get_or x l 0) (get_or ms l 0))) en
    ∙ ap (λ (k : ℕ). bit_or (up (get_or x l 0) n) (down (get_or x l 0) k)) er
    ∙ ap (ROTL n) ex
