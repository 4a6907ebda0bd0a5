-- The two pads of a key.
use Rattle.std.proofs.Common.{◌≡◌, ℕ, ◌+◌, ◌-◌, ◌<◌, ◌≤◌, Bool, if◌then◌else◌, ◌⊎◌, List, ◌++◌, length, drop, replicate, sym, refl, ap, ◌∙◌, inl, inr, arith, le-leb}
use borrow.Author.Tests.{lt-leb}
use lib.Bits.{bit_xor}
use Rattle.std.proofs.lemmas.List.{drop-replicate, length-append, length-map, length-replicate}
use Rattle.std.proofs.lemmas.Bool.{cases_lt}
use Rattle.sha256.specs.Message.{Output, SHA256}
use Rattle.hmac.specs.Hmac.{Ipad, Opad, Padded, Short}

pub short-is : (key : List ℕ) → length key ≤ 64 → key ≡ Short key
unfolding Short
short-is key h = ap (λ (b : Bool). (if b then key else SHA256 key)) (sym (le-leb (length key) 64 h))

pub long-is : (key : List ℕ) → 64 < length key → SHA256 key ≡ Short key
unfolding Short
long-is key h = ap (λ (b : Bool). (if b then key else SHA256 key)) (sym (lt-leb (length key) 64 h))

pub length-sha : (m : List ℕ) → length (SHA256 m) ≡ 32
unfolding SHA256 Output
length-sha m = refl

length-short : (key : List ℕ) → length (Short key) ≤ 64
length-short key = by (cases_lt 64 (length key))
  where
    by : (64 < length key) ⊎ (length key ≤ 64) → length (Short key) ≤ 64
    by (inl h) = omega (arith, length-sha key, ap length (long-is key h))
    by (inr h) = omega (arith, ap length (short-is key h))

length-padded : (k : List ℕ) → length k ≤ 64 → length (Padded k) ≡ 64
unfolding Padded
length-padded k h =
    length-append k (replicate (64 - length k) 0) ∙ omega (arith, length-replicate {A = ℕ} (64 - length k) 0)

pub length-ipad : (key : List ℕ) → length (Ipad key) ≡ 64
unfolding Ipad
length-ipad key =
    length-map (Padded (Short key)) (λ x. bit_xor x 0x36) ∙ length-padded (Short key) (length-short key)

pub length-opad : (key : List ℕ) → length (Opad key) ≡ 64
unfolding Opad
length-opad key =
    length-map (Padded (Short key)) (λ x. bit_xor x 0x5c) ∙ length-padded (Short key) (length-short key)

pub padded_is : (p t : List ℕ) → t ≡ p ++ drop (0 + length p) (replicate 64 0) → t ≡ Padded p
unfolding Padded
padded_is p t e =
    let n : 64 - (0 + length p) ≡ 64 - length p = omega arith in
    e ∙ ap (λ (v : List ℕ). p ++ v) (drop-replicate (0 + length p) 64 0 ∙ ap (λ (k : ℕ). replicate k 0) n)
