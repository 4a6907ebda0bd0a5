-- What is there after a change.
use Rattle.std.proofs.Common.{◌≡◌, ℕ, zero, suc, ◌/◌, ◌%◌, ◌^◌, ◌<◌, max, Bool, true, false, ◌||◌, eqb, List, length, get_or, set, replicate, sym, refl, ap, ◌∙◌, ⊎_elim, arith}
use lib.Bits.{bit_or}
use Rattle.std.proofs.lemmas.List.{get_or-set_same, get_or-set_other, length-set, length-replicate, get_or-replicate, get_or_past}
use Rattle.std.proofs.lemmas.Bool.{cases_eq, cases_lt, eq-eqb, ne_eqb}
use Rattle.std.proofs.lemmas.Bool.Decides.{nat_tests}
use Rattle.std.proofs.lemmas.Nat.Bits.{bit_at_or, bit_at-pow_same, bit_at-pow_other}
use Rattle.bits.specs.Bits.{has, with}

abbrev bit : ℕ → ℕ → ℕ
bit x i = x / 2 ^ i % 2

max-eqb : (a b : ℕ) → a < 2 → b < 2 → eqb (max a b) 1 ≡ (eqb a 1 || eqb b 1)
max-eqb zero zero h k = refl
max-eqb zero (suc zero) h k = refl
max-eqb zero (suc (suc b)) h k = absurd (omega arith)
max-eqb (suc zero) zero h k = refl
max-eqb (suc zero) (suc zero) h k = refl
max-eqb (suc zero) (suc (suc b)) h k = absurd (omega arith)
max-eqb (suc (suc a)) b h k = absurd (omega arith)

or-has : (x y i : ℕ) → eqb (bit (bit_or x y) i) 1 ≡ (eqb (bit x i) 1 || eqb (bit y i) 1)
or-has x y i = ap (λ (n : ℕ). eqb n 1) (bit_at_or x y i) ∙ max-eqb (bit x i) (bit y i) (omega arith) (omega arith)

bit-pow : (m i : ℕ) → eqb (bit (2 ^ m) i) 1 ≡ eqb i m
bit-pow m i =
    ⊎_elim (λ (e : i ≡ m). ap (λ (j : ℕ). eqb (bit (2 ^ m) j) 1) e ∙ ap (λ (n : ℕ). eqb n 1) (bit_at-pow_same m) ∙ sym (eq-eqb i m e))
    (λ ne. ap (λ (n : ℕ). eqb n 1) (bit_at-pow_other m i ne) ∙ sym (ne_eqb i m ne))
    (cases_eq i m)

-- bytes each of which is that of two others
pub has-union : (s t u : List ℕ) (k : ℕ) → get_or u (k / 8) 0 ≡ bit_or (get_or s (k / 8) 0) (get_or t (k / 8) 0) → has u k ≡ (has s k || has t k)
unfolding has
has-union s t u k e = ap (λ (n : ℕ). eqb (bit n (k % 8)) 1) e ∙ or-has (get_or s (k / 8) 0) (get_or t (k / 8) 0) (k % 8)

or_comm : (a b : Bool) → (a || b) ≡ (b || a)
or_comm true true = refl
or_comm true false = refl
or_comm false true = refl
or_comm false false = refl

pub has-with : (s : List ℕ) (k j : ℕ) → k / 8 < length s → has (with s k) j ≡ (eqb j k || has s j)
unfolding has with
has-with s k j h =
    ⊎_elim
    (λ e.
    let new : ℕ = bit_or (get_or s (k / 8) 0) (2 ^ (k % 8)) in
    let a : get_or (set s (k / 8) new) (j / 8) 0 ≡ new = ap (λ (i : ℕ). get_or (set s (k / 8) new) i 0) e ∙ get_or-set_same s (k / 8) new 0 h in
    let b : eqb (j % 8) (k % 8) ≡ eqb j k = grind (arith, nat_tests) in
    ap (λ (n : ℕ). eqb (bit n (j % 8)) 1) a ∙ or-has (get_or s (k / 8) 0) (2 ^ (k % 8)) (j % 8)
    ∙ ap (λ (v : Bool). eqb (bit (get_or s (k / 8) 0) (j % 8)) 1 || v) (bit-pow (k % 8) (j % 8) ∙ b)
    ∙ ap (λ (i : ℕ). eqb (bit (get_or s i 0) (j % 8)) 1 || eqb j k) (sym e)
    ∙ or_comm (eqb (bit (get_or s (j / 8) 0) (j % 8)) 1) (eqb j k))
    (λ ne.
    let f : eqb j k ≡ false = ne_eqb j k (λ e. ne (ap (λ (i : ℕ). i / 8) e)) in
    ap (λ (n : ℕ). eqb (bit n (j % 8)) 1) (get_or-set_other s (k / 8) (j / 8) (bit_or (get_or s (k / 8) 0) (2 ^ (k % 8))) 0 ne)
    ∙ ap (λ (v : Bool). v || eqb (bit (get_or s (j / 8) 0) (j % 8)) 1) (sym f))
    (cases_eq (j / 8) (k / 8))

pub length-with : (s : List ℕ) (k : ℕ) → length (with s k) ≡ length s
unfolding with
length-with s k = length-set s (k / 8) _

zero_bit : (i : ℕ) → eqb (bit 0 i) 1 ≡ false
zero_bit i = ne_eqb (bit 0 i) 1 (λ e. omega arith)

zeros : (n i : ℕ) → get_or {A = ℕ} (replicate n 0) i 0 ≡ 0
zeros n i = ⊎_elim (λ h. get_or-replicate n i 0 0 h) (λ h. get_or_past (replicate n 0) i 0 (let e : length {A = ℕ} (replicate n 0) ≡ n = length-replicate n 0 in omega arith)) (cases_lt i n)

-- of zeros none is there
pub has-none : (n k : ℕ) → has (replicate n 0) k ≡ false
unfolding has
has-none n k = ap (λ (x : ℕ). eqb (bit x (k % 8)) 1) (zeros n (k / 8)) ∙ zero_bit (k % 8)
