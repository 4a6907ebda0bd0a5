-- A file's bytes, taken in block by block.
use Rattle.std.proofs.Common.{◌≡◌, ℕ, zero, suc, ◌+◌, ◌-◌, ◌^◌, ◌<◌, ◌≤◌, min, Bool, true, false, cond, List, [], ◌∷◌, ◌++◌, length, take, Ok, Err, Result, sym, refl, ap, ◌∙◌, ⊎_elim, add-one, arith, MatchResult}
use Rattle.std.proofs.lemmas.List.{take_all, append-nil, length-take}
use Rattle.std.proofs.lemmas.Bool.{cases_lt}
use Rattle.sha256.specs.Stream.{Holds, Updated}
use Rattle.sha256.specs.declared.stream.Sha256.{Sha256}
use Rattle.sha256.specs.declared.stream.Error.{Error}
use Rattle.blocks.specs.Sets.{has}
use Rattle.disk.specs.Disks.{Blocks}
use Rattle.opened.specs.Opened.{joined}

pub take-both : (n : ℕ) (a b : List ℕ) → take n (a ++ b) ≡ take n a ++ take (n - length a) b
take-both zero a b = ap (λ (k : ℕ). take k b) (let e : 0 ≡ 0 - length a = omega arith in e)
take-both (suc n) [] b = ap (λ (k : ℕ). take k b) (let e : suc n ≡ suc n - 0 = omega arith in e)
take-both (suc n) (x ∷ a) b = ap (λ (v : List ℕ). x ∷ v) (take-both n a b ∙ ap (λ (k : ℕ). take n a ++ take k b) (let e : n - length a ≡ suc n - suc (length a) = omega arith in e))

pub take_min : (n : ℕ) (b : List ℕ) → length b ≡ 512 → take (min n 512) b ≡ take n b
take_min n b l =
    ⊎_elim (λ (h : n < 512). ap (λ (k : ℕ). take k b) (let e : min n 512 ≡ n = omega arith in e))
    (λ (h : 512 ≤ n). ap (λ (k : ℕ). take k b) (let e : min n 512 ≡ 512 = omega arith in e) ∙ take_all 512 b (omega arith) ∙ sym (take_all n b (omega arith)))
    (cases_lt n 512)

pub updated-holds : (s t : Sha256) (part m : List ℕ) (r : Result (Unit {0}) Error) → Updated s part r t → Holds s m → length m < 2 ^ 60 → length part ≤ 512 → Holds t (m ++ part)
updated-holds s t part m r u h lm lp = go r u.cases (u.refused m h)
  where
    go : (v : Result (Unit {0}) Error) → MatchResult v (λ _. (k : List ℕ) → Holds s k → Holds t (k ++ part)) (λ _. t ≡ s)
        → MatchResult v (λ _. length m + length part < 2 ^ 61) (λ _. 2 ^ 61 ≤ length m + length part) → Holds t (m ++ part)
    go (Ok x) c b = c m h
    go (Err e) c b = absurd (omega arith)

pub joined-yes : (f : Blocks) (s : List ℕ) (k : ℕ) → has s k ≡ true → joined f s (k + 1) ≡ joined f s k ++ f (128 + k)
unfolding joined
joined-yes f s k e = ap (joined f s) (add-one k) ∙ ap (λ (b : Bool). joined f s k ++ cond b (f (128 + k)) []) e

pub joined-no : (f : Blocks) (s : List ℕ) (k : ℕ) → has s k ≡ false → joined f s (k + 1) ≡ joined f s k
unfolding joined
joined-no f s k e = ap (joined f s) (add-one k) ∙ ap (λ (b : Bool). joined f s k ++ cond b (f (128 + k)) []) e ∙ append-nil (joined f s k)

pub joined-zero : (f : Blocks) (s : List ℕ) → joined f s 0 ≡ []
unfolding joined
joined-zero f s = refl

pub take-nil : (n : ℕ) → take {A = ℕ} n [] ≡ []
take-nil zero = refl
take-nil (suc n) = refl

pub take-most : (n : ℕ) (a : List ℕ) → length (take n a) ≤ n
take-most n a = omega (arith, length-take n a)
