-- What is a name.
use Rattle.std.proofs.Common.{◌≡◌, ℕ, ◌+◌, ◌-◌, ◌<◌, ◌≤◌, Bool, true, false, ◌&&◌, leb, List, [], ◌∷◌, ◌++◌, length, take, drop, replicate, refl, ap, ◌∙◌, arith}
use Rattle.std.proofs.lemmas.Bool.{le-leb, lt-leb, and_right, and_left, and_parts, leb-true}
use Rattle.std.proofs.lemmas.List.{drop-replicate, take_at, length-append, length-replicate}
use Rattle.std.specs.List.{list_all}
use Rattle.model.specs.Keyed.{every}
use Rattle.model.specs.Put.{is_name_byte}
use Rattle.record.specs.Names.{is_name, named, name_of}

pub name-short : (bs : List ℕ) → length bs < 1 → is_name bs ≡ false
unfolding is_name
name-short bs h = and_left (leb 1 (length bs)) _ (lt-leb 1 (length bs) h)

pub name-long : (bs : List ℕ) → 32 < length bs → is_name bs ≡ false
unfolding is_name
name-long bs h = and_right (leb 1 (length bs)) _ (and_left (leb (length bs) 32) _ (lt-leb (length bs) 32 h))

pub name-is : (bs : List ℕ) → 1 ≤ length bs → length bs ≤ 32 → is_name bs ≡ every is_name_byte bs
unfolding is_name
name-is bs h k =
    ap (λ (b : Bool). b && (leb (length bs) 32 && every is_name_byte bs)) (le-leb 1 (length bs) h)
    ∙ ap (λ (b : Bool). b && every is_name_byte bs) (le-leb (length bs) 32 k)

pub name-most : (bs : List ℕ) → is_name bs ≡ true → length bs ≤ 32
unfolding is_name
name-most bs e = leb-true (length bs) 32 (and_parts (leb (length bs) 32) _ (and_parts (leb 1 (length bs)) _ e).1).0

pub every-all : (p : ℕ → Bool) (xs : List ℕ) → list_all p xs ≡ every p xs
unfolding every
every-all p [] = refl
every-all p (x ∷ xs) = ap (λ (b : Bool). p x && b) (every-all p xs)

pub every-stop : (p : ℕ → Bool) (x : ℕ) (xs : List ℕ) → p x ≡ false → every p (x ∷ xs) ≡ false
unfolding every
every-stop p x xs e = ap (λ (b : Bool). b && every p xs) e

pub every-on : (p : ℕ → Bool) (x : ℕ) (xs : List ℕ) → p x ≡ true → every p (x ∷ xs) ≡ every p xs
unfolding every
every-on p x xs e = ap (λ (b : Bool). b && every p xs) e

pub every-nil : (p : ℕ → Bool) → every p [] ≡ true
unfolding every
every-nil p = refl

pub bytes-in : (bs all : List ℕ) → length bs ≤ 32 → all ≡ take 0 (replicate 32 0) ++ (bs ++ drop (0 + length bs) (replicate 32 0)) → all ≡ (named bs).bytes
bytes-in bs all h e =
    let z : 0 + length bs ≡ length bs = omega arith in
    e ∙ ap (λ (n : ℕ). bs ++ drop {A = ℕ} n (replicate 32 0)) z ∙ ap (λ (zs : List ℕ). bs ++ zs) (drop-replicate (length bs) 32 0)

pub name-of-named : (bs : List ℕ) → length bs ≤ 32 → name_of (named bs) ≡ bs
name-of-named bs h = let m : Prim.Native.Nat.min (length bs) 32 ≡ length bs = omega arith in ap (λ (n : ℕ). take n (named bs).bytes) m ∙ take_at bs _ (length bs) refl

pub length-named : (bs : List ℕ) → length bs ≤ 32 → length (named bs).bytes ≡ 32
length-named bs h = length-append bs (replicate (32 - length bs) 0) ∙ (let e : length {A = ℕ} (replicate (32 - length bs) 0) ≡ 32 - length bs = length-replicate (32 - length bs) 0 in omega arith)
