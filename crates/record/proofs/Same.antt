-- Whether two byte strings are one.
use Rattle.std.proofs.Common.{◌≡◌, ℕ, Bool, true, false, cond, ◌&&◌, eqb, ◌↔◌, IsTrue, Decides, List, refl}
use Rattle.std.specs.Str.{bytes_eq}
use Rattle.std.proofs.lemmas.Bool.Decides.{same_from_decides}
use Rattle.std.proofs.lemmas.Slice.Eq.{bytes_eq-Decides, compares_Decides}
use Rattle.model.specs.Files.{same}

if_and : (a b : Bool) → cond a b false ≡ (a && b)
if_and true b = refl
if_and false b = refl

pub same-decides : (xs ys : List ℕ) → Decides (same xs ys) (xs ≡ ys)
unfolding same
same-decides xs ys = compares_Decides same (record { empty = refl; shorter = λ y ys. refl; longer = λ x xs. refl; heads = λ x y xs ys. if_and (eqb x y) (same xs ys) }) xs ys

pub same_refl : (xs : List ℕ) → same xs xs ≡ true
same_refl xs = (same-decides xs xs).1 refl

pub same-eq : (xs ys : List ℕ) → same xs ys ≡ true → xs ≡ ys
same-eq xs ys = (same-decides xs ys).0

pub eq-same : (xs ys : List ℕ) → xs ≡ ys → same xs ys ≡ true
eq-same xs ys = (same-decides xs ys).1

pub decided : (b : Bool) (xs ys : List ℕ) → IsTrue b ↔ (xs ≡ ys) → b ≡ same xs ys
decided b xs ys h = same_from_decides b (same xs ys) h (same-decides xs ys)

pub bytes-same : (xs ys : List ℕ) → bytes_eq xs ys ≡ same xs ys
bytes-same xs ys = same_from_decides (bytes_eq xs ys) (same xs ys) (bytes_eq-Decides xs ys) (same-decides xs ys)
