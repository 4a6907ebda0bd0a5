-- A part of a slice that is written over.
use Rattle.std.proofs.Common.{◌≡◌, ℕ, ◌+◌, List, ◌++◌, length, take, drop, ap, ◌∙◌}
use borrow.Rule.Slice.PartMut.{put_mid}
use Rattle.std.proofs.lemmas.List.{drop-drop}

pub put_is : (a k : ℕ) (xs ys zs : List ℕ) → k ≡ length zs → ys ≡ zs
    → put_mid a k xs ys ≡ take a xs ++ (zs ++ drop (a + length zs) xs)
put_is a k xs ys zs ek ey =
    ap (λ (v : List ℕ). take a xs ++ (v ++ drop k (drop a xs))) ey
    ∙ ap (λ (v : List ℕ). take a xs ++ (zs ++ v)) (drop-drop k a xs ∙ ap (λ (n : ℕ). drop (a + n) xs) ek)
