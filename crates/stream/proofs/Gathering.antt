-- A message gathered in two parts: its length, then the rest.
use Rattle.std.proofs.Common.{◌≡◌, ℕ, ◌+◌, ◌-◌, ◌<◌, ◌≤◌, min, ◌⊎◌, List, ◌++◌, length, take, drop, Some, Ok, sym, refl, ap, ◌∙◌, inl, inr, arith, take-add}
use Rattle.std.proofs.lemmas.List.{append_assoc, length-append, length-take-le}
use Rattle.std.proofs.lemmas.Bool.{cases_lt}
use Rattle.std.proofs.lemmas.Grind.{common_steps}
use Rattle.seal.specs.Frames.{largest, size_at}
use Rattle.stream.specs.Readers.{Gathers, Short}

pub size-append : (x y : List ℕ) → 2 ≤ length x → size_at (x ++ y) ≡ size_at x
size-append x y l = grind (arith, common_steps)

pub short-front : (x y : List ℕ) → Short (x ++ y) → Short x
short-front x y h = record { fits = λ l. grind (arith, common_steps, h.fits) }

pub few : (x : List ℕ) → length x < 2 → Short x
few x l = record { fits = λ m. absurd (omega arith) }

-- a part is taken
length_part : (h h1 piece : List ℕ) (n : ℕ) → n ≤ length piece → h1 ≡ h ++ take n piece → length h1 ≡ length h + n
length_part h h1 piece n l e = ap length e ∙ length-append h (take n piece) ∙ ap (λ (v : ℕ). length h + v) (length-take-le n piece l)

-- the first two bytes of what has come tell its length
pub low : (h h1 rest : List ℕ) → Short h → h1 ≡ h ++ rest → largest < size_at h1 → length h < 2
low h h1 rest sh e lg = by (cases_lt (length h) 2)
  where
    by : (length h < 2) ⊎ (2 ≤ length h) → length h < 2
    by (inl l) = l
    by (inr l) =
        let f0 : size_at h ≤ largest = (sh.fits l).0 in
        let ez : size_at h1 ≡ size_at h = ap size_at e ∙ size-append h rest l in absurd (omega arith)

-- both parts
module _ (h h1 h2 piece rest : List ℕ) (n m size : ℕ) (en : n ≡ min (2 - length h) (length piece)) (e1 : h1 ≡ h ++ take n piece)
    (l1 : 2 ≤ length h1) (es : size ≡ size_at h1) (ls : size ≤ largest) (er : rest ≡ drop n piece)
    (em : m ≡ min (size + 18 - length h1) (length rest)) (e2 : h2 ≡ h1 ++ take m rest) where
  both : h2 ≡ h ++ take (n + m) piece
  both = grind (arith, common_steps, take-add n m piece)

  size2 : size_at h2 ≡ size
  size2 = ap size_at e2 ∙ size-append h1 (take m rest) l1 ∙ sym es

  pub second-frame : Short h → size + 18 ≤ length h2 → Gathers h piece (Ok (Some (n + m))) h2
  second-frame sh l =
      let z : size_at h2 ≡ size = size2 in
      let b = both in
      let p : 0 < n + m = grind (arith, common_steps, sh.fits) in
      let k : length h2 ≡ size + 18 = grind (arith, common_steps, sh.fits) in
      let u : n + m ≤ length piece = grind (arith, common_steps) in
      let a : n + m - 1 + 1 ≡ n + m = omega arith in
      let x : List ℕ = h ++ take (n + m - 1) piece in
      let y : List ℕ = take 1 (drop (n + m - 1) piece) in
      let ex : h2 ≡ x ++ y =
      b ∙ ap (λ (v : List ℕ). h ++ v) (ap (λ (v : ℕ). take v piece) (sym a) ∙ take-add (n + m - 1) 1 piece)
      ∙ sym (append_assoc h (take (n + m - 1) piece) y) in
      let lx : length x ≡ length h + (n + m - 1) = length_part h x piece (n + m - 1) (omega arith) refl in
      let lh : length h2 ≡ length h + (n + m) = length_part h h2 piece (n + m) u b in
      let zx : size_at x ≡ size = sym (size-append x y (omega arith)) ∙ ap size_at (sym ex) ∙ z in (
        p,
        u,
        b,
        record { size = omega arith; bound = omega arith },
        record { fits = λ _. (omega arith, omega arith) },
      )
