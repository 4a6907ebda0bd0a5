-- The bits in which bytes differ. Assumes nothing.
use Rattle.std.specs.Prelude.{ℕ, List, bit_or, bit_xor}
use Rattle.std.specs.List.{fold, zip}

-- of any byte of one list and the byte of the other at its place
abbrev pub differences : List ℕ → List ℕ → ℕ
differences a b = fold (λ all p. bit_or all (bit_xor p.0 p.1)) 0 (zip a b)
