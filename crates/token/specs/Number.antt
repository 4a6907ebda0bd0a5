-- The number that a word stands for.
use Rattle.std.specs.Prelude.{ℕ, ◌+◌, ◌-◌, ◌*◌, cond, ◌&&◌, List, [], ◌∷◌, Some, None, Option, nat_le}
use Rattle.std.specs.Char.{is_ascii_digit}

-- the number of the digits, after digits of the number n
unfoldable pub digits_of : ℕ → List ℕ → Option ℕ
digits_of n [] = Some n
digits_of n (b ∷ bs) = cond (is_ascii_digit b) (digits_of (n * 10 + (b - 48)) bs) None

abbrev pub within : ℕ → ℕ → Option ℕ → Option ℕ
within low high None = None
within low high (Some n) = cond (nat_le low n && nat_le n high) (Some n) None

-- one digit or more, whose number lies between low and high
unfoldable pub number_of : ℕ → ℕ → List ℕ → Option ℕ
number_of low high [] = None
number_of low high (b ∷ bs) = within low high (digits_of 0 (b ∷ bs))
