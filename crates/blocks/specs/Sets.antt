-- A set of block numbers below 2,048 as 256 bytes, one bit a number. Assumes nothing.
use Rattle.std.specs.Prelude.{ℕ, zero, suc, ◌+◌, Bool, cond, not, ◌&&◌, List, replicate, Some, None, Option, nat_lt}
-- whether a number is in a set; with one more number
unfoldable pub use Rattle.bits.specs.Bits.{has, with}

abbrev pub none : List ℕ
none = replicate 256 0

-- how many numbers below n pass a test
unfoldable pub tally : (ℕ → Bool) → ℕ → ℕ
tally p zero = 0
tally p (suc n) = tally p n + cond (p n) 1 0

-- the first of n numbers from k on that passes a test
unfoldable pub first : (ℕ → Bool) → (n k : ℕ) → Option ℕ
first p zero k = None
first p (suc n) k = cond (p k) (Some k) (first p n (suc k))

abbrev pub is_free : (ℕ → Bool) → ℕ → Bool
is_free used k = not (used k)

-- the lowest numbers below k that are not used, at most so many
unfoldable pub lowest : (used : ℕ → Bool) → (many k : ℕ) → List ℕ
lowest used many zero = none
lowest used many (suc k) = cond (is_free used k && nat_lt (tally (is_free used) k) many) (with (lowest used many k) k) (lowest used many k)
