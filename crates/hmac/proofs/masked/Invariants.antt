use Rattle.std.proofs.Common.{◌≡◌, ℕ, ◌<◌, ◌≤◌, bit_xor, get_or, length}
use Rattle.hmac.proofs.masked.Given as goal

abbrev pub invariant-loop-byte : goal.invariant-loop-byte
invariant-loop-byte l = record {
  size : length l.byte-items ≡ 64;
  done : (k : ℕ) → k < l.byte-index → get_or l.byte-items k 0 ≡ bit_xor (get_or l.block k 0) l.mask;
  left : (k : ℕ) → l.byte-index ≤ k → get_or l.byte-items k 0 ≡ get_or l.block k 0;
}
