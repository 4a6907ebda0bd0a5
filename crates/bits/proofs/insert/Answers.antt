use Rattle.std.proofs.Common.{ℕ, ◌/◌, ◌%◌, List, get_or, set, ap, arith}
use lib.Bits.{bit_or}
use Rattle.std.proofs.lemmas.Nat.{one_shl}
use Rattle.bits.specs.Bits.{with}
use Rattle.bits.proofs.insert.Goals as goal

pub returns : goal.returns
unfolding with
returns c =
    let s : List ℕ = c.args.bytes.now in
    let k : ℕ = c.args.n in
    ap (λ (b : ℕ). set s (k / 8) (bit_or (get_or s (k / 8) 0) b)) (one_shl (k % 8) 8 (omega arith))
