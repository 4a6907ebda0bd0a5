use Rattle.std.proofs.Common.{ℕ, List, ap, ◌∙◌}
use Rattle.bits.specs.Bits as bits
use Rattle.bits.proofs.Member.{has-none}
use Rattle.numbers.specs.Has.{has}
use Rattle.numbers.proofs.Numbers.new.Goals as goal

pub returns : goal.returns
unfolding has
returns c n = ap (λ (xs : List ℕ). bits.has xs n) (c.in_ok-bytes.ensures.items_if_clones_equal (λ y q. q)) ∙ has-none 8192 n
