use Rattle.std.proofs.Common.{ℕ, ◌/◌, get_or, rules, arith}
use lib.Bits.{bit_or}
use Rattle.bits.proofs.Member.{has-union}
use Rattle.blocks.proofs.Chains.{from-fn-at}
use Rattle.blocks.proofs.Set.join.Goals as goal

pub returns : goal.returns
returns c k h =
    has-union c.args.self.now.bits c.args.other.now.bits c.from_fn-self.result k
    (from-fn-at _ _ (λ (i : ℕ). bit_or (get_or c.args.self.now.bits i 0) (get_or c.args.other.now.bits i 0)) (λ i y q k. search rules) c.from_fn-self.result 0 256 0 (k / 8) c.from_fn-self.ensures.items.each (omega arith) (omega arith))
