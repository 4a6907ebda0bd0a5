use Rattle.std.proofs.Common.{ℕ, List, length, ap, ◌∙◌, arith}
use Rattle.std.proofs.lemmas.List.{with_items_is}
use Rattle.bits.specs.Bits as bits
use Rattle.bits.proofs.Member.{has-none}
use Rattle.numbers.specs.Has.{has}
use Rattle.numbers.proofs.Numbers.clear.Goals as goal

pub returns : goal.returns
unfolding has
returns c n =
    ap (λ (xs : List ℕ). bits.has xs n) (with_items_is c.args.self.now.bytes c.fill.new.self (omega (arith, c.fill.ensures.len, c.as_mut_slice.ensures.len)) ∙ c.fill.ensures.after (λ y q. q))
    ∙ has-none (length c.as_mut_slice.result.now) n
