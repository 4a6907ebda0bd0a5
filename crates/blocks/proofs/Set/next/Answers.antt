use Rattle.std.proofs.Common.{◌≡◌, ℕ, Bool, true, false, refl, rules, tests}
use Rattle.std.proofs.lemmas.Iterator.{first_from_Range}
use Rattle.blocks.specs.Sets.{has}
use Rattle.blocks.proofs.Chains.{first-is}
use Rattle.blocks.proofs.Set.next.Goals as goal

pub returns : goal.returns
returns c =
    let p : ℕ → Bool = has c.args.self.now.bits in
    first-is p 2048 _ c.args.from refl c.find.result
    (first_from_Range _ _ _ c.find.result (λ i. p i ≡ true) (λ i. p i ≡ false) c.find.ensures.ran (λ x q k. search (rules, tests)) (λ x q k. search (rules, tests)))
