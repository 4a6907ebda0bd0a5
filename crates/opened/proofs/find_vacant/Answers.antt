use Rattle.std.proofs.Common.{◌≡◌, ℕ, Bool, true, false, refl, rules, tests}
use Rattle.std.proofs.lemmas.Iterator.{first_from_Range}
use Rattle.blocks.proofs.Chains.{first-is}
use Rattle.opened.specs.Opened.{held, is_vacant}
use Rattle.opened.proofs.find_vacant.Goals as goal

pub returns : goal.returns
returns g c =
    let p : ℕ → Bool = λ k. is_vacant (held (g.D.Disk.meaning.block c.args.disk.now) k) in
    first-is p 64 _ 0 refl c.find.result
    (first_from_Range _ _ _ c.find.result (λ i. p i ≡ true) (λ i. p i ≡ false) c.find.ensures.ran (λ x q k. search (rules, tests)) (λ x q k. search (rules, tests)))
