use Rattle.std.proofs.Common.{ℕ, List, get_or, replicate, refl, ap, ◌∙◌, rules}
use Rattle.std.proofs.lemmas.List.Elements.{same_from_all_zip}
use Rattle.disk.proofs.Kept.{all_same}
use Rattle.disk.proofs.memory.Memory.fresh.Goals as goal

pub returns : goal.returns
returns c =
    let z : List ℕ = replicate 512 0 in
    (refl, c.in_ok-blocks.ensures.len, λ b. ap (λ (xs : List (List ℕ)). get_or xs b z) (c.in_ok-blocks.ensures.items_if_clones_equal (λ y q. search (rules, same_from_all_zip))) ∙ all_same c.args.blocks b z)
