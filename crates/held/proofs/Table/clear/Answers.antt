use Rattle.std.proofs.Common.{[], ◌∷◌, ◌++◌, reverse, sym, ap, ◌∙◌}
use Rattle.std.proofs.lemmas.List.{append_assoc, append-nil, reverse-append}
use Rattle.held.proofs.Table.clear.Goals as goal

pub loop-gone-init : goal.loop-gone-init
loop-gone-init g c = ([], [], sym (append-nil _), tt, sym (append-nil _))

pub loop-gone-preserved : goal.loop-gone-preserved
loop-gone-preserved g c =
    let i = c.loop-gone.invariant in
    let m = c.into.result in
    let spare = c.args.self.now.spare.items in (
      c.in-Some.gone ∷ i.0,
      m ∷ i.1,
      i.2 ∙ ap (λ xs. xs ++ i.0) c.in-Some.ensures.items ∙ append_assoc c.pop.new.self.items (c.in-Some.gone ∷ []) i.0,
      (c.into.ensures, i.3),
      c.push_reserved.ensures.items ∙ ap (λ ms. ms ++ m ∷ []) i.4 ∙ append_assoc spare (reverse i.1) (m ∷ []) ∙ ap (λ ms. spare ++ ms) (sym (reverse-append (m ∷ []) i.1)),
    )
