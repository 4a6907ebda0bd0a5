use Rattle.std.proofs.Common.{◌++◌, Some, vec_items, sym, ap, ◌∙◌, append-nil}
use Rattle.std.specs.Option.{option_to_list}
use Rattle.token.specs.Quotes.{finished}
use Rattle.token.proofs.Unquote.{first, told-bad, told_more, told-all, open-end}
use Rattle.token.proofs.bytes.unquote.Goals as goal
use Rattle.token.proofs.bytes.unquote.Goals.{in-Some-byte+in_ok-push, in_default-byte}

pub returns-in_default : goal.returns-in_default
returns-in_default c = told-bad _ _ _ _ c.loop-b.invariant c.loop-b-test.true (sym c.in_default.ensures.value)

pub loop-b-preserved : goal.loop-b-preserved
loop-b-preserved c =
    elim c.match-byte.branch [
      | in-Some-byte+in_ok-push w ↦
          told_more _ _ _ _ c.loop-b.invariant _ _ _ _ c.loop-b-test.true (sym c.in-Some.ensures.value) c.in-Some.ensures.small w.state-is (ap vec_items w.out-is ∙ w.in_ok-push.ensures.items ∙ ap (λ o. vec_items c.loop-b.out ++ option_to_list o) (sym w.in-Some-byte.is))
      | in_default-byte w ↦
          told_more _ _ _ _ c.loop-b.invariant _ _ _ _ c.loop-b-test.true (sym c.in-Some.ensures.value) c.in-Some.ensures.small w.state-is (ap vec_items w.out-is ∙ sym (append-nil _) ∙ ap (λ o. vec_items c.loop-b.out ++ option_to_list o) (sym w.in_default-byte.is))
    ]

pub returns-in-Closed : goal.returns-in-Closed
returns-in-Closed c = told-all _ _ _ _ c.loop-b.invariant c.loop-b-test.false ∙ ap (λ q. first (vec_items c.loop-b.out) (finished q)) c.in-Closed.is ∙ ap Some (append-nil _)

pub returns-in_default-state : goal.returns-in_default-state
returns-in_default-state c = told-all _ _ _ _ c.loop-b.invariant c.loop-b-test.false ∙ ap (first (vec_items c.loop-b.out)) (open-end _ c.in_default-state.not-Closed)
