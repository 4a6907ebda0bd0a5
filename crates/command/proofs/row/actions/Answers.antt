use Rattle.std.proofs.Common.{◌≡◌, true, false, [], ◌∷◌, ◌++◌, map, vec_items, ap, ◌∙◌, subst, rules}
use Rattle.std.proofs.lemmas.List.{map-append, nil_from_length}
use Rattle.std.specs.Slice.Iter.{iter_rest}
use Rattle.token.specs.Words.{nows}
use Rattle.token.proofs.Exits.{broken}
use Rattle.command.specs.Orders.{step_of, step_list}
use Rattle.command.specs.Programs.{is_go, steps_of}
use Rattle.command.proofs.Rows.{Acted, led, acted-go, acted-odd, acted-bad, acted-two, acted-all}
use Rattle.command.proofs.row.actions.Goals as goal
use Rattle.command.proofs.row.actions.Goals.{then-eq, else-eq+in-Some-next+in_ok-action}

pub returns-in_default-next : goal.returns-in_default-next
returns-in_default-next c =
    let at = subst (λ l. Acted (nows c.args.words.now) (step_list c.loop-word.out) (nows l)) c.in-Some.ensures.steps c.loop-word.invariant in
    let end = subst (λ l. Acted (nows c.args.words.now) (step_list c.loop-word.out) (c.in-Some.word.now.now ∷ nows l)) (nil_from_length _ c.in_default-next.ensures.steps.0) at in
    acted-odd _ _ _ end (search rules)

pub returns-in_err-action : goal.returns-in_err-action
returns-in_err-action c =
    let at = subst (λ l. Acted (nows c.args.words.now) (step_list c.loop-word.out) (nows l)) c.in-Some.ensures.steps c.loop-word.invariant in
    let two = subst (λ l. Acted (nows c.args.words.now) (step_list c.loop-word.out) (c.in-Some.word.now.now ∷ nows l)) c.in-Some-next.ensures.steps at in
    broken step_of step_list _ _ _ _ c.from_residual.ensures.1 c.in_err-action.ensures (acted-bad _ _ _ _ _ two (search rules))

pub loop-word-preserved : goal.loop-word-preserved
loop-word-preserved c =
    let at = subst (λ l. Acted (nows c.args.words.now) (step_list c.loop-word.out) (nows l)) c.in-Some.ensures.steps c.loop-word.invariant in
    let more = ap (map step_of) c.in_ok-push.ensures.items ∙ map-append step_of (vec_items c.loop-word.out) (c.if-eq.action ∷ []) in
    elim c.if-eq.branch [
      | then-eq w ↦
          let go : is_go c.in-Some.word.now.now ≡ true = search rules in
          (λ i. led (more i) (steps_of (nows (iter_rest (w.rest-is i)))))
          ∙ ap (λ a. led (step_list c.loop-word.out ++ step_of a ∷ []) (steps_of (nows (iter_rest c.next.new.self)))) w.action-is
          ∙ acted-go _ _ _ _ at go
      | else-eq+in-Some-next+in_ok-action w ↦
          let no : is_go c.in-Some.word.now.now ≡ false = search rules in
          let two = subst (λ l. Acted (nows c.args.words.now) (step_list c.loop-word.out) (c.in-Some.word.now.now ∷ nows l)) w.in-Some-next.ensures.steps at in
          (λ i. led (more i) (steps_of (nows (iter_rest (w.rest-is i)))))
          ∙ ap (λ a. led (step_list c.loop-word.out ++ step_of a ∷ []) (steps_of (nows (iter_rest w.next-else-eq.new.self)))) w.action-is
          ∙ acted-two _ _ _ _ _ two no _ w.in_ok-action.ensures
    ]

pub returns : goal.returns
returns c = acted-all _ _ (subst (λ l. Acted (nows c.args.words.now) (step_list c.loop-word.out) (nows l)) (nil_from_length _ c.in_default.ensures.steps.0) c.loop-word.invariant)
