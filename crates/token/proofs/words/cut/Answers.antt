use Rattle.std.proofs.Common.{◌+◌, eqb, take, Some, ap, sym, ◌∙◌, rules, tests}
use Rattle.std.specs.Option.{option_map}
use Rattle.std.proofs.lemmas.Iterator.{YieldsList-from_slice}
use Rattle.std.proofs.lemmas.Iterator.Search.{position_from_yields_List}
use Rattle.std.proofs.lemmas.List.{take_rest}
use Rattle.token.specs.Words.{pair_now}
use Rattle.token.proofs.Cuts.{parted, cut-position}
use Rattle.token.proofs.words.cut.Goals as goal

pub returns-in_err-at : goal.returns-in_err-at
returns-in_err-at c =
    let s = c.args.bytes.now in
    let found = position_from_yields_List (λ b. eqb b c.args.mark) _ _ c.position.result c.position.ensures.ran (YieldsList-from_slice s c.iter.ensures.rest) (λ x b q k. search (rules, tests)) in
    ap (option_map pair_now) c.from_residual.ensures ∙ sym (cut-position c.args.mark s ∙ ap (option_map (parted s)) (sym found ∙ c.in_err-at.was))

pub returns : goal.returns
returns c =
    let s = c.args.bytes.now in
    let i = c.in_ok-at.at in
    let found = position_from_yields_List (λ b. eqb b c.args.mark) _ _ c.position.result c.position.ensures.ran (YieldsList-from_slice s c.iter.ensures.rest) (λ x b q k. search (rules, tests)) in
    ap (λ l. Some (take i s, l)) (take_rest s (i + 1)) ∙ sym (cut-position c.args.mark s ∙ ap (option_map (parted s)) (sym found ∙ c.in_ok-at.was))
