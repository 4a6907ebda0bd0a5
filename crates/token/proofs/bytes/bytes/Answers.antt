use Rattle.std.proofs.Common.{vec_items, sym, ap, ◌∙◌, subst, ap₂}
use Rattle.std.specs.Option.{option_map}
use Rattle.token.specs.Bytes.{bytes_of, counted_of, either_of, many_of, opened_of}
use Rattle.token.specs.Reads.{Reads}
use Rattle.token.specs.Words.{pair_now}
use Rattle.token.proofs.Exits.{missing}
use Rattle.token.proofs.bytes.bytes.Goals as goal

pub returns-in-Some : goal.returns-in-Some
unfolding bytes_of
returns-in-Some c = subst (λ o. Reads vec_items c.repeated.result (either_of o c.args.word.now)) c.in-Some.ensures c.repeated.ensures

pub returns-in_err-count : goal.returns-in_err-count
unfolding bytes_of
returns-in_err-count c =
    missing vec_items _ _ c.cut.result _ c.from_residual.ensures.1 c.in_err-count.ensures.value
    (λ e. ap (λ o. either_of o c.args.word.now) (sym c.in_default.ensures) ∙ ap counted_of (sym c.cut.ensures ∙ ap (option_map pair_now) e))

pub returns-in_err-times : goal.returns-in_err-times
unfolding bytes_of
returns-in_err-times c =
    missing vec_items _ _ c.number.result _ c.from_residual-in_err-times.ensures.1 c.in_err-times.ensures.value
    (λ e.
    ap (λ o. either_of o c.args.word.now) (sym c.in_default.ensures)
    ∙ ap counted_of (sym c.cut.ensures ∙ ap (option_map pair_now) c.in_ok-count.ensures.ok_part)
    ∙ ap (λ n. many_of n (opened_of c.in_ok-count.quoted.now)) (sym c.number.ensures.value ∙ ap (option_map (λ n. n)) e))

pub returns-in_err-text : goal.returns-in_err-text
unfolding bytes_of
returns-in_err-text c =
    missing vec_items _ _ c.opened-2.result _ c.from_residual-in_err-text.ensures.1 c.in_err-text.ensures.value
    (λ e.
    ap (λ o. either_of o c.args.word.now) (sym c.in_default.ensures)
    ∙ ap counted_of (sym c.cut.ensures ∙ ap (option_map pair_now) c.in_ok-count.ensures.ok_part)
    ∙ ap₂ many_of (sym c.number.ensures.value ∙ ap (option_map (λ n. n)) c.in_ok-times.ensures.ok_part) (sym c.opened-2.ensures ∙ ap (option_map (λ x. x.now)) e))

pub returns : goal.returns
unfolding bytes_of
returns c =
    subst (Reads vec_items c.repeated-2.result)
    (sym (
    ap (λ o. either_of o c.args.word.now) (sym c.in_default.ensures)
    ∙ ap counted_of (sym c.cut.ensures ∙ ap (option_map pair_now) c.in_ok-count.ensures.ok_part)
    ∙ ap₂ many_of (sym c.number.ensures.value ∙ ap (option_map (λ n. n)) c.in_ok-times.ensures.ok_part) (sym c.opened-2.ensures ∙ ap (option_map (λ x. x.now)) c.in_ok-text.ensures.ok_part)
    ))
    c.repeated-2.ensures
