use Rattle.std.proofs.Common.{ℕ, List, Some, sym, ap, ◌∙◌}
use Rattle.model.specs.Files.{same}
use Rattle.record.specs.Records.{makes_sense, encode}
use Rattle.record.specs.declared.record.Record.{Record}
use Rattle.record.proofs.Same.{decided}
use Rattle.record.proofs.Coding.{senseless, misfit, fitting}
use Rattle.record.proofs.record.Record.decode.Goals as goal

pub returns-then-not-makes_sense : goal.returns-then-not-makes_sense
returns-then-not-makes_sense c =
    sym (senseless c.args.y.now (ap makes_sense (sym c.guess-r.ensures) ∙ sym c.makes_sense.ensures ∙ c.if-not-makes_sense.true))

pub returns-then-not-equal : goal.returns-then-not-equal
returns-then-not-equal c =
    sym (misfit c.args.y.now (
    ap (λ (r : Record). same (encode r) c.args.y.now) (sym c.guess-r.ensures) ∙ ap (λ (v : List ℕ). same v c.args.y.now) (sym c.encode.ensures.bytes)
    ∙ sym (decided c.equal.result c.encode.result c.args.y.now c.equal.ensures) ∙ c.if-not-equal.true))

pub returns : goal.returns
returns c =
    ap (λ (r : Record). Some r) c.guess-r.ensures
    ∙ sym (fitting c.args.y.now (ap makes_sense (sym c.guess-r.ensures) ∙ sym c.makes_sense.ensures ∙ c.if-not-makes_sense.false) (
    ap (λ (r : Record). same (encode r) c.args.y.now) (sym c.guess-r.ensures) ∙ ap (λ (v : List ℕ). same v c.args.y.now) (sym c.encode.ensures.bytes)
    ∙ sym (decided c.equal.result c.encode.result c.args.y.now c.equal.ensures) ∙ c.if-not-equal.false))
