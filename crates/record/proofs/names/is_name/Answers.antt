use Rattle.std.proofs.Common.{ℕ, not, List, sym, ap, ◌∙◌, arith, rules, tests}
use Rattle.std.proofs.lemmas.Iterator.{YieldsList-from_slice}
use Rattle.std.proofs.lemmas.Iterator.Consumers.{YieldsList-from_copied, YieldsList-at}
use Rattle.std.proofs.lemmas.Iterator.Search.{all_from_yields_List}
use Rattle.std.proofs.lemmas.Bool.{lt-leb}
use Rattle.std.proofs.lemmas.Bool.Decides.{nat_tests}
use Rattle.model.specs.Put.{is_name_byte}
use Rattle.record.proofs.Naming.{name-short, name-long, name-is, every-all}
use Rattle.record.proofs.names.is_name.Goals as goal

pub returns-then-bytes-le32 : goal.returns-then-bytes-le32
returns-then-bytes-le32 c =
    let bs : List ℕ = c.args.bytes.now in
    all_from_yields_List is_name_byte _ _ _ c.all.ensures.ran (YieldsList-from_copied (YieldsList-at c.copied.ensures.source (YieldsList-from_slice bs (cc)))) (λ x b q k. search (rules, tests))
    ∙ every-all is_name_byte bs ∙ sym (name-is bs (let e = sym c.is_empty.ensures ∙ c.if-not-is_empty.true in grind (arith, nat_tests)) (omega arith))

pub returns-else-bytes-le32 : goal.returns-else-bytes-le32
returns-else-bytes-le32 c = lt-leb _ 32 c.if-bytes-le32.false ∙ sym (name-long c.args.bytes.now c.if-bytes-le32.false)

pub returns-else-not-is_empty : goal.returns-else-not-is_empty
returns-else-not-is_empty c =
    let e = sym c.is_empty.ensures ∙ c.if-not-is_empty.false in
    ap not c.if-not-is_empty.false ∙ sym (name-short c.args.bytes.now (grind (arith, nat_tests)))
