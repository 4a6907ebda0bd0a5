use Rattle.std.proofs.Common.{◌≡◌, ℕ, Bool, true, cond, List, length, Some, None, Option, sym, ap, ◌∙◌, arith}
use Rattle.record.specs.Names.{is_name, named}
use Rattle.record.specs.declared.name.Name.{Name}
use Rattle.record.proofs.Naming.{name-most, bytes-in}
use Rattle.record.proofs.name.Name.new.Goals as goal

pub put-requires : goal.put-requires
put-requires c = omega (arith, name-most c.args.bytes.now (sym c.is_name.ensures ∙ c.if-not-is_name.false))

pub overflow_cast-result : goal.overflow_cast-result
overflow_cast-result c = omega (arith, name-most c.args.bytes.now (sym c.is_name.ensures ∙ c.if-not-is_name.false))

pub returns : goal.returns
returns c =
    let bs : List ℕ = c.args.bytes.now in
    let t : is_name bs ≡ true = sym c.is_name.ensures ∙ c.if-not-is_name.false in
    let wrap : List ℕ → Option Name = λ all. Some (record { size = length bs; bytes = all }) in
    ap wrap (bytes-in bs c.put.new.out (name-most bs t) c.put.ensures) ∙ ap (λ (b : Bool). cond b (Some (named bs)) None) (sym t)
