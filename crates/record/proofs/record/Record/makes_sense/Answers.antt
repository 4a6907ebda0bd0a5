use Rattle.std.proofs.Common.{◌≡◌, ℕ, eqb, sym, ap, ◌∙◌, arith}
use Rattle.std.proofs.lemmas.Bool.{lt-leb}
use Rattle.blocks.specs.Sets.{has, tally}
use Rattle.record.specs.Names.{is_name}
use Rattle.record.specs.Records.{needed}
use Rattle.record.proofs.Coding.{sense-is, sense-long, sense-nameless}
use Rattle.record.proofs.record.Record.makes_sense.Goals as goal

pub returns-then-is_name : goal.returns-then-is_name
returns-then-is_name c =
    let n : c.div_ceil.result ≡ needed c.args.self.now.size = omega (arith, c.div_ceil.ensures) in
    ap (λ (k : ℕ). eqb k c.div_ceil.result) c.count.ensures ∙ ap (λ (k : ℕ). eqb (tally (has c.args.self.now.blocks.bits) 2048) k) n
    ∙ sym (sense-is c.args.self.now (omega arith) (ap is_name (sym c.as_slice.ensures) ∙ sym c.is_name.ensures ∙ c.if-is_name.true))

pub returns-else-is_name : goal.returns-else-is_name
returns-else-is_name c =
    c.if-is_name.false ∙ sym (sense-nameless c.args.self.now (ap is_name (sym c.as_slice.ensures) ∙ sym c.is_name.ensures ∙ c.if-is_name.false))

pub returns-else-self-le32 : goal.returns-else-self-le32
returns-else-self-le32 c = lt-leb c.args.self.now.name.size 32 c.if-self-le32.false ∙ sym (sense-long c.args.self.now c.if-self-le32.false)
