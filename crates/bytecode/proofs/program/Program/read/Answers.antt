use Rattle.std.proofs.Common.{◌≡◌, ◌≢◌, ◌≤◌, take, length, ap, ◌∙◌, arith, rules}
use Rattle.std.proofs.lemmas.List.{take_at}
use Rattle.std.specs.Slice.Iter.{chunks_rest}
use Rattle.bytecode.specs.declared.instruction.Instruction.{Instruction}
use Rattle.bytecode.specs.Encoding.{encoded}
use Rattle.bytecode.proofs.program.Program.read.Goals as goal

pub returns-in_default : goal.returns-in_default
returns-in_default c =
    let s = c.in-Some.ensures.steps in
    let row = c.in-Some.row.now in
    let rest = chunks_rest c.loop-row.row-iterator in
    let whole : length row ≡ 8 = omega arith in
    let front : take 8 rest ≡ row = ap (take 8) s.1.0 ∙ take_at row _ 8 whole in
    let none : (i : Instruction) → encoded i ≢ take 8 rest = λ i e. c.in_default.ensures i (e ∙ front) in
    let long : 8 ≤ length rest = omega arith in
    rw c.into-in_default.ensures (record {
      before = c.loop-row.instructions.items;
      rest = rest;
      count = search rules;
      whole = c.loop-row.invariant.4;
      here = (omega arith, long, none);
    })
