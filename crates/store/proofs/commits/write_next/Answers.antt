use Rattle.std.proofs.Common.{◌<◌, sym, ap, ◌∙◌, arith}
use Rattle.std.specs.Result.{result_ok}
use Rattle.blocks.specs.Sets.{has}
use Rattle.store.proofs.Tables.{next-below}
use Rattle.store.proofs.commits.write_next.Goals as goal

pub overflow_add-b : goal.overflow_add-b
overflow_add-b g c =
    let h : c.in_ok-b.b < 2048 = next-below (has c.args.blocks.now.bits) c.args.from c.in_ok-b.b (sym c.next.ensures ∙ c.ok_or.ensures.ok_part ∙ ap result_ok c.in_ok-b.was) in
    omega arith

pub overflow_add-result : goal.overflow_add-result
overflow_add-result g c =
    let h : c.in_ok-b.b < 2048 = next-below (has c.args.blocks.now.bits) c.args.from c.in_ok-b.b (sym c.next.ensures ∙ c.ok_or.ensures.ok_part ∙ ap result_ok c.in_ok-b.was) in
    omega arith
