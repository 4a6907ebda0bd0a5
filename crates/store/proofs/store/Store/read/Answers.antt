use Rattle.std.proofs.Common.{◌<◌, sym, ◌∙◌, arith}
use Rattle.blocks.specs.Sets.{has}
use Rattle.store.proofs.Tables.{next-below}
use Rattle.store.proofs.store.Store.read.Goals as goal

pub overflow_add-result : goal.overflow_add-result
overflow_add-result g c = let h : c.in_ok-b.b < 2048 = next-below (has c.in-Some-Get.blocks.bits) c.args.from c.in_ok-b.b (sym c.next.ensures ∙ c.in_ok-b.was) in omega arith

pub overflow_add-b : goal.overflow_add-b
overflow_add-b g c = let h : c.in_ok-b.b < 2048 = next-below (has c.in-Some-Get.blocks.bits) c.args.from c.in_ok-b.b (sym c.next.ensures ∙ c.in_ok-b.was) in omega arith
