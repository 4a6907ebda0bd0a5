use Rattle.std.proofs.Common.{ℕ, ◌/◌, List, length, ap, ◌∙◌, arith}
use Rattle.sha256.specs.Message.{After, Output}
use Rattle.sha256.proofs.Paddings.{padded_is}
use Rattle.sha256.proofs.tail.finished.Goals as goal

pub returns : goal.returns
returns c =
    c.output.ensures ∙ ap Output c.blocks-2.ensures
    ∙ ap (λ (p : List ℕ). Output (After c.args.s p (length p / 64)))
    (padded_is c.args.rest.now c.args.total c.padded_end-end.result _ c.marked-t.result
    c.to_be_bytes.result
    c.put.new.out
    c.requires
    c.marked-t.ensures
    c.padded_end-end.ensures
    c.to_be_bytes.ensures
    c.put.ensures
    (omega arith))
