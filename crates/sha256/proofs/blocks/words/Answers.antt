use Rattle.std.proofs.Common.{◌*◌, arith}
use Rattle.std.proofs.lemmas.List.FromFn.{fill_by_all}
use Rattle.sha256.specs.Message.{Be32, Words}
use Rattle.sha256.proofs.blocks.words.Goals as goal

pub returns : goal.returns
unfolding Words
returns c =
    fill_by_all (λ k. Be32 c.args.b.now (4 * k)) c.loop-t.w 16 0 c.loop-t.invariant.size
    (λ k h. c.loop-t.invariant.words k (omega arith))
