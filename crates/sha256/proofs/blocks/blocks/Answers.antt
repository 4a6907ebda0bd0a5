use Rattle.std.proofs.Common.{length, ap, ◌∙◌, arith}
use Rattle.std.specs.Slice.Iter.{chunks_exact_rest, chunks_exact_size}
use Rattle.std.proofs.lemmas.List.{length-append}
use Rattle.sha256.proofs.Streams.{taken-none, taken_more, taken_all}
use Rattle.sha256.proofs.blocks.blocks.Goals as goal

pub loop-block-init : goal.loop-block-init
loop-block-init c =
    let e = c.into_iter-block-iterator.ensures.into_iter_gives in
    let made = c.chunks_exact-block-items.ensures in record {
      size = ap (λ x. chunks_exact_size x) e ∙ made.size;
      taken = taken-none c.args.h c.args.p.now _ (ap (λ x. chunks_exact_rest x) e ∙ made.rest);
    }

pub loop-block-preserved : goal.loop-block-preserved
loop-block-preserved c =
    let next = c.in-Some.ensures.steps in record {
      size = next.0 ∙ c.loop-block.invariant.size;
      taken = taken_more c.args.h c.args.p.now (length c.loop-block.yielded) _ c.loop-block.s c.compress-s.result _ _ c.in-Some.block.now
          c.words.result
          c.loop-block.invariant.taken
          next.1.0
          (next.1.1 ∙ c.loop-block.invariant.size)
          c.words.ensures
          c.compress-s.ensures
          (length-append c.loop-block.yielded _);
    }

pub returns : goal.returns
returns c =
    taken_all c.args.h c.args.p.now (length c.loop-block.yielded) c.loop-block.s _ c.loop-block.invariant.taken
    (omega (arith, c.in-None.ensures.steps))
