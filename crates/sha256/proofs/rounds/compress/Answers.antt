use Rattle.std.proofs.Common.{ap, ◌∙◌, inl, inr, arith}
use Rattle.std.specs.Iterator.Adapters.{zip_first, zip_second}
use Rattle.std.specs.Slice.Iter.{chunks_exact_rest, chunks_exact_size}
use Rattle.sha256.specs.Rounds.{Add, Compress}
use Rattle.sha256.proofs.Turns.{turned-none, turned_more, turned-all}
use Rattle.sha256.proofs.rounds.compress.Goals as goal

pub loop-k-init : goal.loop-k-init
loop-k-init c =
    let e = c.into_iter-k-iterator.ensures.into_iter_gives in
    let zip = c.zip-k-items.ensures in
    let ks = c.chunks_exact.ensures in
    let ws = c.chunks_exact-2.ensures in
    let first = ap (λ x. zip_first x) e ∙ zip.first in
    let second = ap (λ x. zip_second x) e ∙ zip.second in record {
      first = ap (λ x. chunks_exact_size x) first ∙ ks.size;
      second = ap (λ x. chunks_exact_size x) second ∙ ws.size;
      turned = turned-none c.args.h c.args.block.now c.schedule-w.result _ _ c.schedule-w.ensures c.told-block
          (ap (λ x. chunks_exact_rest x) first ∙ ks.rest)
          (ap (λ x. chunks_exact_rest x) second ∙ ws.rest);
    }

pub loop-k-preserved : goal.loop-k-preserved
loop-k-preserved c =
    let k = c.in-Some.ensures.steps.0 in
    let w = c.in-Some.ensures.steps.1 in
    let was = c.loop-k.invariant in record {
      first = k.0 ∙ was.first;
      second = w.0 ∙ was.second;
      turned = turned_more c.args.h c.args.block.now c.loop-k.s c.turns-s.result _ _ _ _ _ _ was.turned k.1.0 w.1.0 (k.1.1 ∙ was.first)
          (w.1.1 ∙ was.second)
          c.turns-s.ensures;
    }

pub returns : goal.returns
unfolding Compress
returns c =
    let was = c.loop-k.invariant in
    c.add.ensures
    ∙ ap (Add c.args.h)
    (turned-all c.args.h c.args.block.now c.loop-k.s _ _ was.turned
    (elim c.in-None.ensures.steps [ inl x ↦ inl (omega (arith, was.first, x.1.1.0)) | inr x ↦ inr (omega (arith, was.second, x.1.1.0)) ]))
