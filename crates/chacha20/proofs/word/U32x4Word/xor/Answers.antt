use Rattle.std.proofs.Common.{ℕ, ◌++◌, get_or, arith}
use Rattle.chacha20.specs.Block.{Listed}
use Rattle.chacha20.specs.Lanes.{Lane}
use Rattle.chacha20.proofs.Bytes.{parts-are}
use Rattle.chacha20.proofs.Streams.{xored-quads}
use Rattle.chacha20.proofs.word.U32x4Word.xor.Goals as goal

pub returns : goal.returns
returns c =
    let front = c.split_at_mut-front.ensures in
    let first = c.split_at_mut-first.ensures in
    let third = c.split_at_mut-third.ensures in
    xored-quads (λ (l : ℕ). Listed (Lane (λ k x. get_or x k 0) l c.args.blocks))
    (c.transposed.result.0 ++ (c.transposed-2.result.0 ++ (c.transposed-3.result.0 ++ c.transposed-4.result.0)))
    (c.transposed.result.1 ++ (c.transposed-2.result.1 ++ (c.transposed-3.result.1 ++ c.transposed-4.result.1)))
    (c.transposed.result.2 ++ (c.transposed-2.result.2 ++ (c.transposed-3.result.2 ++ c.transposed-4.result.2)))
    (c.transposed.result.3 ++ (c.transposed-2.result.3 ++ (c.transposed-3.result.3 ++ c.transposed-4.result.3)))
    (λ i. c.transposed.ensures.first i ++ (c.transposed-2.ensures.first i ++ (c.transposed-3.ensures.first i ++ (c.transposed-4.ensures.first i))))
    (λ i. c.transposed.ensures.second i ++ (c.transposed-2.ensures.second i ++ (c.transposed-3.ensures.second i ++ (c.transposed-4.ensures.second i))))
    (λ i. c.transposed.ensures.third i ++ (c.transposed-2.ensures.third i ++ (c.transposed-3.ensures.third i ++ (c.transposed-4.ensures.third i))))
    (λ i. c.transposed.ensures.fourth i ++ (c.transposed-2.ensures.fourth i ++ (c.transposed-3.ensures.fourth i ++ (c.transposed-4.ensures.fourth i))))
    (parts-are 128 64 front.front front.back first.front first.back third.front third.back)
    (omega arith)
    (omega arith)
    (omega arith)
    (omega arith)
    c.xor_block.ensures
    c.xor_block-2.ensures
    c.xor_block-3.ensures
    c.xor_block-4.ensures
