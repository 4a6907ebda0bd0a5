use Rattle.std.proofs.Common.{arith}
use Rattle.chacha20.proofs.Bytes.{parts-are, xored-words}
use Rattle.chacha20.proofs.xor.xor_block.Goals as goal

pub returns : goal.returns
returns c =
    let front = c.split_at_mut-front.ensures in
    let first = c.split_at_mut-first.ensures in
    let third = c.split_at_mut-third.ensures in
    xored-words c.args.a c.args.b c.args.c c.args.d c.fits-a.0 c.fits-b.0 c.fits-c.0
    (parts-are 32 16 front.front front.back first.front first.back third.front third.back)
    (omega arith)
    (omega arith)
    (omega arith)
    (omega arith)
    c.xor_words.ensures
    c.xor_words-2.ensures
    c.xor_words-3.ensures
    c.xor_words-4.ensures
