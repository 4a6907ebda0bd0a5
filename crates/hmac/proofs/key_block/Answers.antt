use Rattle.std.proofs.Common.{ap, ◌∙◌, arith}
use Rattle.hmac.specs.Hmac.{Padded}
use Rattle.hmac.proofs.Pads.{long-is, short-is}
use Rattle.hmac.proofs.key_block.Goals as goal

pub returns-then-key-le64 : goal.returns-then-key-le64
returns-then-key-le64 c =
    (omega arith, c.padded.ensures ∙ ap Padded (short-is c.args.key.now c.if-key-le64.true))

pub returns : goal.returns
returns c =
    let d = c.in_ok-hash.ensures in
    (d.0, c.padded-2.ensures ∙ ap Padded (d.1 ∙ long-is c.args.key.now c.if-key-le64.false))
