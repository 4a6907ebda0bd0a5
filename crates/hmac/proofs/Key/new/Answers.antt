use Rattle.hmac.proofs.Macs.{prepared}
use Rattle.hmac.proofs.Key.new.Goals as goal

pub returns : goal.returns
returns c =
    let b = c.in_ok-block.ensures in (
      b.0,
      prepared _ c.args.key.now c.in_ok-block.block c.masked.result c.masked-2.result b.1
          c.masked.ensures
          c.masked-2.ensures
          c.begun.ensures
          c.begun-2.ensures,
    )
