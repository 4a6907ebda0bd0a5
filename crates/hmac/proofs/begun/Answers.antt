use Rattle.std.proofs.Common.{[], arith}
use Rattle.hmac.proofs.Macs.{took}
use Rattle.hmac.proofs.begun.Goals as goal

pub returns : goal.returns
returns c =
    took c.new-hash.result c.update.new.self c.args.pad.now [] c.update.result c.update.ensures
    c.new-hash.ensures
    (omega arith)
