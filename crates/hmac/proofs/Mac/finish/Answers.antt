use Rattle.hmac.proofs.Macs.{finished}
use Rattle.hmac.proofs.Mac.finish.Goals as goal

pub returns : goal.returns
returns c = λ key m h.
    finished c.args.self c.update.new.self c.finish.result c.finish-2.result key m c.update.result h
    c.finish.ensures
    c.update.ensures
    c.finish-2.ensures
