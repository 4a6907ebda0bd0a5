use Rattle.std.proofs.Common.{refl}
use Rattle.hmac.proofs.Macs.{mac-updated}
use Rattle.hmac.proofs.Mac.update.Goals as goal

pub returns : goal.returns
returns c = mac-updated c.args.self.now _ c.args.part.now c.update.result c.update.ensures refl
