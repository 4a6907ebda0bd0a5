use Rattle.model.proofs.Drain.{drain-ends}
use Rattle.model.proofs.promises.drain_ends.Goals as goal

pub returns : goal.returns
returns g c = drain-ends
