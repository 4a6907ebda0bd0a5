-- `can_start` meets its contract. Assumes nothing.
use Rattle.model.proofs.Come.{can-start}
use Rattle.model.proofs.progress.can_start.Goals as goal

pub returns : goal.returns
returns g c = can-start
