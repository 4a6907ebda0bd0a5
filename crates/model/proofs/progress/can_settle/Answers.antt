-- `can_settle` meets its contract. Assumes nothing.
use Rattle.model.proofs.Come.{can-settle}
use Rattle.model.proofs.progress.can_settle.Goals as goal

pub returns : goal.returns
returns g c = can-settle
