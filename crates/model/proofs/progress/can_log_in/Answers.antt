-- `can_log_in` meets its contract. Assumes nothing.
use Rattle.model.proofs.Come.{can-log-in}
use Rattle.model.proofs.progress.can_log_in.Goals as goal

pub returns : goal.returns
returns g c = can-log-in
