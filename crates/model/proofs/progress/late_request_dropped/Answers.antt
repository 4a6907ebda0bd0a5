-- `late_request_dropped` meets its contract. Assumes nothing.
use Rattle.model.proofs.Dropped.{late-request-dropped}
use Rattle.model.proofs.progress.late_request_dropped.Goals as goal

pub returns : goal.returns
returns g c = late-request-dropped
