use Rattle.model.proofs.Sound.{status-in-range}
use Rattle.model.proofs.promises.status_in_range.Goals as goal

pub returns : goal.returns
returns g c = status-in-range
