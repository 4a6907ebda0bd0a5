use Rattle.model.proofs.Joined.{started-by-who-may}
use Rattle.model.proofs.promises.started_by_who_may.Goals as goal

pub returns : goal.returns
returns g c = started-by-who-may
