use Rattle.model.proofs.Joined.{runs-once}
use Rattle.model.proofs.promises.runs_once.Goals as goal

pub returns : goal.returns
returns g c = runs-once
