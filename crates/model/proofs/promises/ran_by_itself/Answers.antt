use Rattle.model.proofs.Ran.{ran-by-itself}
use Rattle.model.proofs.promises.ran_by_itself.Goals as goal

pub returns : goal.returns
returns g c = ran-by-itself
