use Rattle.model.proofs.Grows.{all-forgotten}
use Rattle.model.proofs.promises.all_forgotten.Goals as goal

pub returns : goal.returns
returns g c = all-forgotten
