use Rattle.model.proofs.Refused.{nothing-of-before}
use Rattle.model.proofs.promises.nothing_of_before.Goals as goal

pub returns : goal.returns
returns g c = nothing-of-before
