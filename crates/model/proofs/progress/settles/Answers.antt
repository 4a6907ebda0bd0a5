-- `settles` meets its contract. Assumes nothing.
use Rattle.model.proofs.Come.{settles}
use Rattle.model.proofs.progress.settles.Goals as goal

pub returns : goal.returns
returns g c = settles
