-- `output_comes` meets its contract. Assumes nothing.
use Rattle.model.proofs.Come.{output-comes}
use Rattle.model.proofs.progress.output_comes.Goals as goal

pub returns : goal.returns
returns g c = output-comes
