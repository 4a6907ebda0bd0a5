-- `input_comes` meets its contract. Assumes nothing.
use Rattle.model.proofs.Come.{input-comes}
use Rattle.model.proofs.progress.input_comes.Goals as goal

pub returns : goal.returns
returns g c = input-comes
