-- `all_input_comes` meets its contract. Assumes nothing.
use Rattle.model.proofs.Come.{all-input-comes}
use Rattle.model.proofs.progress.all_input_comes.Goals as goal

pub returns : goal.returns
returns g c = all-input-comes
