use Rattle.model.proofs.Holds.{input-is-prefix}
use Rattle.model.proofs.promises.input_is_prefix.Goals as goal

pub returns : goal.returns
returns g c = input-is-prefix
