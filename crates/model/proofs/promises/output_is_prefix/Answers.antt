use Rattle.model.proofs.Holds.{output-is-prefix}
use Rattle.model.proofs.promises.output_is_prefix.Goals as goal

pub returns : goal.returns
returns g c = output-is-prefix
