use Rattle.model.proofs.Holds.{forgotten-was-shown}
use Rattle.model.proofs.promises.forgotten_was_shown.Goals as goal

pub returns : goal.returns
returns g c = forgotten-was-shown
