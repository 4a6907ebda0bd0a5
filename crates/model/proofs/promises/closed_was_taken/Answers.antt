use Rattle.model.proofs.Holds.{closed-was-taken}
use Rattle.model.proofs.promises.closed_was_taken.Goals as goal

pub returns : goal.returns
returns g c = closed-was-taken
