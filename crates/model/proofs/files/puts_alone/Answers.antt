-- By the invariant of every history.
use Rattle.model.proofs.FileHistory.{puts-alone}
use Rattle.model.proofs.files.puts_alone.Goals as goal

pub returns : goal.returns
returns c = puts-alone
