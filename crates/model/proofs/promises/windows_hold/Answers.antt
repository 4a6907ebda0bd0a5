use Rattle.model.proofs.Joined.{windows-hold}
use Rattle.model.proofs.promises.windows_hold.Goals as goal

pub returns : goal.returns
returns g c = windows-hold
