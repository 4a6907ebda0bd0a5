use Rattle.model.proofs.Refused.{refused-changes-nothing}
use Rattle.model.proofs.promises.refused_changes_nothing.Goals as goal

pub returns : goal.returns
returns g c = refused-changes-nothing
