use Rattle.model.proofs.Logins.{one-user}
use Rattle.model.proofs.promises.one_user.Goals as goal

pub returns : goal.returns
returns g c = one-user
