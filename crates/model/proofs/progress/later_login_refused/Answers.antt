-- `later_login_refused` meets its contract. Assumes nothing.
use Rattle.model.proofs.Dropped.{later-login-refused}
use Rattle.model.proofs.progress.later_login_refused.Goals as goal

pub returns : goal.returns
returns g c = later-login-refused
