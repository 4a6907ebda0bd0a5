-- `right_login_accepted` meets its contract. Assumes nothing.
use Rattle.model.proofs.Logs.{right-login-accepted}
use Rattle.model.proofs.progress.right_login_accepted.Goals as goal

pub returns : goal.returns
returns g c = right-login-accepted
