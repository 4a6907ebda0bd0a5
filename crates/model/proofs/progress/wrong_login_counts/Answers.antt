-- `wrong_login_counts` meets its contract. Assumes nothing.
use Rattle.model.proofs.Dropped.{wrong-login-counts}
use Rattle.model.proofs.progress.wrong_login_counts.Goals as goal

pub returns : goal.returns
returns g c = wrong-login-counts
