use Rattle.client.proofs.Whole.{is-client}
use Rattle.client.proofs.laws.is_client.Goals as goal

pub returns : goal.returns
returns g c = is-client _ _
