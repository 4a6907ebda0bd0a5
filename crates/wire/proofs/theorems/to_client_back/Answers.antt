use Rattle.wire.specs.Back.{to-client-back}
use Rattle.wire.proofs.theorems.to_client_back.Goals as goal

pub returns : goal.returns
returns c = to-client-back
