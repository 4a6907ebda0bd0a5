use Rattle.wire.specs.Back.{to-client-apart}
use Rattle.wire.proofs.theorems.to_client_apart.Goals as goal

pub returns : goal.returns
returns c = to-client-apart
