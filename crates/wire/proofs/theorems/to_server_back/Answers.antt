use Rattle.wire.specs.Back.{to-server-back}
use Rattle.wire.proofs.theorems.to_server_back.Goals as goal

pub returns : goal.returns
returns c = to-server-back
