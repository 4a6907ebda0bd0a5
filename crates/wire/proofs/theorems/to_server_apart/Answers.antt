use Rattle.wire.specs.Back.{to-server-apart}
use Rattle.wire.proofs.theorems.to_server_apart.Goals as goal

pub returns : goal.returns
returns c = to-server-apart
