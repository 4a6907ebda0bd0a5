use Rattle.stream.proofs.Meanings.{genuine-to-server}
use Rattle.stream.proofs.theorems.genuine_to_server.Goals as goal

pub returns : goal.returns
returns c = genuine-to-server
