use Rattle.stream.proofs.Meanings.{genuine-to-client}
use Rattle.stream.proofs.theorems.genuine_to_client.Goals as goal

pub returns : goal.returns
returns c = genuine-to-client
