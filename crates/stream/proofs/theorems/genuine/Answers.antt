use Rattle.stream.proofs.Genuinely.{genuine}
use Rattle.stream.proofs.theorems.genuine.Goals as goal

pub returns : goal.returns
returns c = genuine
