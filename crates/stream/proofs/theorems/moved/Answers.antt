use Rattle.stream.proofs.Moving.{moved}
use Rattle.stream.proofs.theorems.moved.Goals as goal

pub returns : goal.returns
returns c = moved
