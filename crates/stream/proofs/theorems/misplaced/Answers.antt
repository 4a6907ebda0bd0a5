use Rattle.stream.proofs.Undamages.{misplaced}
use Rattle.stream.proofs.theorems.misplaced.Goals as goal

pub returns : goal.returns
returns c = misplaced
