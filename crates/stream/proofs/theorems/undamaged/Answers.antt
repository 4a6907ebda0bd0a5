use Rattle.stream.proofs.Undamages.{undamaged}
use Rattle.stream.proofs.theorems.undamaged.Goals as goal

pub returns : goal.returns
returns c = undamaged
