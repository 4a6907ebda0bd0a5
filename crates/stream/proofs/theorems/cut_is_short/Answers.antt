use Rattle.stream.proofs.Undamages.{cut-is-short}
use Rattle.stream.proofs.theorems.cut_is_short.Goals as goal

pub returns : goal.returns
returns c = cut-is-short
