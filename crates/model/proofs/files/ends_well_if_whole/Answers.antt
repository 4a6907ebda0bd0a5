-- By the turn in which the digest came.
use Rattle.model.proofs.PutHolds.{ends-well-if-whole}
use Rattle.model.proofs.files.ends_well_if_whole.Goals as goal

pub returns : goal.returns
returns c = ends-well-if-whole
