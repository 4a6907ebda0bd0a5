-- By the tests that refuse.
use Rattle.model.proofs.FileHistory.{refused-leaves}
use Rattle.model.proofs.files.refused_leaves_files.Goals as goal

pub returns : goal.returns
returns c = refused-leaves
