-- By the invariant of every history.
use Rattle.model.proofs.FileHistory.{files-whole}
use Rattle.model.proofs.files.files_whole.Goals as goal

pub returns : goal.returns
returns c = files-whole
