-- By the blocks that a get keeps.
use Rattle.model.proofs.FileGets.{get_keeps}
use Rattle.model.proofs.files.get_keeps_its_file.Goals as goal

pub returns : goal.returns
returns c = get_keeps
