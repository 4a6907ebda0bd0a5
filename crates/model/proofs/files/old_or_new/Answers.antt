-- By the event that put the record.
use Rattle.model.proofs.FileHistory.{old-or-new}
use Rattle.model.proofs.files.old_or_new.Goals as goal

pub returns : goal.returns
returns c = old-or-new
