-- By what each turn and each end plays.
use Rattle.model.proofs.PutHolds.{storage-is-files}
use Rattle.model.proofs.files.storage_is_files.Goals as goal

pub returns : goal.returns
returns c = storage-is-files
