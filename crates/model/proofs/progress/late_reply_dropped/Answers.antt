-- `late_reply_dropped` meets its contract. Assumes nothing.
use Rattle.model.proofs.Dropped.{late-reply-dropped}
use Rattle.model.proofs.progress.late_reply_dropped.Goals as goal

pub returns : goal.returns
returns c = late-reply-dropped
