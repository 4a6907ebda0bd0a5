-- By the put under way, event by event.
use Rattle.model.proofs.FileRuns.{put-goes-through}
use Rattle.model.proofs.files.put_goes_through.Goals as goal

pub returns : goal.returns
returns c = put-goes-through
