use Rattle.script.proofs.Back.{reads-back}
use Rattle.script.proofs.promises.reads_back.Goals as goal

pub returns : goal.returns
returns c = reads-back
