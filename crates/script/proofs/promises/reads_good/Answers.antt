use Rattle.script.proofs.Sound.{reads-good}
use Rattle.script.proofs.promises.reads_good.Goals as goal

pub returns : goal.returns
returns c = reads-good
