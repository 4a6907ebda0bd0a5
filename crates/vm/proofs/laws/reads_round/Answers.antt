use Rattle.vm.proofs.Theorems.{reads-round}
use Rattle.vm.proofs.laws.reads_round.Goals as goal

pub returns : goal.returns
returns c = reads-round
