use Rattle.vm.proofs.Theorems.{writes-round}
use Rattle.vm.proofs.laws.writes_round.Goals as goal

pub returns : goal.returns
returns c = writes-round
