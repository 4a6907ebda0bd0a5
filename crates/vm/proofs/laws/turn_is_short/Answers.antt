use Rattle.vm.proofs.Theorems.{turn-is-short}
use Rattle.vm.proofs.laws.turn_is_short.Goals as goal

pub returns : goal.returns
returns c = turn-is-short
