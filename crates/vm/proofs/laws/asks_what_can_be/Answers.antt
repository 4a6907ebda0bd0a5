use Rattle.vm.proofs.Theorems.{asks-what-can-be}
use Rattle.vm.proofs.laws.asks_what_can_be.Goals as goal

pub returns : goal.returns
returns c = asks-what-can-be
