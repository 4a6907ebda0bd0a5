use Rattle.vm.proofs.Flags.{one-flag}
use Rattle.vm.proofs.laws.one_flag.Goals as goal

pub returns : goal.returns
returns c = one-flag
