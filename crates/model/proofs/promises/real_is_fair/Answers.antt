use Rattle.model.proofs.Joined.{real-is-fair}
use Rattle.model.proofs.promises.real_is_fair.Goals as goal

pub returns : goal.returns
returns c = real-is-fair
