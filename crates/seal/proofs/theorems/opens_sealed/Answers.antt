use Rattle.seal.proofs.Opened.{opens-sealed}
use Rattle.seal.proofs.theorems.opens_sealed.Goals as goal

pub returns : goal.returns
returns c = opens-sealed
