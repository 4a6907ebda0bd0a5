use Rattle.sha256.proofs.Paddings.{fills}
use Rattle.sha256.proofs.tail.padding_fills.Goals as goal

pub returns : goal.returns
returns c = fills
