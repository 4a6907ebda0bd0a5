use Rattle.bytecode.proofs.Tells.{bytes-tell}
use Rattle.bytecode.proofs.laws.bytes_tell.Goals as goal

pub returns : goal.returns
returns c = bytes-tell
