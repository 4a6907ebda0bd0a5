use Rattle.bytecode.proofs.Tells.{refused-is-none}
use Rattle.bytecode.proofs.laws.refused_is_none.Goals as goal

pub returns : goal.returns
returns c = refused-is-none
