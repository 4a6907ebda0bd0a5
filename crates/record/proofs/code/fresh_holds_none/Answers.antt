use Rattle.record.proofs.Coding.{fresh}
use Rattle.record.proofs.code.fresh_holds_none.Goals as goal

pub returns : goal.returns
returns c = fresh
