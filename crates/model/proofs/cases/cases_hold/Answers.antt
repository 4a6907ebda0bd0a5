-- By the rows, each computed.
use Rattle.model.proofs.CasesHold.{cases-hold}
use Rattle.model.proofs.cases.cases_hold.Goals as goal

pub returns : goal.returns
returns c = cases-hold
