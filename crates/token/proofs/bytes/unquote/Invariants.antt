use Rattle.std.proofs.Common.{vec_items}
use Rattle.token.proofs.Unquote.{Told}
use Rattle.token.proofs.bytes.unquote.Given as goal

abbrev pub invariant-loop-b : goal.invariant-loop-b
invariant-loop-b l = Told l.text (vec_items l.out) l.state l.b-index
