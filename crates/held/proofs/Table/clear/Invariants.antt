use Rattle.std.proofs.Common.{◌≡◌, List, ◌++◌, reverse}
use Rattle.std.specs.List.{AllZip}
use Rattle.held.proofs.Table.clear.Given as goal

abbrev pub decreases-loop-gone : goal.decreases-loop-gone
decreases-loop-gone g l = goal.left-loop-gone g l

abbrev pub invariant-loop-gone : goal.invariant-loop-gone
invariant-loop-gone g l = (out : List _) × (back : List _) × (l.initial.self.held.items ≡ l.self.held.items ++ out) × AllZip g.T.Into.converts out back × (l.self.spare.items ≡ l.initial.self.spare.items ++ reverse back)
