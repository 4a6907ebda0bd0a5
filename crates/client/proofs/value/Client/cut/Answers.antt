use Rattle.std.proofs.Common.{refl}
use Rattle.client.specs.View.{view_of}
use Rattle.client.proofs.Moves.{downed, owed-down}
use Rattle.client.proofs.value.Client.cut.Goals as goal

pub returns : goal.returns
returns c = record { idle = c.in_ok-ready.ensures; stands = λ w s. downed (view_of c.args.self.now) w s c.in_ok-ready.ensures; owes = owed-down _ refl }
