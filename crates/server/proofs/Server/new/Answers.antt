use Rattle.std.proofs.Common.{refl}
use Rattle.desk.specs.Sight.{view_of}
use Rattle.server.proofs.Connecting.{begins}
use Rattle.server.proofs.Server.new.Goals as goal

pub returns : goal.returns
returns g c = (begins (view_of c.in_ok-desk.desk) c.args.programs c.in_ok-desk.ensures, refl, refl)
