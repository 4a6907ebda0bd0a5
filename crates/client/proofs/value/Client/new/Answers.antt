use Rattle.std.proofs.Common.{map, refl, ap}
use Rattle.client_channel.specs.Held.{kept_of}
use Rattle.client.proofs.Begin.{begins, begins-owes}
use Rattle.client.proofs.value.Client.new.Goals as goal

pub returns : goal.returns
returns c = record { stands = begins _ c.in_ok-used.ensures _ (ap (map kept_of) c.in_ok-channels.ensures.held); owes = begins-owes _ c.in_ok-used.ensures _ (ap (map kept_of) c.in_ok-channels.ensures.held); idle = refl }
