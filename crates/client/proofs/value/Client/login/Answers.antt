use Rattle.std.proofs.Common.{refl}
use Rattle.client.proofs.Calls.{login-obeys}
use Rattle.client.proofs.value.Client.login.Goals as goal

pub returns : goal.returns
returns c = login-obeys c.args.self.now c.in_ok-ready.ensures c.args.user c.args.proof _ c.in_ok-connected.ensures refl
