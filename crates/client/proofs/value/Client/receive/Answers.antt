use Rattle.std.proofs.Common.{sym, refl, ◌∙◌}
use Rattle.client.proofs.Receives.{takes_as, told-takes, tock-takes}
use Rattle.client.proofs.value.Client.receive.Goals as goal

pub returns-in-Accepted : goal.returns-in-Accepted
returns-in-Accepted c = takes_as _ _ _ _ _ c.in-Accepted.is (told-takes c.args.self.now (sym c.is_busy.ensures ∙ c.if-is_busy.false) c.if-not-self.false c.in-Accepted.accepted _ refl)

pub returns-in-Tock : goal.returns-in-Tock
returns-in-Tock c = takes_as _ _ _ _ _ c.in-Tock.is (tock-takes c.args.self.now (sym c.is_busy.ensures ∙ c.if-is_busy.false) c.if-not-self.false)
