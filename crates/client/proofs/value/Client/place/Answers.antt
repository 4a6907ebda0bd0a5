use Rattle.std.proofs.Common.{ap, ◌∙◌}
use Rattle.std.specs.Option.{ok_or}
use Rattle.client.specs.declared.refusal.Refusal.TheVariants.{NotHeld}
use Rattle.client.proofs.Places.{placed}
use Rattle.client.proofs.value.Client.place.Goals as goal

pub returns : goal.returns
returns c = placed c.args.self.now.channels c.args.channel _ (c.ok_or.ensures.value ∙ ap (λ o. ok_or o NotHeld) c.find.ensures)
