use Rattle.std.proofs.Common.{sym, refl, ◌∙◌, subst}
use Rattle.message.specs.declared.fault.Fault.TheVariants.{NeverStarted}
use Rattle.message.specs.declared.to_client.ToClient.TheVariants.{Of}
use Rattle.client.specs.Kepts.{kepts_of}
use Rattle.client.specs.Checks.{IsNowhere}
use Rattle.client.specs.Contract.{Received}
use Rattle.client.proofs.Places.{place, not_there}
use Rattle.client.proofs.Receives.{late-takes, never-takes, rejected_by}
use Rattle.client.proofs.value.Client.hear.Goals as goal

pub returns-in-Some : goal.returns-in-Some
returns-in-Some c =
    let at = place c.args.self.now.channels c.from.result c.in-Some.i (sym c.find.ensures ∙ c.in-Some.is) in
    subst (λ t. Received (Of t c.args.reply) c.args.self.now c.hear_at.result c.hear_at.new.self) (at.number ∙ c.from.ensures) c.hear_at.ensures

pub returns-then-contains : goal.returns-then-contains
returns-then-contains c =
    let s = c.args.self.now in
    let none = subst (λ t. IsNowhere t (kepts_of s.channels)) c.from.ensures (not_there s.channels c.from.result (sym c.find.ensures ∙ c.in_default.is)) in
    late-takes s c.requires.idle c.requires.up c.args.channel none c.args.reply (sym c.contains.ensures ∙ c.if-contains.true)

pub returns : goal.returns
returns c =
    let s = c.args.self.now in
    let none = subst (λ t. IsNowhere t (kepts_of s.channels)) c.from.ensures (not_there s.channels c.from.result (sym c.find.ensures ∙ c.in_default.is)) in
    rejected_by _ _ _ _ NeverStarted c.into.ensures (never-takes s c.requires.idle c.requires.up c.args.channel none c.args.reply (sym c.contains.ensures ∙ c.if-contains.false) _ refl)
