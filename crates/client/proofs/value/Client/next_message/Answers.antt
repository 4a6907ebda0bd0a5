use Rattle.std.proofs.Common.{Some, sym, ap, ◌∙◌}
use Rattle.message.specs.declared.to_server.ToServer.TheVariants as to_servers
use Rattle.client.specs.Kepts.{kepts_of}
use Rattle.numbers.specs.Has.{has}
use Rattle.client.specs.View.{pending_of}
use Rattle.client.proofs.Moves.{view}
use Rattle.client.proofs.HandOut.{hands-pending, hands_as}
use Rattle.client.proofs.value.Client.next_message.Goals as goal

pub returns-in-None : goal.returns-in-None
returns-in-None c =
    let s = c.args.self.now in
    hands_as _ s _ _ (λ j. view (kepts_of s.channels) (has s.used) s.next s.accepted s.up (pending_of ((c.take.ensures.after ∙ sym c.in-None.is ∙ c.take.ensures.value) j)) s.turn) c.next_of_turn.ensures

pub returns-in-Some-Login : goal.returns-in-Some-Login
returns-in-Some-Login c =
    let s = c.args.self.now in
    let m = to_servers.Login c.in-Some-Login.user c.in-Some-Login.proof in
    hands-pending s m _ (ap pending_of (sym c.take.ensures.value ∙ c.in-Some-Login.is ∙ ap Some c.in-Some-Login.field-0-is)) (λ j. view (kepts_of s.channels) (has s.used) s.next s.accepted s.up (pending_of (c.take.ensures.after j)) s.turn)

pub returns-in-Some-Run : goal.returns-in-Some-Run
returns-in-Some-Run c =
    let s = c.args.self.now in
    hands-pending s _ _ (ap pending_of (sym c.take.ensures.value ∙ c.in-Some-Run.is ∙ ap Some c.in-Some-Run.field-0-is)) (λ j. view (kepts_of s.channels) (has s.used) s.next s.accepted s.up (pending_of (c.take.ensures.after j)) s.turn)

pub returns-in-Some-Credit : goal.returns-in-Some-Credit
returns-in-Some-Credit c =
    let s = c.args.self.now in
    hands-pending s _ _ (ap pending_of (sym c.take.ensures.value ∙ c.in-Some-Credit.is ∙ ap Some c.in-Some-Credit.field-0-is)) (λ j. view (kepts_of s.channels) (has s.used) s.next s.accepted s.up (pending_of (c.take.ensures.after j)) s.turn)
