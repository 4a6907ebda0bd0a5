use Rattle.std.proofs.Common.{refl, ap, ◌∙◌}
use Rattle.std.proofs.lemmas.List.Sums.{list_all-from_AllPass}
use Rattle.message.specs.Views.{reply}
use Rattle.server_channel.specs.Kept.{quiet}
use Rattle.server_channel.proofs.Quiet.{loud-due}
use Rattle.desk.specs.Sight.{view_of}
use Rattle.desk.proofs.Handing.{hands-one, hands_none}
use Rattle.desk.proofs.Desk.next_reply.Goals as goal

pub returns-in_err-i : goal.returns-in_err-i
returns-in_err-i g c =
    let v = view_of c.args.self.now in
    rw c.from_residual.ensures (record { owed = hands_none v c.if-not-self.false c.requires (list_all-from_AllPass quiet v.channels c.in_err-i.ensures); same = refl })

pub unreachable-requires : goal.unreachable-requires
unreachable-requires g c =
    let k = c.index_mut-due.result.now in
    loud-due k (ap quiet c.index_mut-due.ensures.value ∙ c.in_ok-i.ensures.2 k) c.in_default.ensures.0

pub returns : goal.returns
returns g c =
    let h = c.in-Some.ensures in
    let r = hands-one (view_of c.args.self.now) c.in_ok-i.i c.index_mut-due.result.now c.next.new.self (reply c.in-Some.reply) c.if-not-self.false c.requires c.in_ok-i.ensures.0 c.in_ok-i.ensures.1 c.index_mut-due.ensures.value h.0 h.1 in
    record { owed = rw c.number-channel.ensures r.0; same = r.1 }
