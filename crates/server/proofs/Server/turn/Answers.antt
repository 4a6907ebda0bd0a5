use Rattle.model.specs.Server.{turn_of, channel_of}
use Rattle.std.proofs.lemmas.Result.{err_from_is_err_and}
use Rattle.desk.specs.Sight.{view_of}
use Rattle.server.proofs.Calling.{does-all}
use Rattle.server.proofs.Finishing.{loud-owes, silent-owes}
use Rattle.server.proofs.Server.turn.Goals as goal

pub returns-in_err-owes_nothing-clause-after : goal.returns-in_err-owes_nothing-clause-after
returns-in_err-owes_nothing-clause-after g c =
    let p = err_from_is_err_and c.from_residual.result c.from_residual.ensures.1 in
    let r = c.in_err-owes_nothing.ensures.err in
    rw (p.1, p.2, r.0) (loud-owes (view_of c.args.self.now.desk) r.1)

pub returns-clause-after : goal.returns-clause-after
returns-clause-after g c =
    let s = c.args.self.now in
    let t = c.take_turn.new.self in
    let p = g.P.Programs.meaning in
    let q = c.in_ok-owes_nothing.ensures.ok in
    (silent-owes (view_of s.desk) q, does-all (g.A.Accounts.grants s.accounts) p (λ r n z. turn_of r p c.args.channel (channel_of c.args.channel z) z) (view_of s.desk) (view_of t.desk) (view_of c.settle.new.self) s.programs t.programs q c.take_turn.ensures.after c.settle.ensures)
