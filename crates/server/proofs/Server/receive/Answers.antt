use Rattle.std.proofs.Common.{None, Some, sym, ◌∙◌}
use Rattle.std.proofs.lemmas.Result.{err_from_is_err_and}
use Rattle.message.specs.Views.{fault, to_server}
use Rattle.desk.specs.Sight.{view_of}
use Rattle.server.proofs.Calling.{takes_all}
use Rattle.server.proofs.Finishing.{loud-owes}
use Rattle.server.proofs.Server.receive.Goals as goal

pub returns-in_err-owes_nothing-clause-after : goal.returns-in_err-owes_nothing-clause-after
returns-in_err-owes_nothing-clause-after g c =
    let p = err_from_is_err_and c.from_residual.result c.from_residual.ensures.1 in
    let r = c.in_err-owes_nothing.ensures.err in
    rw (p.1, p.2, r.0) (loud-owes (view_of c.args.self.now.desk) r.1)

pub returns-in_err-taken-clause-after : goal.returns-in_err-taken-clause-after
returns-in_err-taken-clause-after g c =
    let s = c.args.self.now in
    let t = c.take-taken.new.self in
    let p = err_from_is_err_and c.from_residual-in_err-taken.result c.from_residual-in_err-taken.ensures.1 in
    rw (p.1, p.2) (takes_all (g.A.Accounts.grants s.accounts) g.P.Programs.meaning (to_server c.args.message) (view_of s.desk) (view_of t.desk) (view_of c.settle.new.self) s.programs t.programs (Some (fault c.in_err-taken.field-0.0)) c.in_ok-owes_nothing.ensures.ok (sym c.is_up.ensures ∙ c.if-not-is_up.false) c.in_err-taken.ensures.after c.settle.ensures)

pub returns-clause-after : goal.returns-clause-after
returns-clause-after g c =
    let s = c.args.self.now in
    let t = c.take-taken.new.self in
    takes_all (g.A.Accounts.grants s.accounts) g.P.Programs.meaning (to_server c.args.message) (view_of s.desk) (view_of t.desk) (view_of c.settle.new.self) s.programs t.programs None c.in_ok-owes_nothing.ensures.ok (sym c.is_up.ensures ∙ c.if-not-is_up.false) c.in_ok-taken.ensures.after c.settle.ensures
