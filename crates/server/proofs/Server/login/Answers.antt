use Rattle.desk.specs.Sight.{view_of}
use Rattle.server.proofs.Calling.{login-left}
use Rattle.server.proofs.Server.login.Goals as goal

pub returns-clause-after : goal.returns-clause-after
returns-clause-after g c =
    let s = c.args.self.now in
    login-left (g.A.Accounts.grants s.accounts) g.P.Programs.meaning (view_of s.desk) (view_of c.login.new.self) s.programs c.args.user c.args.proof.now c.is_right-right.result c.login.result c.is_right-right.ensures c.login.ensures.after c.login.ensures.fault
