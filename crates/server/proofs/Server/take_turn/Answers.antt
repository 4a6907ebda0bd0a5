use Rattle.desk.specs.Sight.{view_of}
use Rattle.server.proofs.Calling.{turns-held, turns-none}
use Rattle.server.proofs.Server.take_turn.Goals as goal

pub returns-in-Some-clause-after : goal.returns-in-Some-clause-after
returns-in-Some-clause-after g c =
    let s = c.args.self.now in
    turns-held (g.A.Accounts.grants s.accounts) g.P.Programs.meaning (view_of s.desk) s.programs c.requires c.args.channel c.in-Some.i (view_of c.turn.new.self) c.turn.new.programs c.in-Some.ensures c.turn.ensures

pub returns-in_default-clause-after : goal.returns-in_default-clause-after
returns-in_default-clause-after g c =
    let s = c.args.self.now in
    turns-none (g.A.Accounts.grants s.accounts) g.P.Programs.meaning (view_of s.desk) s.programs c.requires c.args.channel c.in_default.ensures
