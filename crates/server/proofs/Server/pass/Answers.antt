use Rattle.std.proofs.Common.{sym, refl, ◌∙◌}
use Rattle.message.specs.Views.{request}
use Rattle.desk.specs.Sight.{view_of}
use Rattle.server.proofs.Calling.{passes-heard, dropped-left, unknown-left}
use Rattle.server.proofs.Server.pass.Goals as goal

pub returns-in-Some-clause-after : goal.returns-in-Some-clause-after
returns-in-Some-clause-after g c =
    let s = c.args.self.now in
    passes-heard (g.A.Accounts.grants s.accounts) g.P.Programs.meaning (view_of s.desk) s.programs c.requires.0 c.args.channel c.in-Some.i (request c.args.asked) c.hear.result (view_of c.hear.new.self) c.in-Some.ensures c.hear.ensures

pub returns-in-None-clause-after : goal.returns-in-None-clause-after
returns-in-None-clause-after g c =
    let s = c.args.self.now in
    dropped-left (g.A.Accounts.grants s.accounts) g.P.Programs.meaning (view_of s.desk) (view_of s.desk) s.programs c.args.channel (request c.args.asked) c.requires.1 c.requires.0 c.ranges.channel.fits c.in-None.ensures (sym c.is_used.ensures ∙ c.if-is_used.true) refl

pub returns-in-None-2-clause-after : goal.returns-in-None-2-clause-after
returns-in-None-2-clause-after g c =
    let s = c.args.self.now in
    unknown-left (g.A.Accounts.grants s.accounts) g.P.Programs.meaning (view_of s.desk) (view_of c.cut.new.self) s.programs c.args.channel (request c.args.asked) c.requires.0 c.ranges.channel.fits c.in-None-2.ensures (sym c.is_used.ensures ∙ c.if-is_used.false) c.cut.ensures
