use Rattle.std.proofs.Common.{◌&&◌, ltb, length, sym, refl, ap, ◌∙◌}
use Rattle.std.proofs.lemmas.Bool.{and_parts}
use Rattle.desk.specs.Events.{start_at, is_fresh}
use Rattle.desk.specs.Sight.{view_of}
use Rattle.server.specs.Calls.{may_user}
use Rattle.server.proofs.Calling.{start_left, starts, refuses}
use Rattle.server.proofs.Server.run.Goals as goal

pub returns-then-can_run-clause-after : goal.returns-then-can_run-clause-after
returns-then-can_run-clause-after g c =
    let s = c.args.self.now in
    let v = view_of s.desk in
    let p = g.P.Programs.meaning in
    let b = may_user (g.A.Accounts.grants s.accounts).may s.desk.user c.args.command in
    let r = and_parts b (is_fresh c.args.channel v && ltb (length v.channels) 16) (sym c.if-can_run.ensures) in
    start_left (g.A.Accounts.grants s.accounts) p v (view_of c.start.new.self) s.programs c.args.channel c.args.command b c.ranges.channel.fits refl
    (c.start.ensures ∙ (ap (λ z. start_at z c.args.channel v) c.start-state.ensures ∙ starts b (p.first s.programs c.args.command) c.args.channel v r.0 r.1))

pub returns-else-can_run-clause-after : goal.returns-else-can_run-clause-after
returns-else-can_run-clause-after g c =
    let s = c.args.self.now in
    let v = view_of s.desk in
    let p = g.P.Programs.meaning in
    let b = may_user (g.A.Accounts.grants s.accounts).may s.desk.user c.args.command in
    start_left (g.A.Accounts.grants s.accounts) p v (view_of c.refuse.new.self) s.programs c.args.channel c.args.command b c.ranges.channel.fits refl
    (c.refuse.ensures ∙ refuses b (p.first s.programs c.args.command) c.args.channel v (sym c.if-can_run.ensures))
