use Rattle.std.proofs.Common.{[], ap, ◌∙◌}
use Rattle.std.proofs.lemmas.Result.{err_from_is_err_and}
use Rattle.model.specs.Messages.{did}
use Rattle.model.specs.Server.{cut_server}
use Rattle.desk.specs.View.{closed}
use Rattle.desk.specs.Events.{cut_down}
use Rattle.desk.specs.Sight.{view_of}
use Rattle.server.proofs.Calling.{does-all, cuts}
use Rattle.server.proofs.Finishing.{loud-owes, silent-owes}
use Rattle.server.proofs.Server.cut.Goals as goal

pub returns-in_err-owes_nothing-clause-after : goal.returns-in_err-owes_nothing-clause-after
returns-in_err-owes_nothing-clause-after g c =
    let p = err_from_is_err_and c.from_residual.result c.from_residual.ensures.1 in
    let r = c.in_err-owes_nothing.ensures.err in
    rw (p.1, p.2, r.0) (loud-owes (view_of c.args.self.now.desk) r.1)

pub returns-clause-after : goal.returns-clause-after
returns-clause-after g c =
    let s = c.args.self.now in
    let v = view_of s.desk in
    let p = g.P.Programs.meaning in
    let q = c.in_ok-owes_nothing.ensures.ok in
    let granted = g.A.Accounts.grants s.accounts in
    (silent-owes v q, does-all granted p (λ r n z. did (cut_server z) []) v (cut_down v) (view_of c.settle.new.self) s.programs s.programs q (cuts granted p v s.programs q) (c.settle.ensures ∙ ap closed c.cut.ensures))
