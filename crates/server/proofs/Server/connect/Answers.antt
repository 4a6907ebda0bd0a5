use Rattle.std.proofs.Common.{sym, ◌∙◌}
use Rattle.desk.specs.Sight.{view_of}
use Rattle.server.proofs.Connecting.{begins, over-same}
use Rattle.server.proofs.Server.connect.Goals as goal

pub returns-then-not-is_over-clause-after : goal.returns-then-not-is_over-clause-after
returns-then-not-is_over-clause-after g c s x = over-same (view_of c.args.self.now.desk) c.args.self.now.programs s x ∙ (sym c.is_over.ensures ∙ c.if-not-is_over.true)

pub returns-clause-after : goal.returns-clause-after
returns-clause-after g c = (λ s x. over-same (view_of c.args.self.now.desk) c.args.self.now.programs s x ∙ (sym c.is_over.ensures ∙ c.if-not-is_over.false), begins (view_of c.reset.new.self) c.args.self.now.programs c.reset.ensures)
