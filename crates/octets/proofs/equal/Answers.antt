use Rattle.std.proofs.Common.{◌≡◌, sym, ap, ◌∙◌, rules}
use Rattle.octets.specs.Differences.{differences}
use Rattle.octets.proofs.Same.{same, differences-self}
use Rattle.octets.proofs.equal.Goals as goal

pub returns-then-a-b : goal.returns-then-a-b
returns-then-a-b c =
    let r = c.differences.ensures in
    let s = same c.args.a.now c.args.b.now c.if-a-b.true in
    let n = differences-self c.args.a.now in
    (λ t. s (search rules), λ e. let z : c.differences.result ≡ 0 = r ∙ ap (λ b. differences c.args.a.now b) (sym e) ∙ n in search rules)
