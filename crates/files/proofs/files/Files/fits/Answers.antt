use Rattle.std.proofs.Common.{ℕ, List, ap, ◌∙◌}
use Rattle.model.specs.Files.{same}
use Rattle.record.proofs.Same.{decided}
use Rattle.files.proofs.files.Files.fits.Goals as goal

pub returns : goal.returns
returns g c = decided c.equal.result c.digest_at.result c.args.digest.now c.equal.ensures ∙ ap (λ (v : List ℕ). same v c.args.digest.now) c.digest_at.ensures
