-- The promises of what comes, from the invariant. Assumes nothing.
use Rattle.model.specs.Progress.{Settles, CanSettle, OutputComes, InputComes, AllInputComes, CanLogIn, CanStart}
use Rattle.model.proofs.Holds.{inv}
use Rattle.model.proofs.Settle as Settle
use Rattle.model.proofs.Outgo as Outgo
use Rattle.model.proofs.Income as Income
use Rattle.model.proofs.Logs as Logs
use Rattle.model.proofs.Begins as Begins

module _ {S E : Type 0} where
  pub settles : Settles S E
  settles r fair p e vs fs u en b = Settle.settles r fair p e (inv r fair p e) vs fs u en b

  pub can-settle : CanSettle S E
  can-settle r fair p e vs u en = Settle.can-settle r fair p e (inv r fair p e) vs u en

  pub output-comes : OutputComes S E
  output-comes r fair p e vs f m u = Outgo.output-comes r fair p e (inv r fair p e) vs f m u

  pub input-comes : InputComes S E
  input-comes r fair p e vs x f mx mf nu fo ex u = Income.input-comes r fair p e (inv r fair p e) vs x f mx mf nu fo ex u

  pub all-input-comes : AllInputComes S E
  all-input-comes r fair p reads e vs x f mx mf nu fo ex u = Income.all-input-comes r fair p e (inv r fair p e) reads vs x f mx mf nu fo ex u

  pub can-log-in : CanLogIn S E
  can-log-in r fair p e vs u q up nobody none right = Logs.can-log-in r fair p e (inv r fair p e) vs u q up nobody none right

  pub can-start : CanStart S E
  can-start r fair p e vs u t k user may up allowed = Begins.can-start r fair p e (inv r fair p e) vs u t k user may up allowed
