-- The promises that join what is known of single channels with what is known of histories. Assumes nothing.
use Rattle.std.proofs.Common.{arith}
use Rattle.model.specs.Messages.{RealIsFair}
use Rattle.model.specs.Promises.{StartedByWhoMay, RunsOnce, WindowsHold}
use Rattle.model.proofs.Grows.{numbers-grow}
use Rattle.model.proofs.Holds.{inv, partner, windows-of-both}
use Rattle.model.proofs.Logins.{started}
use Rattle.model.proofs.Room.{output-waits}
use Rattle.model.proofs.Typed.{input-waits}

module _ {S E : Type 0} where
  pub started-by-who-may : StartedByWhoMay S E
  started-by-who-may r fair p e vs f m = started r p e vs f m (partner r fair p e vs f m)

  pub runs-once : RunsOnce S E
  runs-once r fair p e vs = ((inv r fair p e vs).rising-there, (inv r fair p e vs).rising, λ v h. numbers-grow r p e vs v h)

  pub windows-hold : WindowsHold S E
  windows-hold r fair p e vs = (windows-of-both r fair p e vs, λ x m. input-waits r p e vs x m, λ f m u. output-waits r p e vs f m u)

pub real-is-fair : RealIsFair
real-is-fair accepts may = record { window = omega arith; part = omega arith; drain = omega arith; counts = omega arith }
