-- Why a message is not written, as why it is not sent. Assumes nothing.
use Rattle.wire.specs.declared.unwritten.Unwritten.{Unwritten}
use Rattle.wire.specs.declared.unwritten.Unwritten.TheVariants as causes
use Rattle.seal.specs.declared.unsent.Unsent.{Unsent}
use Rattle.seal.specs.declared.unsent.Unsent.TheVariants.{Unsendable, NoRoom}

-- the same cause, of one that was to be sealed too
abbrev pub unsent_for : Unwritten → Unsent
unsent_for causes.Unsendable = Unsendable
unsent_for causes.NoRoom = NoRoom
