-- What a program's action means in the model. Assumes nothing.
use Rattle.model.specs.Messages.{Does, Reads, Writes, Ends, GoesOn}
use Rattle.message.specs.Views.{chunk_bytes}
use Rattle.programs.specs.declared.programs.Action.{Action}
use Rattle.programs.specs.declared.programs.Action.TheVariants.{Read, Write, End, GoOn}

abbrev pub action : Action → Does
action (Read k) = Reads k
action (Write c) = Writes (chunk_bytes c)
action (End n) = Ends n
action GoOn = GoesOn
