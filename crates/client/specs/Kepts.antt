-- What the channels that a client holds stand for. Assumes nothing.
use Rattle.std.specs.Prelude.{List, map}
use Rattle.held.specs.declared.Table.{Table}
use Rattle.client_channel.specs.Kept.{Bytes, Kept}
use Rattle.client_channel.specs.Held.{kept_of}
use Rattle.client_channel.specs.declared.held.Held.{Held}

abbrev pub kepts_of : Table Held Bytes → List Kept
kepts_of t = map kept_of t.held.items
