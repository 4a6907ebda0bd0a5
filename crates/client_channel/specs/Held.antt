-- What a channel with its bytes holds. Assumes nothing.
use Rattle.client_channel.specs.Kept.{Kept, kept}
use Rattle.client_channel.specs.declared.held.Held.{Held}

abbrev pub kept_of : Held → Kept
kept_of h = kept h.channel h.buffers
