use Rattle.chacha20.proofs.Streams.{keyed_lanes}
use Rattle.chacha20.proofs.stream.whole.Goals as goal

pub returns : goal.returns
returns g c =
    keyed_lanes g.W.Word.lanes g.W.Word.lane c.args.s c.spread.result c.rounds.result c.requires c.spread.ensures c.rounds.ensures
    c.xor.ensures
