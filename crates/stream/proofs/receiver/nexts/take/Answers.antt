use Rattle.stream.specs.Readers.{held_of}
use Rattle.stream.proofs.Receiving.{takes-is}
use Rattle.stream.proofs.receiver.nexts.take.Goals as goal

pub returns : goal.returns
returns g c =
    takes-is g.M.Codec.code g.met.M.Codec.written_known c.args.way.now c.open.new.way (held_of c.args.reader.now) (held_of c.open.new.self) (held_of c.clear.new.self) c.inside.result.now c.in_ok-size.size c.read-read.result
    c.in_ok-size.ensures.opens
    c.inside.ensures
    c.read-read.ensures.message
    c.clear.ensures
