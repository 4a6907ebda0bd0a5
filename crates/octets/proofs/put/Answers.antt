use Rattle.std.proofs.Common.{arith}
use Rattle.octets.proofs.Parts.{put_is}
use Rattle.octets.proofs.put.Goals as goal

pub returns : goal.returns
returns c =
    put_is c.args.at _ c.args.out.now c.copy_from_slice.new.self c.args.part.now (omega arith)
    c.copy_from_slice.ensures.after
