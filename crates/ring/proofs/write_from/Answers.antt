use Rattle.ring.proofs.Parts.{write_done}
use Rattle.ring.proofs.write_from.Goals as goal

pub returns : goal.returns
returns c = write_done c.args.memory.now c.args.more.now c.args.tail c.min-straight.result _ _ c.requires.0 c.requires.1 c.min-straight.ensures c.copy_from_slice.ensures.after c.copy_from_slice-2.ensures.after
