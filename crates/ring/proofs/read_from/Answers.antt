use Rattle.ring.proofs.Parts.{read-parts}
use Rattle.ring.proofs.read_from.Goals as goal

pub returns : goal.returns
returns c = let a = c.copy_from_slice.ensures.after in let b = c.copy_from_slice-2.ensures.after in let m = c.min-straight.ensures in cc (read-parts c.args.memory.now c.args.out.now c.args.head c.min-straight.result c.requires.0 c.requires.1 m)
