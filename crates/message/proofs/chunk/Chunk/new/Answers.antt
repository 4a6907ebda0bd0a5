use Rattle.std.proofs.Common.{rules}
use Rattle.std.proofs.lemmas.Slice.{overwrites}
use Rattle.message.proofs.chunk.Chunk.new.Goals as goal

pub returns : goal.returns
returns c = let h = c.front.ensures in search (rules, overwrites)
