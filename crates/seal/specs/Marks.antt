-- The marks of tags by what they are for. Assumes nothing.
use Rattle.std.specs.Prelude.{ℕ}
use Rattle.seal.specs.Frames.{key_mark, tag_mark}
use Rattle.seal.specs.declared.secret.Direction.{Direction}
use Rattle.seal.specs.declared.tags.Purpose.{Purpose}
use Rattle.seal.specs.declared.tags.Purpose.TheVariants.{Key, Message}

abbrev pub mark_of : Purpose → Direction → ℕ
mark_of Key = key_mark
mark_of Message = tag_mark
