use Rattle.std.proofs.Common.{◌≡◌, ◌-◌, length, take}
use Rattle.sha256.specs.Stream.{Holds}
use Rattle.opened.specs.Opened.{joined}
use Rattle.files.proofs.digests.digest_of.Given as goal

abbrev pub invariant-loop-k : goal.invariant-loop-k
invariant-loop-k g l =
    (l.left ≡ l.size - length (joined (g.D.Disk.meaning.block l.disk) l.blocks.bits l.k))
    × Holds l.hash (take l.size (joined (g.D.Disk.meaning.block l.disk) l.blocks.bits l.k))
