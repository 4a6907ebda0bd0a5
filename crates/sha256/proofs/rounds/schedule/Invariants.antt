use Rattle.std.proofs.Common.{◌≡◌, ◌+◌, length, take}
use Rattle.sha256.specs.Rounds.{Schedule}
use Rattle.sha256.proofs.rounds.schedule.Given as goal

abbrev pub invariant-loop-t : goal.invariant-loop-t
invariant-loop-t l = record {
  size : length l.w ≡ 64;
  words : take (l.t + 16) l.w ≡ Schedule l.block l.t;
}
