use Rattle.std.proofs.Common.{◌≡◌, ℕ, ◌<◌}
use Rattle.chacha20.specs.Block.{Doubles}
use Rattle.chacha20.specs.Lanes.{Lane}
use Rattle.chacha20.proofs.state.State.rounds.Given as goal

abbrev pub invariant-loop-i : goal.invariant-loop-i
invariant-loop-i g l = (k : ℕ) → k < g.W.Word.lanes → Lane g.W.Word.lane k l.t ≡ Doubles (Lane g.W.Word.lane k l.initial.t) l._i
