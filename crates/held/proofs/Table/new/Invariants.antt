use Rattle.std.proofs.Common.{◌≡◌, ◌≤◌, replicate, vec_len, vec_capacity}
use Rattle.held.proofs.Table.new.Given as goal

abbrev pub invariant-loop : goal.invariant-loop
invariant-loop g l = record { count : vec_len l.spare ≡ l.counter; room : 16 ≤ vec_capacity l.spare; empty : l.spare.items ≡ replicate l.counter g.M.Memory.empty }
