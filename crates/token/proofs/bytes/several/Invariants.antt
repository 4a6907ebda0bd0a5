use Rattle.std.proofs.Common.{◌≡◌, vec_items}
use Rattle.token.specs.Bytes.{times_of}
use Rattle.token.proofs.bytes.several.Given as goal

abbrev pub invariant-loop : goal.invariant-loop
invariant-loop l = vec_items l.out ≡ times_of l.counter l.once
