use Rattle.std.proofs.Common.{◌≡◌, ◌*◌, ◌≤◌, take, length}
use Rattle.token.specs.Written.{escapes_of}
use Rattle.token.proofs.written.escaped.Given as goal

abbrev pub invariant-loop-b : goal.invariant-loop-b
invariant-loop-b l = record {
  room : length l.out ≡ 128;
  bound : l.len ≤ 4 * l.b-index;
  done : take l.len l.out ≡ escapes_of (take l.b-index l.bytes);
}
