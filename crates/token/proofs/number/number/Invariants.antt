use Rattle.std.proofs.Common.{◌≡◌, ◌≤◌, drop}
use Rattle.token.specs.Number.{digits_of, within, number_of}
use Rattle.token.proofs.number.number.Given as goal

abbrev pub invariant-loop-b : goal.invariant-loop-b
invariant-loop-b g l =
    (l.value ≤ l.high) × (number_of l.low l.high l.word ≡ within l.low l.high (digits_of l.value (drop l.b-index l.word)))
