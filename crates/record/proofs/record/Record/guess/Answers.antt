use Rattle.std.proofs.Common.{ℕ, List, get_or}
use Rattle.record.specs.Records.{guess}
use Rattle.record.specs.declared.record.Record.{Record}
use Rattle.record.proofs.record.Record.guess.Goals as goal

pub returns : goal.returns
unfolding guess
returns c =
    let y : List ℕ = c.args.y.now in
    let made : List ℕ → ℕ → ℕ → List ℕ → Record =
    λ bs n s bits. record { name = record { size = get_or y 0 0; bytes = bs }; count = n; size = s; blocks = record { bits = bits } } in
    λ i. made (c.copy_from_slice.ensures.after i) (c.from_be_bytes-count.ensures i) (c.from_be_bytes-size.ensures i) (c.copy_from_slice-2.ensures.after i)
