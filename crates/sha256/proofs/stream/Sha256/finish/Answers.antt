use Rattle.std.proofs.Common.{◌≡◌, ℕ, ◌-◌, ◌/◌, ◌%◌, List, ◌++◌, length, take, ap, ◌∙◌, arith}
use Rattle.sha256.specs.Message.{After, Output, Padding}
use Rattle.sha256.proofs.Streams.{digest_is}
use Rattle.sha256.proofs.stream.Sha256.finish.Goals as goal

pub returns : goal.returns
returns c = λ m h.
    let b : List ℕ = take (c.args.self.total % 64 - 0) c.args.self.buffer in
    let e : c.args.self.total % 64 - 0 ≡ length m % 64 = omega (arith, h.total) in
    c.finished.ensures
    ∙ ap
    (λ (n : ℕ). Output (After c.args.self.state (b ++ Padding n) (length (b ++ Padding n) / 64)))
    h.total
    ∙ digest_is m b c.args.self.state h.state
    (ap (λ (k : ℕ). take k c.args.self.buffer) e ∙ h.held)
