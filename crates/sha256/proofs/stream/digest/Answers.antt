use Rattle.std.proofs.Common.{◌≡◌, ℕ, ◌-◌, ◌*◌, ◌/◌, ◌%◌, List, length, drop, ap, ◌∙◌, arith}
use Rattle.sha256.proofs.Streams.{digest_is}
use Rattle.sha256.proofs.stream.digest.Goals as goal

pub returns : goal.returns
returns c =
    let m : List ℕ = c.args.message.now in
    let n : length m - length m % 64 ≡ 64 * (length m / 64) = omega arith in
    c.finished.ensures
    ∙ digest_is m _ c.blocks-2.result c.blocks-2.ensures
    (c.remainder-rest.ensures ∙ c.chunks_exact.ensures.remainder ∙ ap (λ (i : ℕ). drop i m) n)
