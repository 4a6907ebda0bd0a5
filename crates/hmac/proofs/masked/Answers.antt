use Rattle.std.proofs.Common.{bit_xor, sym, ◌∙◌, arith}
use Rattle.std.proofs.lemmas.List.{ext_get_or, get_or-map, length-map}
use Rattle.hmac.specs.Hmac.{Masked}
use Rattle.hmac.proofs.masked.Goals as goal

pub returns : goal.returns
returns c =
    let b = c.args.block.now in
    let done = c.loop-byte.invariant in
    ext_get_or 0 c.loop-byte.byte-items (Masked b c.args.mask) (done.size ∙ sym (length-map b _ ∙ c.told-block))
    (λ k h. done.done k (omega arith) ∙ sym (get_or-map (λ x. bit_xor x c.args.mask) b k 0 0 (omega arith)))
