use Rattle.std.proofs.Common.{◌≡◌, List, ℕ, take, sym, ap, ◌∙◌}
use Rattle.hmac.specs.Hmac.{HMAC}
use Rattle.seal.specs.Frames.{body_of, tag, tag_text}
use Rattle.seal.proofs.way.Way.fits.Goals as goal

pub returns : goal.returns
unfolding tag
returns c = λ s n h.
    let f = c.args.frame.now in
    let e : take 16 c.tag.result ≡ tag s c.args.number (body_of f) =
    ap (take 16) (c.tag.ensures s n h ∙ ap (λ (v : List ℕ). HMAC s.key (tag_text s c.args.number v)) c.split_at.ensures.front) in
    (λ t. sym c.split_at.ensures.back ∙ c.equal.ensures.0 t ∙ e, λ d. c.equal.ensures.1 (c.split_at.ensures.back ∙ d ∙ sym e))
