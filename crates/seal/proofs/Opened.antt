-- What was sealed is opened.
use Rattle.std.proofs.Common.{◌≡◌, ℕ, ◌+◌, ◌-◌, ◌*◌, ◌/◌, ◌%◌, ◌≤◌, List, ◌∷◌, length, sym, refl, ap, ◌∙◌, subst, arith}
use Rattle.std.proofs.lemmas.Grind.{common_steps}
use Rattle.std.proofs.lemmas.List.{drop_at, length-take-le, take_at}
use Rattle.chacha20.proofs.Texts.{twice}
use Rattle.hmac.specs.Hmac.{HMAC}
use Rattle.sha256.specs.Message.{Bytes64, Output, SHA256}
use Rattle.seal.specs.declared.secret.Secret.{Secret}
use Rattle.seal.specs.Frames.{body, frame, largest, tag, tag_text, turned, way_key}
use Rattle.seal.specs.Laws.{OpensSealed}
use Rattle.seal.proofs.Sealing.{length-turned}

pub turned-twice : (s : Secret) (n : ℕ) (t : List ℕ) → turned s n (turned s n t) ≡ t
unfolding turned
turned-twice s n t = twice (way_key s) 0 (0 ∷ 0 ∷ 0 ∷ 0 ∷ Bytes64 n) t

pub length-hmac : (key m : List ℕ) → length (HMAC key m) ≡ 32
unfolding HMAC SHA256 Output
length-hmac key m = refl

pub length-tag : (s : Secret) (n : ℕ) (b : List ℕ) → length (tag s n b) ≡ 16
unfolding tag
length-tag s n b = length-take-le 16 (HMAC s.key (tag_text s n b)) (omega (arith, length-hmac s.key (tag_text s n b)))

pub length-body : (s : Secret) (n : ℕ) (x : List ℕ) → length (body s n x) ≡ length x + 2
length-body s n x = omega (arith, length-turned s n x)

pub length-frame : (s : Secret) (n : ℕ) (x : List ℕ) → length (frame s n x) ≡ length x + 18
length-frame s n x = grind (arith, common_steps, length-body s n x, length-tag s n (body s n x))

pub opens-sealed : OpensSealed
opens-sealed s n x l h =
    let b : List ℕ = body s n x in
    let t : List ℕ = tag s n b in
    let lf : length (frame s n x) ≡ length x + 18 = length-frame s n x in
    let lb : length b ≡ length (frame s n x) - 16 = length-body s n x ∙ omega arith in
    let lt : length (turned s n x) ≡ length (frame s n x) - 18 = length-turned s n x ∙ omega arith in
    let sz : length x / 256 % 256 * 256 + length x % 256 ≡ length x = omega arith in
    record {
      whole = record { size = lf ∙ ap (λ (v : ℕ). v + 18) (sym sz); bound = subst (λ (v : ℕ). v ≤ largest) (sym sz) l };
      fits = (
        h,
        drop_at b t (length (frame s n x) - 16) lb
            ∙ ap (tag s n) (sym (take_at b t (length (frame s n x) - 16) lb)),
      );
      inside = ap (turned s n) (take_at (turned s n x) t (length (frame s n x) - 18) lt) ∙ turned-twice s n x;
    }
