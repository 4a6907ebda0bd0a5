-- Hashes and tags under way.
use Rattle.std.proofs.Common.{◌≡◌, ℕ, ◌+◌, ◌^◌, ◌<◌, List, [], ◌++◌, length, Ok, Err, Result, sym, ap, ◌∙◌, subst, arith}
use Rattle.std.proofs.lemmas.List.{append_assoc, append-nil, length-append}
use Rattle.sha256.specs.Message.{SHA256}
use Rattle.sha256.specs.Stream as sha
use Rattle.sha256.specs.declared.stream.Error.{Error}
use Rattle.sha256.specs.declared.stream.Sha256.{Sha256}
use Rattle.hmac.specs.Calls.{Takes, Updated}
use Rattle.hmac.specs.Hmac.{HMAC, Ipad, Masked, Opad, Padded, Short}
use Rattle.hmac.specs.declared.Mac.{Mac}
use Rattle.hmac.proofs.Pads.{length-ipad, length-opad, length-sha}

-- a part that is short enough is taken in
pub took : (s t : Sha256) (p m : List ℕ) (r : Result (Unit {0}) Error) → sha.Updated s p r t → sha.Holds s m
    → length m + length p < 2 ^ 61
    → sha.Holds t (m ++ p)
took s t p m (Ok x) u h l = u.cases m h
took s t p m (Err e) u h l = absurd (omega (arith, u.refused m h))

pub prepared : (s : Mac) (key b i o : List ℕ) → b ≡ Padded (Short key) → i ≡ Masked b 0x36 → o ≡ Masked b 0x5c
    → sha.Holds s.inner i
    → sha.Holds s.outer o
    → Takes s key []
unfolding Ipad Opad
prepared s key b i o eb ei eo hi ho =
    record {
      inner = subst (λ (v : List ℕ). sha.Holds s.inner v)
          (ei ∙ ap (λ (v : List ℕ). Masked v 0x36) eb ∙ sym (append-nil (Masked (Padded (Short key)) 0x36))) hi;
      outer = subst (λ (v : List ℕ). sha.Holds s.outer v) (eo ∙ ap (λ (v : List ℕ). Masked v 0x5c) eb) ho;
    }

length-inner : (key m : List ℕ) → length (Ipad key ++ m) ≡ 64 + length m
length-inner key m = length-append (Ipad key) m ∙ ap (λ (n : ℕ). n + length m) (length-ipad key)

pub mac-updated : (s t : Mac) (part : List ℕ) (r : Result (Unit {0}) Error) → sha.Updated s.inner part r t.inner
    → t.outer ≡ s.outer
    → Updated s part r t
mac-updated s t part (Ok x) u eo =
    record {
      cases = λ key m h.
          record {
            inner = subst (λ (v : List ℕ). sha.Holds t.inner v) (append_assoc (Ipad key) m part)
                (u.cases (Ipad key ++ m) h.inner);
            outer = subst (λ (w : Sha256). sha.Holds w (Opad key)) (sym eo) h.outer;
          };
      refused = λ key m h. omega (arith, u.refused (Ipad key ++ m) h.inner, length-inner key m);
    }
mac-updated s t part (Err e) u eo =
    record {
      cases = λ i. record { inner = u.cases i; outer = eo i };
      refused = λ key m h. omega (arith, u.refused (Ipad key ++ m) h.inner, length-inner key m);
    }

pub finished : (s : Mac) (t : Sha256) (d e key m : List ℕ) (r : Result (Unit {0}) Error) → Takes s key m
    → ((n : List ℕ) → sha.Holds s.inner n → d ≡ SHA256 n)
    → sha.Updated s.outer d r t
    → ((n : List ℕ) → sha.Holds t n → e ≡ SHA256 n)
    → e ≡ HMAC key m
unfolding HMAC
finished s t d e key m r h fd u fe =
    let ed : d ≡ SHA256 (Ipad key ++ m) = fd (Ipad key ++ m) h.inner in
    let ld : length d ≡ 32 = ap length ed ∙ length-sha (Ipad key ++ m) in
    fe (Opad key ++ d) (took s.outer t d (Opad key) r u h.outer (omega (arith, length-opad key)))
    ∙ ap (λ (v : List ℕ). SHA256 (Opad key ++ v)) ed
