-- A text encrypted.
use Rattle.std.proofs.Common.{◌≡◌, ℕ, ◌+◌, ◌^◌, ◌<◌, ◌≤◌, List, ◌∷◌, length, Ok, Err, Result, ◌∙◌, arith, MatchResult}
use Rattle.chacha20.specs.Cipher.{Blocks, ChaCha20}
use Rattle.chacha20.specs.declared.cipher.Error as cipher
use Rattle.sha256.specs.Message.{Bytes64}
use Rattle.seal.specs.Frames.{turned}
use Rattle.seal.specs.Ways.{Stands}
use Rattle.seal.specs.declared.secret.Secret.{Secret}
use Rattle.seal.specs.declared.way.Way.{Way}

pub turned-is : (w : Way) (s : Secret) (n number : ℕ) (nonce old new : List ℕ) (r : Result (Unit {0}) cipher.Error) → Stands w s n
    → nonce ≡ 0 ∷ 0 ∷ 0 ∷ 0 ∷ Bytes64 number
    → length old ≤ 1082
    → MatchResult r (λ _. (0 + Blocks (length old) ≤ 2 ^ 32) × (new ≡ ChaCha20 w.key 0 nonce old)) (λ _. (2 ^ 32 < 0 + Blocks (length old)) × (new ≡ old))
    → new ≡ turned s number old
unfolding turned
turned-is w s n number nonce old new (Ok x) h en l c = c.1 ∙ (λ i. ChaCha20 (h.key i) 0 (en i) old)
turned-is w s n number nonce old new (Err e) h en l c = absurd (omega arith)
