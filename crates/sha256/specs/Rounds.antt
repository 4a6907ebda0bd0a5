-- The block computation: RFC 6234, section 6.2.
use Rattle.std.specs.Prelude.{ℕ, zero, suc, ◌+◌, List, [], ◌∷◌, ◌++◌, slice_index}
use Rattle.sha256.specs.Words.{◌⊞◌, CH, MAJ, BSIG0, BSIG1, SSIG0, SSIG1}
use Rattle.sha256.specs.Constants.{KS}
use Rattle.sha256.specs.declared.rounds.State.{State}

-- step 1: the word t, of the words t - 16, t - 15, t - 7 and t - 2
unfoldable pub Extend : ℕ → ℕ → ℕ → ℕ → ℕ
Extend w16 w15 w7 w2 = SSIG1 w2 ⊞ w7 ⊞ SSIG0 w15 ⊞ w16

-- the first 16 + n words of the schedule, of the 16 words of a block
unfoldable pub Schedule : List ℕ → ℕ → List ℕ
Schedule m zero = m
Schedule m (suc n) =
    Schedule m n
    ++ Extend (slice_index (Schedule m n) n) (slice_index (Schedule m n) (n + 1)) (slice_index (Schedule m n) (n + 9))
    (slice_index (Schedule m n) (n + 14))
    ∷ []

-- step 3: one turn, with the constant k and the word w
unfoldable pub Round : State → ℕ → ℕ → State
Round s k w =
    let t1 : ℕ = s.h ⊞ BSIG1 s.e ⊞ CH s.e s.f s.g ⊞ k ⊞ w in
    let t2 : ℕ = BSIG0 s.a ⊞ MAJ s.a s.b s.c in
    record { a = t1 ⊞ t2; b = s.a; c = s.b; d = s.c; e = s.d ⊞ t1; f = s.e; g = s.f; h = s.g }

-- n turns, with the constants ks and the words ws
unfoldable pub Rounds : List ℕ → List ℕ → State → ℕ → State
Rounds ks ws s zero = s
Rounds ks ws s (suc n) = Round (Rounds ks ws s n) (slice_index ks n) (slice_index ws n)

-- step 4
unfoldable pub Add : State → State → State
Add s t =
    record {
      a = s.a ⊞ t.a;
      b = s.b ⊞ t.b;
      c = s.c ⊞ t.c;
      d = s.d ⊞ t.d;
      e = s.e ⊞ t.e;
      f = s.f ⊞ t.f;
      g = s.g ⊞ t.g;
      h = s.h ⊞ t.h;
    }

-- the hash value after a block of 16 words
unfoldable pub Compress : State → List ℕ → State
Compress s m = Add s (Rounds KS (Schedule m 48) s 64)
