-- The lanes of blocks side by side, and the key stream from a state on.
use Rattle.std.specs.Prelude.{ℕ, ◌+◌, ◌/◌, ◌%◌, ◌^◌}
use Rattle.chacha20.specs.Block.{ByteAt, Listed, Rounds}
use Rattle.chacha20.specs.declared.state.State.{State}

-- the words of the block in the lane l
abbrev pub Lane : {W : Type 0} → (ℕ → W → ℕ) → ℕ → State W → State ℕ
Lane lane l s =
    record {
      x0 = lane l s.x0;
      x1 = lane l s.x1;
      x2 = lane l s.x2;
      x3 = lane l s.x3;
      x4 = lane l s.x4;
      x5 = lane l s.x5;
      x6 = lane l s.x6;
      x7 = lane l s.x7;
      x8 = lane l s.x8;
      x9 = lane l s.x9;
      x10 = lane l s.x10;
      x11 = lane l s.x11;
      x12 = lane l s.x12;
      x13 = lane l s.x13;
      x14 = lane l s.x14;
      x15 = lane l s.x15;
    }

-- the state n blocks on
unfoldable pub Advance : ℕ → State ℕ → State ℕ
Advance n s =
    record {
      x0 = s.x0;
      x1 = s.x1;
      x2 = s.x2;
      x3 = s.x3;
      x4 = s.x4;
      x5 = s.x5;
      x6 = s.x6;
      x7 = s.x7;
      x8 = s.x8;
      x9 = s.x9;
      x10 = s.x10;
      x11 = s.x11;
      x12 = (s.x12 + n) % 2 ^ 32;
      x13 = s.x13;
      x14 = s.x14;
      x15 = s.x15;
    }

-- the byte i of the key stream whose first block begins with the state s
unfoldable pub Keyed : State ℕ → ℕ → ℕ
Keyed s i = ByteAt (Listed (Rounds (Advance (i / 64) s))) (i % 64)

-- the byte i of the blocks of all lanes, one after another
abbrev pub LaneByte : {W : Type 0} → (ℕ → W → ℕ) → State W → ℕ → ℕ
LaneByte lane s i = ByteAt (Listed (Lane lane (i / 64) s)) (i % 64)
