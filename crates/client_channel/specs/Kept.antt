-- What a channel holds, without its past. Assumes nothing.
use Rattle.std.specs.Prelude.{ℕ, Bool, true, false, List, [], None, Option}
use Rattle.ring.specs.declared.buffers.Buffers.{Buffers}
use Rattle.client_channel.specs.declared.state.Phase.{Phase}
use Rattle.client_channel.specs.declared.state.Phase.TheVariants.{Asked, Running}
use Rattle.client_channel.specs.declared.state.Channel.{Channel}

-- input that was not sent, output that was not taken
abbrev pub Bytes : Type 0
Bytes = Buffers 16384 8192

-- no input waits, and no output
abbrev pub no_bytes : Bytes
no_bytes = record { input = []; output = [] }

pub record Kept : Type 0 where
  pub number : ℕ
  pub running : Bool
  pub credit : ℕ
  pub eof : Bool
  pub said : Bool
  pub exit : Option ℕ
  pub waiting : List ℕ
  pub unseen : List ℕ

abbrev pub is_running : Phase → Bool
is_running Asked = false
is_running Running = true

abbrev pub kept : Channel → Bytes → Kept
kept x b = record { number = x.number; running = is_running x.phase; credit = x.credit; eof = x.eof; said = x.said; exit = x.exit; waiting = b.input; unseen = b.output }

-- a channel that was just started
abbrev pub fresh : ℕ → Kept
fresh t = record { number = t; running = false; credit = 0; eof = false; said = false; exit = None; waiting = []; unseen = [] }
