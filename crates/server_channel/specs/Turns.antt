-- A program's turn, by what its channel holds. Assumes nothing.
use Rattle.std.specs.Prelude.{◌≡◌, ℕ, ◌-◌, Bool, true, false, not, ◌&&◌, ◌||◌, List, [], ◌++◌, length, take, drop, ◌==◌, nat_le, nat_lt, if◌then◌else◌}
use Rattle.model.specs.Messages.{Programs, Does, Reads, Writes, Ends, GoesOn}
use Rattle.server_channel.specs.declared.Life.{Life}
use Rattle.server_channel.specs.declared.Life.TheVariants.{Running, Ended}
use Rattle.server_channel.specs.declared.Channel.{Channel}
use Rattle.server_channel.specs.Kept.{kept, left_of}

-- what a turn leaves: the environment, the channel, and how much was read
pub record Turned (S E : Type 0) : Type 0 where
  pub env : E
  pub kept : Channel S
  pub freed : ℕ

-- a length that a read or a write may have
abbrev pub fits : ℕ → Bool
fits n = nat_lt 0 n && nat_le n 1024

-- one that reads has to wait
abbrev pub dry : {S : Type 0} → Channel S → Bool
dry k = length k.input == 0 && not k.counts.eof

module _ {S E : Type 0} where
  abbrev pub turned : E → Channel S → ℕ → Turned S E
  turned e k n = record { env = e; kept = k; freed = n }

module _ {S E : Type 0} (p : Programs S E) where
  -- the program and its environment after it is told what it read
  abbrev pub env_after : E → Life S → List ℕ → Bool → E
  env_after e (Running s) bs b = p.after e s bs b
  env_after e (Ended n) bs b = e

  abbrev pub life_after : E → Life S → List ℕ → Bool → Life S
  life_after e (Running s) bs b = Running (p.next e s bs b)
  life_after e (Ended n) bs b = Ended n

  -- and after it is ended
  abbrev pub env_ended : E → Life S → E
  env_ended e (Running s) = p.release e s
  env_ended e (Ended n) = e

  abbrev pub life_ended : Life S → ℕ → Life S
  life_ended (Running s) n = Ended n
  life_ended (Ended m) n = Ended m

  abbrev pub ends : E → Channel S → ℕ → Turned S E
  ends e k n = turned (env_ended e k.life) (kept k.counts (life_ended k.life n) k.input k.output) 0

  abbrev pub reads : E → Channel S → List ℕ → Turned S E
  reads e k bs = turned (env_after e k.life bs (length bs == 0)) (kept k.counts (life_after e k.life bs (length bs == 0)) (drop (length bs) k.input) k.output) (length bs)

  -- after the cut what is written goes nowhere
  abbrev pub writes : Bool → E → Channel S → List ℕ → Turned S E
  writes up e k bs = turned (env_after e k.life [] false) (kept k.counts (life_after e k.life [] false) k.input (if up then k.output ++ bs else k.output)) 0

  abbrev pub acts : Bool → E → Channel S → Does → Turned S E
  acts up e k (Reads n) = if fits n then (if nat_lt 0 (length (take n k.input)) || k.counts.eof then reads e k (take n k.input) else turned e k 0) else ends e k 255
  acts up e k (Writes bs) = if fits (length bs) then (if not up || length k.output == 0 then writes up e k bs else turned e k 0) else ends e k 255
  acts up e k (Ends n) = ends e k (if nat_le n 255 then n else 255)
  acts up e k GoesOn = turned (env_after e k.life [] false) (kept k.counts (life_after e k.life [] false) k.input k.output) 0

  abbrev pub acts_in : Bool → E → Channel S → Life S → Turned S E
  acts_in up e k (Running s) = acts up e k (p.does e s)
  acts_in up e k (Ended n) = turned e k 0

  -- one turn fewer is left
  abbrev pub counted : Channel S → Channel S
  counted k = kept (left_of (k.counts.left - 1) k.counts) k.life k.input k.output

  -- after the cut a turn counts, and the last one ends the program
  abbrev pub drained_in : E → Channel S → Turned S E
  drained_in e k = if nat_le k.counts.left 1 then ends e (counted k) 255 else turned e (counted k) 0

  abbrev pub turn_in : Bool → E → Channel S → Life S → Turned S E
  turn_in up e k (Running s) = if up then acts_in true e k k.life else drained_in (acts_in false e k k.life).env (acts_in false e k k.life).kept
  turn_in up e k (Ended n) = turned e k 0

  abbrev pub turn_by : Bool → E → Channel S → Turned S E
  turn_by up e k = turn_in up e k k.life

-- what a turn left
pub record TurnsTo {S E : Type 0} (y : Turned S E) (e : E) (k : Channel S) (n : ℕ) : Type 0 where
  pub env : e ≡ y.env
  pub left : k ≡ y.kept
  pub freed : n ≡ y.freed
