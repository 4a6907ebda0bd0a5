-- Commands whose values are in range, and what is promised of scripts of them.
use Rattle.std.specs.Prelude.{◌≡◌, ℕ, ◌<◌, ◌≤◌, List, length, IfOk, Ok}
use Rattle.std.specs.List.{AllByRecursion}
use Rattle.command.specs.Orders.{Step, read, write, end, go, Order, user, may, program, login, run, input, close, takes, turn, round, arrive, tick, cuts, connect}
use Rattle.script.specs.Lines.{script_of}
use Rattle.script.specs.Written.{written_of}

abbrev pub GoodUser : ℕ → Type 0
GoodUser u = (1 ≤ u) × (u ≤ 255)

abbrev pub GoodByte : ℕ → Type 0
GoodByte n = n ≤ 255

abbrev pub GoodShort : ℕ → Type 0
GoodShort n = n ≤ 65535

abbrev pub GoodWide : ℕ → Type 0
GoodWide n = n ≤ 4294967295

abbrev pub GoodBytes : List ℕ → Type 0
GoodBytes bs = AllByRecursion (λ b. b < 256) bs × (length bs ≤ 65536)

abbrev pub GoodStep : Step → Type 0
GoodStep (read k) = GoodShort k
GoodStep (write bs) = GoodBytes bs
GoodStep (end n) = GoodShort n
GoodStep go = Unit {0}

abbrev pub GoodRow : List Step → Type 0
GoodRow ss = AllByRecursion GoodStep ss × (1 ≤ length ss) × (length ss ≤ 64)

abbrev pub Good : Order → Type 0
Good (user u o) = GoodUser u
Good (may u n) = GoodUser u × GoodByte n
Good (program n ss) = GoodByte n × GoodRow ss
Good (login u) = GoodUser u
Good (run t n) = GoodWide t × GoodByte n
Good (input t bs) = GoodWide t × GoodBytes bs
Good (close t) = GoodWide t
Good (takes t k) = GoodWide t × GoodWide k
Good (turn t) = GoodWide t
Good round = Unit {0}
Good (arrive w) = Unit {0}
Good tick = Unit {0}
Good (cuts e) = Unit {0}
Good connect = Unit {0}

-- what is written of good commands is read as them
abbrev pub ReadsBack : Type 0
ReadsBack = (os : List Order) → AllByRecursion Good os → script_of (written_of os) ≡ Ok os

-- what is read is good commands
abbrev pub ReadsGood : Type 0
ReadsGood = (text : List ℕ) → IfOk (script_of text) (AllByRecursion Good)
