-- The kinds of messages by their numbers. Assumes nothing.
use Rattle.std.specs.Prelude.{◌≡◌, ◌≢◌, ℕ, Ok, Err, Result}
use Rattle.wire.specs.declared.fault.Fault.{Fault}
use Rattle.wire.specs.declared.fault.Fault.TheVariants as fault
use Rattle.wire.specs.declared.kind.Kind.{Kind}
use Rattle.wire.specs.declared.kind.Kind.TheVariants.{Login, Run, Input, OutputCredit, Eof, Close, Tick, Accepted, Runs, Output, InputCredit, Exit, Tock}

abbrev pub kind_number : Kind → ℕ
kind_number Login = 1
kind_number Run = 2
kind_number Input = 3
kind_number OutputCredit = 4
kind_number Eof = 5
kind_number Close = 6
kind_number Tick = 7
kind_number Accepted = 16
kind_number Runs = 17
kind_number Output = 18
kind_number InputCredit = 19
kind_number Exit = 20
kind_number Tock = 21

-- no kind has this number
abbrev pub IsNoKind : ℕ → Type 0
IsNoKind n = (k : Kind) → kind_number k ≢ n

-- the kind with this number, or the fault that there is none
abbrev pub Names : ℕ → Result Kind Fault → Type 0
Names n (Ok k) = kind_number k ≡ n
Names n (Err e) = (e ≡ fault.Malformed) × IsNoKind n
