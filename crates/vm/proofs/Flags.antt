-- Of the two flags at most one is set.
use Rattle.std.proofs.Common.{ℕ, zero, suc, Bool, true, false, cond, List, Some, None, Option, refl, arith}
use Rattle.std.proofs.lemmas.Bool.Decides.{nat_tests}
use Rattle.std.specs.List.{slice_get}
use Rattle.bytecode.specs.declared.instruction.Instruction.{Instruction}
use Rattle.bytecode.specs.declared.instruction.Instruction.TheVariants.{Compare, JumpLess, JumpEqual, Read, Write, End, GoOn}
use Rattle.vm.specs.declared.machine.Machine.{Machine}
use Rattle.vm.specs.Step.{get, compared, execute, jumped}
use Rattle.vm.specs.Turn.{step_at, stops, stepped, runs}
use Rattle.vm.specs.Ends.{complete, complete_at}
use Rattle.vm.specs.Laws.{HasOneFlag, OneFlag}

compared-one : (x y : ℕ) (m : Machine) → HasOneFlag (compared x y m)
compared-one x y m = grind (arith, nat_tests)

one-jumped : (b : Bool) (to : ℕ) (m : Machine) → HasOneFlag m → HasOneFlag (jumped b to m)
one-jumped true to m h = h
one-jumped false to m h = h

one-execute : (i : Instruction) (m : Machine) → HasOneFlag m → HasOneFlag (execute i m)
one-execute (Compare a b) m h = compared-one (get a m) (get b m) m
one-execute (JumpLess to) m h = one-jumped m.less to m h
one-execute (JumpEqual to) m h = one-jumped m.equal to m h
one-execute i m h = h

one-step : (o : Option Instruction) (m : Machine) → HasOneFlag m → HasOneFlag (step_at o m)
one-step None m h = h
one-step (Some i) m h = one-execute i m h

one-runs : (n : ℕ) (c : List Instruction) (m : Machine) → HasOneFlag m → HasOneFlag (runs n c m)
unfolding runs
one-runs zero c m h = h
one-runs (suc n) c m h = go (stops c m) (one-runs n c (stepped c m) (one-step (slice_get c m.counter) m h))
  where
    go : (b : Bool) → HasOneFlag (runs n c (stepped c m)) → HasOneFlag (cond b m (runs n c (stepped c m)))
    go true r = h
    go false r = r

one-complete : (i : Instruction) (bytes : List ℕ) (eof : Bool) (m : Machine) → HasOneFlag m → HasOneFlag (complete i bytes eof m)
one-complete (Read a b c) bytes eof m h = h
one-complete (Write a b) bytes eof m h = h
one-complete (End a) bytes eof m h = h
one-complete GoOn bytes eof m h = h
one-complete i bytes eof m h = one-execute i m h

one-completed : (o : Option Instruction) (bytes : List ℕ) (eof : Bool) (m : Machine) → HasOneFlag m → HasOneFlag (complete_at o bytes eof m)
one-completed None bytes eof m h = h
one-completed (Some i) bytes eof m h = one-complete i bytes eof m h

pub one-flag : OneFlag
one-flag = (
  refl,
  one-execute,
  one-runs,
  λ c bytes eof m h. one-runs 9999 c (complete_at (slice_get c m.counter) bytes eof m) (one-completed (slice_get c m.counter) bytes eof m h),
)
