-- The faults of bytes by their numbers. Assumes nothing.
use Rattle.std.specs.Prelude.{ℕ}
use Rattle.wire.specs.declared.fault.Fault.{Fault}
use Rattle.wire.specs.declared.fault.Fault.TheVariants.{Length, Tag, Malformed}

abbrev pub fault_number : Fault → ℕ
fault_number Length = 1
fault_number Tag = 2
fault_number Malformed = 3
