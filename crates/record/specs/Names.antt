-- Names of files: 1 to 32 small letters, digits and dots, compared as byte strings. Assumes nothing.
use Rattle.std.specs.Prelude.{ℕ, ◌-◌, min, Bool, ◌&&◌, List, ◌++◌, length, take, replicate, nat_le}
use Rattle.model.specs.Keyed.{every}
use Rattle.model.specs.Put.{is_name_byte}
use Rattle.record.specs.declared.name.Name.{Name}

-- the bytes of a name
abbrev pub name_of : Name → List ℕ
name_of n = take (min n.size 32) n.bytes

-- whether bytes are a name
unfoldable pub is_name : List ℕ → Bool
is_name bs = nat_le 1 (length bs) && (nat_le (length bs) 32 && every is_name_byte bs)

-- the name of such bytes, zeros behind them
abbrev pub named : List ℕ → Name
named bs = record { size = length bs; bytes = bs ++ replicate (32 - length bs) 0 }
