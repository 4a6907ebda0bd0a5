-- What a reader answers, by what there is to read.
use Rattle.std.specs.Prelude.{◌≡◌, Some, None, Ok, Err, Option, Result}
use Rattle.token.specs.declared.fault.Fault.{Fault}
use Rattle.token.specs.declared.fault.Fault.TheVariants.{Bad, NoMemory}

-- what is read stands for what the text says, and a text is bad only where it says nothing
abbrev pub Reads : {A B : Type 0} → (A → B) → Result A Fault → Option B → Type 0
Reads view (Ok x) said = said ≡ Some (view x)
Reads view (Err Bad) said = said ≡ None
Reads view (Err NoMemory) said = Unit {0}
