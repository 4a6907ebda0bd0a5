-- The exit of a `?` in a reader.
use Rattle.std.proofs.Common.{◌≡◌, ℕ, IsErrAnd, Some, None, Ok, Err, Option, Result, sym, refl, subst, arith}
use Rattle.std.specs.Option.{ok_or}
use Rattle.token.specs.declared.fault.Fault.{Fault}
use Rattle.token.specs.declared.fault.Fault.TheVariants.{Bad, NoMemory}
use Rattle.token.specs.Reads.{Reads}

-- what a part that cannot be read says of the whole
pub broken : {A B X Y : Type 0} (part : X → Y) (view : A → B) (r : Result A Fault) (e : Fault) (said : Option Y) (whole : Option B) → IsErrAnd r (λ y. y ≡ e) → Reads part (Err e) said → (said ≡ None → whole ≡ None) → Reads view r whole
broken part view (Ok x) e said whole h k f = absurd h
broken part view (Err y) e said whole h k f = go y e h k
  where
    go : (y e : Fault) → y ≡ e → Reads part (Err e) said → Reads view (Err y) whole
    go NoMemory e h k = tt
    go Bad e h k = f (subst (λ z. Reads part (Err z) said) (sym h) k)

-- what a part that is not there says of the whole
pub missing : {A B X : Type 0} (view : A → B) (r : Result A Fault) (e : Fault) (o : Option X) (whole : Option B) → IsErrAnd r (λ y. y ≡ e) → Err e ≡ ok_or o Bad → (o ≡ None → whole ≡ None) → Reads view r whole
missing view r e (Some x) whole h k f = absurd (let z : ◌≡◌ {A = ℕ} 0 1 = cc in omega arith)
missing view (Ok x) e None whole h k f = absurd h
missing view (Err y) e None whole h k f = let bad : y ≡ Bad = cc in subst (λ z. Reads view (Err z) whole) (sym bad) (f refl)
