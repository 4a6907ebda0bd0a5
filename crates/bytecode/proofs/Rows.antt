-- A row of bytes is at most one instruction's.
use Rattle.std.proofs.Common.{◌≡◌, ℕ, ◌+◌, ◌*◌, ◌/◌, ◌%◌, ◌<◌, List, length, get_or, sym, refl, ap, ◌∙◌, subst, mod-lt, arith}
use native.Mathlib.Bridge.{le_prop}
use Rattle.bytecode.specs.declared.register.Register.{Register}
use Rattle.bytecode.specs.declared.instruction.Instruction.{Instruction}
use Rattle.bytecode.specs.declared.instruction.Instruction.TheVariants.{Const, Move, Add, Compare, Jump, JumpLess, JumpEqual, Load, Store, Read, Write, End, GoOn}
use Rattle.bytecode.specs.Encoding.{encoded, low, guessed}

abbrev register : (n : ℕ) → n < 16 → Register
register n h = record { number = n; ok = h }

pub same_number : (n m : ℕ) (h : n < 16) (k : m < 16) → n ≡ m → register n h ≡ register m k
same_number n m h k e = subst (λ v. (j : v < 16) → register n h ≡ register v j) e (λ j. ap (register n) (le_prop h j)) k

pub low_of : (a : Register) → low a.number ≡ a
low_of a = same_number (a.number % 16) a.number (mod-lt a.number (omega arith)) a.ok (let h : a.number < 16 = a.ok in omega arith)

-- four bytes, high byte first
abbrev pub joined : (n0 n1 n2 n3 : ℕ) → ℕ
joined n0 n1 n2 n3 = n0 * 16777216 + n1 * 65536 + n2 * 256 + n3

pub joined_of : (n : ℕ) → joined (n / 16777216) (n / 65536 % 256) (n / 256 % 256) (n % 256) ≡ n
joined_of n =
    let a : n / 65536 ≡ n / 16777216 * 256 + n / 65536 % 256 = omega arith in
    let b : n / 256 ≡ n / 65536 * 256 + n / 256 % 256 = omega arith in
    let c : n ≡ n / 256 * 256 + n % 256 = omega arith in
    linear n (n / 256) (n / 65536) (n / 16777216) (n / 65536 % 256) (n / 256 % 256) (n % 256) a b c
  where
    linear : (n x y z p q r : ℕ) → y ≡ z * 256 + p → x ≡ y * 256 + q → n ≡ x * 256 + r → joined z p q r ≡ n
    linear n x y z p q r a b c = omega arith

abbrev pub guessed_from : List ℕ → Instruction
guessed_from bs = guessed (get_or bs 0 0) (get_or bs 1 0) (get_or bs 2 0) (get_or bs 3 0) (joined (get_or bs 4 0) (get_or bs 5 0) (get_or bs 6 0) (get_or bs 7 0))

pub guessed-encoded : (i : Instruction) → guessed_from (encoded i) ≡ i
guessed-encoded (Const a n) = λ j. Const (low_of a j) (joined_of n j)
guessed-encoded (Move a b) = λ j. Move (low_of a j) (low_of b j)
guessed-encoded (Add a b c) = λ j. Add (low_of a j) (low_of b j) (low_of c j)
guessed-encoded (Compare a b) = λ j. Compare (low_of a j) (low_of b j)
guessed-encoded (Jump to) = ap Jump (joined_of to)
guessed-encoded (JumpLess to) = ap JumpLess (joined_of to)
guessed-encoded (JumpEqual to) = ap JumpEqual (joined_of to)
guessed-encoded (Load a b) = λ j. Load (low_of a j) (low_of b j)
guessed-encoded (Store a b) = λ j. Store (low_of a j) (low_of b j)
guessed-encoded (Read a b c) = λ j. Read (low_of a j) (low_of b j) (low_of c j)
guessed-encoded (Write a b) = λ j. Write (low_of a j) (low_of b j)
guessed-encoded (End a) = ap End (low_of a)
guessed-encoded GoOn = refl

-- what a row does not give back, no instruction gives
pub guessed-only : (bs : List ℕ) (g : Instruction) → g ≡ guessed_from bs → (encoded g ≡ bs → ⊥) → (i : Instruction) → encoded i ≡ bs → ⊥
guessed-only bs g e no_row i f = no_row (ap encoded (e ∙ ap guessed_from (sym f) ∙ guessed-encoded i) ∙ f)

pub encoded-apart : (i j : Instruction) → encoded i ≡ encoded j → i ≡ j
encoded-apart i j e = sym (guessed-encoded i) ∙ ap guessed_from e ∙ guessed-encoded j

pub length-encoded : (i : Instruction) → length (encoded i) ≡ 8
length-encoded (Const a n) = refl
length-encoded (Move a b) = refl
length-encoded (Add a b c) = refl
length-encoded (Compare a b) = refl
length-encoded (Jump to) = refl
length-encoded (JumpLess to) = refl
length-encoded (JumpEqual to) = refl
length-encoded (Load a b) = refl
length-encoded (Store a b) = refl
length-encoded (Read a b c) = refl
length-encoded (Write a b) = refl
length-encoded (End a) = refl
length-encoded GoOn = refl
