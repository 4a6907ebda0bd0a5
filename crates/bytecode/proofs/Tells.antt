-- Bytes tell a program: at most one has them, and what is refused none has.
use Rattle.std.proofs.Common.{◌≡◌, ℕ, ◌+◌, List, [], ◌∷◌, ◌++◌, length, take, sym, refl, ap, ◌∙◌, append_assoc, append-nil, arith, length-append}
use Rattle.std.proofs.lemmas.List.{take_at, append_cancel_left}
use Rattle.bytecode.specs.declared.instruction.Instruction.{Instruction}
use Rattle.bytecode.specs.declared.unreadable.Unreadable.{Unreadable}
use Rattle.bytecode.specs.declared.unreadable.Unreadable.TheVariants.{NoInstruction, CutShort, TooMany}
use Rattle.bytecode.specs.Encoding.{encoded, bytes_of}
use Rattle.bytecode.specs.Reading.{place_of, Rest}
use Rattle.bytecode.specs.Laws.{BytesTell, RefusedIsNone}
use Rattle.bytecode.proofs.Rows.{encoded-apart, length-encoded}

length_more : (i : Instruction) (is : List Instruction) → length (bytes_of (i ∷ is)) ≡ 8 + length (bytes_of is)
length_more i is = length-append (encoded i) (bytes_of is) ∙ ap (λ n. n + length (bytes_of is)) (length-encoded i)

front : (i : Instruction) (rest : List ℕ) → take 8 (encoded i ++ rest) ≡ encoded i
front i rest = take_at (encoded i) rest 8 (length-encoded i)

same_head : (i j : Instruction) (p q : List ℕ) → encoded i ++ p ≡ encoded j ++ q → i ≡ j
same_head i j p q e = encoded-apart i j (sym (front i p) ∙ ap (take 8) e ∙ front j q)

same-tail : (i j : Instruction) (p q : List ℕ) → encoded i ++ p ≡ encoded j ++ q → p ≡ q
same-tail i j p q e = append_cancel_left (encoded j) p q (ap (λ k. encoded k ++ p) (sym (same_head i j p q e)) ∙ e)

-- instructions at the front of a program's bytes are the program's first
prefix : (before is : List Instruction) (rest : List ℕ) → bytes_of before ++ rest ≡ bytes_of is → (tail : List Instruction) × (is ≡ before ++ tail) × (rest ≡ bytes_of tail)
prefix [] is rest e = (is, refl, e)
prefix (x ∷ before) [] rest e =
    absurd (let h : 8 + length (bytes_of before ++ rest) ≡ 0 = sym (ap length (append_assoc (encoded x) (bytes_of before) rest) ∙ length-append (encoded x) (bytes_of before ++ rest) ∙ ap (λ n. n + length (bytes_of before ++ rest)) (length-encoded x)) ∙ ap length e in omega arith)
prefix (x ∷ before) (y ∷ is) rest e =
    let f : encoded x ++ (bytes_of before ++ rest) ≡ encoded y ++ bytes_of is = sym (append_assoc (encoded x) (bytes_of before) rest) ∙ e in
    let ih = prefix before is rest (same-tail x y (bytes_of before ++ rest) (bytes_of is) f) in
    (ih.0, (ap (λ l. y ∷ l) ih.1 ∙ ap (λ z. z ∷ (before ++ ih.0)) (sym (same_head x y (bytes_of before ++ rest) (bytes_of is) f))), ih.2)

pub bytes-tell : BytesTell
bytes-tell xs ys e =
    let p = prefix xs ys [] (append-nil (bytes_of xs) ∙ e) in
    go p.0 p.1 p.2
  where
    go : (tail : List Instruction) → ys ≡ xs ++ tail → [] ≡ bytes_of tail → xs ≡ ys
    go [] f g = sym (append-nil xs) ∙ sym f
    go (i ∷ tail) f g = absurd (let h = length_more i tail in let z = ap length g in omega arith)

pub refused-is-none : RefusedIsNone
refused-is-none bytes e s is short f =
    let p = prefix s.before is s.rest (s.whole ∙ sym f) in
    go e s.count s.here p.0 p.1 p.2
  where
    go : (e : Unreadable) → length s.before ≡ place_of e → Rest e s.rest → (tail : List Instruction) → is ≡ s.before ++ tail → s.rest ≡ bytes_of tail → ⊥
    go (NoInstruction place) c r [] a b = let h = r.1 in let z = ap length b in omega arith
    go (NoInstruction place) c r (i ∷ tail) a b = r.2 i (sym (ap (take 8) b ∙ front i (bytes_of tail)))
    go (CutShort place) c r [] a b = let h = r.1 in let z = ap length b in omega arith
    go (CutShort place) c r (i ∷ tail) a b = let h = r.2 in let z = ap length b ∙ length_more i tail in omega arith
    go TooMany c r [] a b = let z = ap length b in omega arith
    go TooMany c r (i ∷ tail) a b = let z = ap length a ∙ length-append s.before (i ∷ tail) in omega arith
