-- One more byte from memory, or to it, at an address that counts modulo 256.
use Rattle.std.proofs.Common.{◌≡◌, ℕ, suc, ◌+◌, ◌%◌, ◌<◌, List, [], ◌∷◌, ◌++◌, length, get_or, take, set, sym, refl, ap, ◌∙◌, add-one, arith}
use Rattle.std.proofs.lemmas.List.{take_more_set}
use Rattle.vm.specs.declared.machine.Machine.{Machine}
use Rattle.vm.specs.Ends.{bytes_from, bytes_to, with_memory}

pub next_address : (at i x : ℕ) → x ≡ (at + i) % 256 → (x + 1) % 256 ≡ (at + (i + 1)) % 256
next_address at i x e = omega arith

pub from_none : (at : ℕ) (memory : List ℕ) → bytes_from at 0 memory ≡ []
unfolding bytes_from
from_none at memory = refl

pub from_suc : (at n : ℕ) (memory : List ℕ) → bytes_from at (suc n) memory ≡ bytes_from at n memory ++ (get_or memory ((at + n) % 256) 0 ∷ [])
unfolding bytes_from
from_suc at n memory = refl

pub from_more : (at i x : ℕ) (bytes memory : List ℕ) → x ≡ (at + i) % 256 → i < length bytes → take i bytes ≡ bytes_from at i memory →
    take (i + 1) (set bytes i (get_or memory x 0)) ≡ bytes_from at (i + 1) memory
from_more at i x bytes memory a h e =
    take_more_set bytes i (get_or memory x 0) h ∙ ap (λ l. l ++ (get_or memory x 0 ∷ [])) e ∙ ap (λ y. bytes_from at i memory ++ (get_or memory y 0 ∷ [])) a ∙
    sym (ap (λ n. bytes_from at n memory) (add-one i) ∙ from_suc at i memory)

pub to_none : (at : ℕ) (bytes memory : List ℕ) → bytes_to at 0 bytes memory ≡ memory
unfolding bytes_to
to_none at bytes memory = refl

pub to_suc : (at n : ℕ) (bytes memory : List ℕ) → bytes_to at (suc n) bytes memory ≡ set (bytes_to at n bytes memory) ((at + n) % 256) (get_or bytes n 0)
unfolding bytes_to
to_suc at n bytes memory = refl

pub to-more : (at i x : ℕ) (bytes : List ℕ) (m s : Machine) → x ≡ (at + i) % 256 → s ≡ with_memory (bytes_to at i bytes m.memory) m →
    with_memory (set s.memory x (get_or bytes i 0)) s ≡ with_memory (bytes_to at (i + 1) bytes m.memory) m
to-more at i x bytes m s a e =
    ap (λ y. with_memory (set y.memory x (get_or bytes i 0)) y) e ∙ ap (λ k. with_memory (set (bytes_to at i bytes m.memory) k (get_or bytes i 0)) m) a ∙
    ap (λ l. with_memory l m) (sym (ap (λ n. bytes_to at n bytes m.memory) (add-one i) ∙ to_suc at i bytes m.memory))
