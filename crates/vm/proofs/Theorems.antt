-- The proofs of the laws.
use Rattle.std.proofs.Common.{◌≡◌, ℕ, zero, suc, ◌+◌, ◌%◌, ◌<◌, ◌≤◌, Bool, true, false, cond, leb, ◌⊎◌, List, [], ◌∷◌, ◌++◌, length, get_or, set, Some, None, Option, sym, refl, ap, ◌∙◌, inl, inr, eq-or-lt_of_le, arith, length-append, length-set, get_or-set_other, get_or-set_same, leb-true}
use Rattle.std.proofs.lemmas.List.{get_or_append_left, get_or_at}
use Rattle.std.proofs.lemmas.Bool.Decides.{nat_tests}
use Rattle.std.specs.List.{slice_get}
use Rattle.model.specs.Messages.{Reads, Writes, Ends}
use Rattle.bytecode.specs.declared.instruction.Instruction.{Instruction}
use Rattle.bytecode.specs.declared.instruction.Instruction.TheVariants.{Const, Move, Add, Compare, Jump, JumpLess, JumpEqual, Load, Store, Read, Write, End, GoOn}
use Rattle.vm.specs.declared.machine.Machine.{Machine}
use Rattle.vm.specs.Step.{get}
use Rattle.vm.specs.Turn.{stops, stepped, runs}
use Rattle.vm.specs.Ends.{bytes_from, bytes_to, is_length, asks, asks_at}
use Rattle.vm.specs.Commands.{code_of}
use Rattle.vm.proofs.Wraps.{from_none, from_suc, to_none, to_suc}
use Rattle.vm.specs.Laws.{steps, TurnIsShort, Possible, AsksWhatCanBe, WritesRound, ReadsRound}

-- a run of at most n
pub record Ran (n : ℕ) (c : List Instruction) (m w : Machine) : Type 0 where
  pub before : ℕ
  pub few : before ≤ n
  pub leads : steps before c m ≡ w
  pub none : (k : ℕ) → k < before → stops c (steps k c m) ≡ false
  pub last : (stops c w ≡ true) ⊎ (before ≡ n)

ran : (n : ℕ) (c : List Instruction) (m : Machine) → Ran n c m (runs n c m)
unfolding runs steps
ran zero c m = record { before = 0; few = omega arith; leads = refl; none = λ k h. absurd (omega arith); last = inr refl }
ran (suc n) c m = go (stops c m) refl (ran n c (stepped c m))
  where
    go : (b : Bool) → stops c m ≡ b → Ran n c (stepped c m) (runs n c (stepped c m)) → Ran (suc n) c m (cond b m (runs n c (stepped c m)))
    go true e r = record { before = 0; few = omega arith; leads = refl; none = λ k h. absurd (omega arith); last = inl e }
    go false e r = record { before = suc r.before; few = (let h = r.few in omega arith); leads = r.leads; none = each; last = end r.last }
      where
        each : (k : ℕ) → k < suc r.before → stops c (steps k c m) ≡ false
        each zero h = e
        each (suc k) h = r.none k (omega arith)

        end : (stops c (runs n c (stepped c m)) ≡ true) ⊎ (r.before ≡ n) → (stops c (runs n c (stepped c m)) ≡ true) ⊎ (suc r.before ≡ suc n)
        end (inl h) = inl h
        end (inr h) = inr (ap suc h)

pub turn-is-short : TurnIsShort
turn-is-short c m =
    let r = ran 9999 c m in
    record { before = r.before; few = (let h = r.few in omega arith); leads = r.leads; none = r.none; last = end r r.last }
  where
    end : (r : Ran 9999 c m (runs 9999 c m)) → (stops c (runs 9999 c m) ≡ true) ⊎ (r.before ≡ 9999) → (stops c (runs 9999 c m) ≡ true) ⊎ (suc r.before ≡ 10000)
    end r (inl h) = inl h
    end r (inr h) = inr (omega arith)

-- addresses
length_from : (at n : ℕ) (memory : List ℕ) → length (bytes_from at n memory) ≡ n
length_from at zero memory = ap length (from_none at memory)
length_from at (suc n) memory =
    ap length (from_suc at n memory) ∙ length-append (bytes_from at n memory) (get_or memory ((at + n) % 256) 0 ∷ []) ∙ (let h = length_from at n memory in omega arith)

get_or-from : (at n : ℕ) (memory : List ℕ) (k : ℕ) → k < n → get_or (bytes_from at n memory) k 0 ≡ get_or memory ((at + k) % 256) 0
get_or-from at zero memory k h = absurd (omega arith)
get_or-from at (suc n) memory k h = ap (λ l. get_or l k 0) (from_suc at n memory) ∙ go (get_or-from at n memory k) (eq-or-lt_of_le (let l : k ≤ n = omega arith in l))
  where
    go : (k < n → get_or (bytes_from at n memory) k 0 ≡ get_or memory ((at + k) % 256) 0) → (k ≡ n) ⊎ (k < n) → get_or (bytes_from at n memory ++ (get_or memory ((at + n) % 256) 0 ∷ [])) k 0 ≡ get_or memory ((at + k) % 256) 0
    go ih (inl e) = get_or_at (bytes_from at n memory) (get_or memory ((at + n) % 256) 0) [] 0 k (length_from at n memory ∙ sym e) ∙ ap (λ j. get_or memory ((at + j) % 256) 0) (sym e)
    go ih (inr l) = get_or_append_left (bytes_from at n memory) (get_or memory ((at + n) % 256) 0 ∷ []) 0 k (let e = length_from at n memory in omega arith) ∙ ih l

pub writes-round : WritesRound
writes-round at n memory = (length_from at n memory, get_or-from at n memory)

length_to : (at n : ℕ) (bytes memory : List ℕ) → length (bytes_to at n bytes memory) ≡ length memory
length_to at zero bytes memory = ap length (to_none at bytes memory)
length_to at (suc n) bytes memory = ap length (to_suc at n bytes memory) ∙ length-set (bytes_to at n bytes memory) ((at + n) % 256) (get_or bytes n 0) ∙ length_to at n bytes memory

module _ (at : ℕ) (bytes memory : List ℕ) (whole : length memory ≡ 256) where
  latest : (n k : ℕ) → k < n → ((j : ℕ) → k < j → j < n → (at + j) % 256 ≡ (at + k) % 256 → ⊥) → get_or (bytes_to at n bytes memory) ((at + k) % 256) 0 ≡ get_or bytes k 0
  latest zero k h apart = absurd (omega arith)
  latest (suc n) k h apart = ap (λ l. get_or l ((at + k) % 256) 0) (to_suc at n bytes memory) ∙ go (latest n k) (eq-or-lt_of_le (let l : k ≤ n = omega arith in l))
    where
      go : (k < n → ((j : ℕ) → k < j → j < n → (at + j) % 256 ≡ (at + k) % 256 → ⊥) → get_or (bytes_to at n bytes memory) ((at + k) % 256) 0 ≡ get_or bytes k 0) → (k ≡ n) ⊎ (k < n) →
          get_or (set (bytes_to at n bytes memory) ((at + n) % 256) (get_or bytes n 0)) ((at + k) % 256) 0 ≡ get_or bytes k 0
      go ih (inl e) =
          ap (λ j. get_or (set (bytes_to at n bytes memory) ((at + n) % 256) (get_or bytes n 0)) ((at + j) % 256) 0) e ∙
          get_or-set_same (bytes_to at n bytes memory) ((at + n) % 256) (get_or bytes n 0) 0 (let l = length_to at n bytes memory in omega arith) ∙ ap (λ j. get_or bytes j 0) (sym e)
      go ih (inr l) =
          get_or-set_other (bytes_to at n bytes memory) ((at + n) % 256) ((at + k) % 256) (get_or bytes n 0) 0 (λ e. apart n l (omega arith) (sym e)) ∙
          ih l (λ j a b. apart j a (omega arith))

  kept : (n a : ℕ) → ((j : ℕ) → j < n → (at + j) % 256 ≡ a → ⊥) → get_or (bytes_to at n bytes memory) a 0 ≡ get_or memory a 0
  kept zero a apart = ap (λ l. get_or l a 0) (to_none at bytes memory)
  kept (suc n) a apart =
      ap (λ l. get_or l a 0) (to_suc at n bytes memory) ∙
      get_or-set_other (bytes_to at n bytes memory) ((at + n) % 256) a (get_or bytes n 0) 0 (λ e. apart n (omega arith) (sym e)) ∙
      kept n a (λ j l. apart j (omega arith))

pub reads-round : ReadsRound
reads-round at n bytes memory whole = (latest at bytes memory whole n, kept at bytes memory whole n)

-- requests
is-length : (n : ℕ) → is_length n ≡ true → (1 ≤ n) × (n ≤ 1024)
is-length n e = grind (arith, nat_tests)

reads : (b : Bool) (n : ℕ) → is_length n ≡ b → Possible (cond b (Reads n) (Ends 255))
reads true n e = is-length n e
reads false n e = omega arith

writes : (b : Bool) (n : ℕ) (bytes : List ℕ) → length bytes ≡ n → is_length n ≡ b → Possible (cond b (Writes bytes) (Ends 255))
writes true n bytes l e = let h = is-length n e in (omega arith, omega arith)
writes false n bytes l e = omega arith

ends : (b : Bool) (n : ℕ) → leb n 255 ≡ b → Possible (cond b (Ends n) (Ends 255))
ends true n e = leb-true n 255 e
ends false n e = omega arith

possible : (i : Instruction) (m : Machine) → Possible (asks i m)
possible (Const a n) m = tt
possible (Move a b) m = tt
possible (Add a b c) m = tt
possible (Compare a b) m = tt
possible (Jump to) m = tt
possible (JumpLess to) m = tt
possible (JumpEqual to) m = tt
possible (Load a b) m = tt
possible (Store a b) m = tt
possible (Read a b c) m = reads (is_length (get a m)) (get a m) refl
possible (Write a b) m = writes (is_length (get a m)) (get a m) (bytes_from (get b m) (get a m) m.memory) (length_from (get b m) (get a m) m.memory) refl
possible (End a) m = ends (leb (get a m) 255) (get a m) refl
possible GoOn m = tt

possible-at : (o : Option Instruction) (m : Machine) → Possible (asks_at o m)
possible-at None m = omega arith
possible-at (Some i) m = possible i m

pub asks-what-can-be : AsksWhatCanBe
asks-what-can-be t s = possible-at (slice_get (code_of t s.command) s.machine.counter) s.machine
