-- One step of a run.
use Rattle.std.proofs.Common.{◌≡◌, ℕ, zero, suc, ◌+◌, ◌≤◌, Bool, true, false, cond, not, List, Some, None, sym, refl, ap, ◌∙◌, add-one, arith}
use Rattle.std.specs.List.{slice_get}
use Rattle.vm.specs.declared.machine.Machine.{Machine}
use Rattle.bytecode.specs.declared.instruction.Instruction.{Instruction}
use Rattle.bytecode.specs.declared.instruction.Instruction.TheVariants.{Const, Move, Add, Compare, Jump, JumpLess, JumpEqual, Load, Store, Read, Write, End, GoOn}
use Rattle.vm.specs.Step.{execute, ends_turn}
use Rattle.vm.specs.Turn.{stops_at, step_at, stops, stepped, runs}
use Rattle.vm.specs.Ends.{complete, complete_at, resumed}

pub runs-stop : (n : ℕ) (c : List Instruction) (m : Machine) → stops c m ≡ true → runs n c m ≡ m
unfolding runs
runs-stop zero c m e = refl
runs-stop (suc n) c m e = ap (λ b. cond b m (runs n c (stepped c m))) e

pub runs-more : (k : ℕ) (c : List Instruction) (m : Machine) → stops c m ≡ false → runs (suc k) c m ≡ runs k c (stepped c m)
unfolding runs
runs-more k c m e = ap (λ b. cond b m (runs k c (stepped c m))) e

-- with no instruction left, a run is where it stands
pub ran-all : (n : ℕ) (c : List Instruction) (m w : Machine) → n ≤ 0 → runs n c m ≡ w → m ≡ w
unfolding runs
ran-all zero c m w h e = e
ran-all (suc n) c m w h e = absurd (omega arith)

-- so it is outside the row
pub ran_out : (n : ℕ) (c : List Instruction) (m w : Machine) → slice_get c m.counter ≡ None → runs n c m ≡ w → m ≡ w
ran_out n c m w h e = sym (runs-stop n c m (ap stops_at h)) ∙ e

stays : (i : Instruction) (m : Machine) → ends_turn i ≡ true → execute i m ≡ m
stays (Const a n) m e = cc
stays (Move a b) m e = cc
stays (Add a b c) m e = cc
stays (Compare a b) m e = cc
stays (Jump to) m e = cc
stays (JumpLess to) m e = cc
stays (JumpEqual to) m e = cc
stays (Load a b) m e = cc
stays (Store a b) m e = cc
stays (Read a b c) m e = refl
stays (Write a b) m e = refl
stays (End a) m e = refl
stays GoOn m e = refl

turned : (b d : Bool) → d ≡ not b → b ≡ not d
turned true d e = ap not (sym e)
turned false d e = ap not (sym e)

module _ (n : ℕ) (c : List Instruction) (m w : Machine) (i : Instruction) (at : slice_get c m.counter ≡ Some i) (new : Machine) (goes : Bool) (after : new ≡ execute i m) (g : goes ≡ not (ends_turn i)) (e : runs n c m ≡ w) where
  -- at an instruction that ends the turn
  pub ran-stop : goes ≡ false → new ≡ w
  ran-stop f = let t : ends_turn i ≡ true = turned (ends_turn i) goes g ∙ ap not f in after ∙ stays i m t ∙ sym (runs-stop n c m (ap stops_at at ∙ t)) ∙ e

  -- at any other
  pub ran-more : (k : ℕ) → n ≡ k + 1 → goes ≡ true → runs k c new ≡ w
  ran-more k l f =
      let t : ends_turn i ≡ false = turned (ends_turn i) goes g ∙ ap not f in
      ap (runs k c) (after ∙ sym (ap (λ o. step_at o m) at)) ∙ sym (runs-more k c m (ap stops_at at ∙ t)) ∙ ap (λ j. runs j c m) (sym (l ∙ add-one k)) ∙ e

-- outside the row a turn changes nothing
pub resumed-out : (c : List Instruction) (bytes : List ℕ) (eof : Bool) (m : Machine) → slice_get c m.counter ≡ None → m ≡ resumed c bytes eof m
resumed-out c bytes eof m e = sym (ap (λ o. runs 9999 c (complete_at o bytes eof m)) e ∙ runs-stop 9999 c m (ap stops_at e))

plainly : (i : Instruction) (bytes : List ℕ) (eof : Bool) (m : Machine) → ends_turn i ≡ false → complete i bytes eof m ≡ execute i m
plainly (Const a n) bytes eof m e = refl
plainly (Move a b) bytes eof m e = refl
plainly (Add a b c) bytes eof m e = refl
plainly (Compare a b) bytes eof m e = refl
plainly (Jump to) bytes eof m e = refl
plainly (JumpLess to) bytes eof m e = refl
plainly (JumpEqual to) bytes eof m e = refl
plainly (Load a b) bytes eof m e = refl
plainly (Store a b) bytes eof m e = refl
plainly (Read a b c) bytes eof m e = cc
plainly (Write a b) bytes eof m e = cc
plainly (End a) bytes eof m e = cc
plainly GoOn bytes eof m e = cc

-- an instruction that does not end a turn is the first of the next
pub resumed-on : (c : List Instruction) (bytes : List ℕ) (eof : Bool) (m m' w : Machine) (i : Instruction) → slice_get c m.counter ≡ Some i → ends_turn i ≡ false →
    m' ≡ cond (ends_turn i) (complete i bytes eof m) m → w ≡ runs 10000 c m' → w ≡ resumed c bytes eof m
resumed-on c bytes eof m m' w i at e f g =
    g ∙ ap (runs 10000 c) (f ∙ ap (λ b. cond b (complete i bytes eof m) m) e) ∙ runs-more 9999 c m (ap stops_at at ∙ e) ∙
    ap (λ o. runs 9999 c (step_at o m)) at ∙ ap (runs 9999 c) (sym (plainly i bytes eof m e)) ∙ ap (λ o. runs 9999 c (complete_at o bytes eof m)) (sym at)
