-- What holds of every channel of the server by itself: its status, what it read, its turns left; and of its window. Assumes nothing.
use Rattle.std.proofs.Common.{◌≡◌, ℕ, ◌-◌, ◌<◌, ◌≤◌, Bool, true, false, cond, ◌&&◌, ◌||◌, ◌⊎◌, List, [], ◌∷◌, length, Some, None, Option, refl, inl, inr, arith, length-append, length-drop, length-take}
use mathlib.Core.List.Memᴰ
use Rattle.std.proofs.lemmas.Bool.{and_parts, or_cases, or_parts, not-true, not-false, both_ways}
use Rattle.model.specs.Messages.{Rules, Programs, is_some}
use Rattle.model.specs.Server.{ServerChannel, is_live, is_over, exit_now, counted, ended, sent_back, sent_kept}
use Rattle.model.specs.World.{World, Event, after}
use Rattle.model.specs.Promises.{AtServer, StatusInRange}
use Rattle.model.proofs.Turns.{Hears, dropped, input, credit, eof, close, Acts, waits, reads, writes, goes_on, ends, breaks, Takes, whole, counts, runs_out}
use Rattle.model.proofs.Origin.{Comes, old, new, heard, turned, Origin, left, sent, forgot-all, waiting, origin}

-- Over its fields, as each step changes few of them.
pub record Good (drain : ℕ) (input : List ℕ) (read : ℕ) (exit : Option ℕ) (said : Bool) (turns : ℕ) (forgotten : Bool) : Type 0 where
  pub status : (n : ℕ) → exit ≡ Some n → n ≤ 255
  pub reads : read ≤ length input
  pub told : said ≡ true → is_some exit ≡ true
  pub gone : forgotten ≡ true → is_some exit ≡ true
  pub few : turns ≤ drain
  pub some : 0 < drain → (is_some exit ≡ true) ⊎ (0 < turns)

pub no-exit : (o : Option ℕ) → is_some o ≡ false → o ≡ None
no-exit None e = refl
no-exit (Some n) e = absurd (both_ways true e refl)

module _ {S : Type 0} where
  abbrev pub Sound : ℕ → ServerChannel S → Type 0
  Sound d x = Good d x.input x.read x.exit x.said x.left x.forgotten

  -- a live channel has no exit, and is not forgotten
  pub live : (x : ServerChannel S) → is_live x ≡ true → (x.forgotten ≡ false) × (x.exit ≡ None)
  live x h = ((or_parts x.forgotten _ a).0, no-exit x.exit (or_parts x.forgotten _ a).1)
    where
      a : (x.forgotten || is_some x.exit) ≡ false
      a = not-true (x.forgotten || is_some x.exit) h

  -- a channel that is over has an exit
  pub over : {d : ℕ} (x : ServerChannel S) → Sound d x → is_over x ≡ true → is_some x.exit ≡ true
  over x s h = go (or_cases x.forgotten (is_some x.exit) (not-false (x.forgotten || is_some x.exit) (not-true (is_live x) h)))
    where
      go : (x.forgotten ≡ true) ⊎ (is_some x.exit ≡ true) → is_some x.exit ≡ true
      go (inl a) = s.gone a
      go (inr a) = a

  hears-sound : {d : ℕ} {x y : ServerChannel S} → Hears x y → Sound d x → Sound d y
  hears-sound dropped s = s
  hears-sound {x = x} (input bs a b) s = record { status = s.status; reads = simp length-append (omega (arith, s.reads)); told = s.told; gone = s.gone; few = s.few; some = s.some }
  hears-sound (credit n a) s = s
  hears-sound (eof a b) s = s
  hears-sound (close a b) s = record { status = s.status; reads = s.reads; told = s.told; gone = λ _. s.told b; few = s.few; some = s.some }

  ended-sound : {d : ℕ} (n : ℕ) (x : ServerChannel S) → n ≤ 255 → Sound d x → Sound d (ended n x)
  ended-sound n x h s = record { status = λ m e. let c : n ≡ m = cc in omega arith; reads = s.reads; told = λ _. refl; gone = λ _. refl; few = s.few; some = λ _. inl refl }

  counted-sound : {d : ℕ} (x : ServerChannel S) → (0 < d → (is_some x.exit ≡ true) ⊎ (1 < x.left)) → Sound d x → Sound d (counted x)
  counted-sound {d} x h s = record { status = s.status; reads = s.reads; told = s.told; gone = s.gone; few = omega (arith, s.few); some = λ a. go (h a) }
    where
      go : (is_some x.exit ≡ true) ⊎ (1 < x.left) → (is_some x.exit ≡ true) ⊎ (0 < x.left - 1)
      go (inl a) = inl a
      go (inr a) = inr (omega arith)

  sent-sound : {d : ℕ} (x : ServerChannel S) → Sound d x → Sound d (sent_back x)
  sent-sound {d} x s = go x.forgotten
    where
      said : (x.said ≡ true) ⊎ ((exit_now x && is_some x.exit) ≡ true) → is_some x.exit ≡ true
      said (inl a) = s.told a
      said (inr a) = (and_parts (exit_now x) (is_some x.exit) a).1

      go : (b : Bool) → Sound d (cond b x (sent_kept x))
      go true = s
      go false = record { status = s.status; reads = s.reads; told = λ a. said (or_cases x.said _ a); gone = s.gone; few = s.few; some = s.some }

module _ {S E : Type 0} (r : Rules) (p : Programs S E) where
  acts-sound : {up : Bool} {e : E} {x y : ServerChannel S} → Acts r p up e x y → Sound r.drain x → Sound r.drain y
  acts-sound (waits w) s = s
  acts-sound {x = x} (reads k a b c) s = record { status = s.status; reads = simp (length-take, length-drop) (omega (arith, s.reads)); told = s.told; gone = s.gone; few = s.few; some = s.some }
  acts-sound (writes bs a b c) s = s
  acts-sound (goes_on a) s = s
  acts-sound {x = x} (ends n a b) s = ended-sound n x b s
  acts-sound {x = x} (breaks a) s = ended-sound 255 x (omega arith) s

  takes-sound : {e : E} {x : ServerChannel S} {up : Bool} {y : ServerChannel S} → Takes r p e x up y → Sound r.drain x → Sound r.drain y
  takes-sound (whole a) s = acts-sound a s
  takes-sound (counts {y} a b) s = counted-sound y (λ _. b) (acts-sound a s)
  takes-sound (runs_out {y} a b) s =
      let t = acts-sound a s in
      record { status = λ m e. let c : 255 ≡ m = cc in omega arith; reads = t.reads; told = λ _. refl; gone = λ _. refl; few = omega (arith, t.few); some = λ _. inl refl }

  module _ (w : World S E) (was : (x : ServerChannel S) → AtServer x w → Sound r.drain x) where
    comes-sound : {v : Event} {x : ServerChannel S} → Comes r p w v x → Sound r.drain x
    comes-sound (old {x = x} a b) = was x a
    comes-sound (new t k ms u a b c d) = record { status = λ n e. absurd (let z : ◌≡◌ {A = ℕ} 0 1 = cc in omega arith); reads = omega arith; told = λ e. absurd (both_ways false refl e); gone = λ e. absurd (both_ways false refl e); few = omega arith; some = λ h. inr h }
    comes-sound (heard {x = x} a b) = hears-sound b (was x a)
    comes-sound (turned {x = x} a b c d) = takes-sound d (was x a)

    origin-sound : {v : Event} {up : Bool} {x : ServerChannel S} → Origin r p w v up x → Sound r.drain x
    origin-sound (left {x = x} a b c) = was x b
    origin-sound (sent {x = x} a b c) = sent-sound x (comes-sound c)
    origin-sound (forgot-all {x = x} a b c) = let s = comes-sound c in record { status = s.status; reads = s.reads; told = s.told; gone = λ _. over x s b; few = s.few; some = s.some }
    origin-sound (waiting a b) = comes-sound b

  pub sound : (e : E) (vs : List Event) (x : ServerChannel S) → AtServer x (after r p e vs) → Sound r.drain x
  unfolding after
  sound e [] x m = absurd (Memᴰ.not-nil m)
  sound e (v ∷ vs) x m = origin-sound (after r p e vs) (sound e vs) (origin r p e v vs x m).1

module _ {S E : Type 0} where
  pub status-in-range : StatusInRange S E
  status-in-range r p e vs f n m h = (sound r p e vs f m).status n h
