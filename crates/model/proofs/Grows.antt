-- The numbers of the server's channels grow only at the end; once all have ended after the cut, all is forgotten. Assumes nothing.
use Rattle.std.proofs.Common.{◌≡◌, ℕ, true, false, List, [], ◌∷◌, ◌++◌, sym, refl, ◌∙◌, append-nil}
use Rattle.std.proofs.lemmas.Bool.{both_ways}
use Rattle.model.specs.Keyed.{numbers, every}
use Rattle.model.specs.Messages.{Rules, ToServer, Programs}
use Rattle.model.specs.Server.{Server, number_at, is_over, is_empty, forgot, sent_back}
use Rattle.model.specs.World.{World, Event, after}
use Rattle.model.specs.History.{comes_up}
use Rattle.model.specs.Promises.{AllForgotten}
use Rattle.model.proofs.Lists.{find-mem, every-each, numbers-each, numbers-change, numbers-end}
use Rattle.model.proofs.Steps.{Settles, sends, forgets, waits, Moves, stays, accepts, begins, hear, turns, Steps, leaves, moves, connects, steps}
use Rattle.model.proofs.Origin.{sent-number, hears-number, takes-number}

module _ {S E : Type 0} (r : Rules) (p : Programs S E) where
  abbrev Grown : Server S E → Server S E → Type 0
  Grown s s' = (new : List ℕ) × (numbers number_at s'.channels ≡ numbers number_at s.channels ++ new)

  grown : (s s' : Server S E) → numbers number_at s'.channels ≡ numbers number_at s.channels → Grown s s'
  grown s s' e = ([], e ∙ sym (append-nil (numbers number_at s.channels)))

  moves_grow : {n : ℕ} {there : List ToServer} {s : Server S E} {v : Event} {s' : Server S E} → Moves r p n there s v s' → Grown s s'
  moves_grow {s = s} (stays used tries up a b c) = grown s s refl
  moves_grow {s = s} (accepts u q ms a b c) = grown s s refl
  moves_grow {s = s} (begins t k ms u a b c d) = (t ∷ [], numbers-end number_at s.channels _)
  moves_grow {s = s} {s' = s'} (hear t {x} {y} a b) = grown s s' (numbers-change number_at t (λ _. y) s.channels (λ _ _. hears-number b ∙ (find-mem number_at t s.channels x a).1))
  moves_grow {s = s} {s' = s'} (turns t env {x} {y} a b c) = grown s s' (numbers-change number_at t (λ _. y) s.channels (λ _ _. takes-number r p c ∙ (find-mem number_at t s.channels x a).1))

  settles-numbers : {s s' : Server S E} → Settles s s' → numbers number_at s'.channels ≡ numbers number_at s.channels
  settles-numbers {s} (sends a) = numbers-each number_at sent_back s.channels sent-number
  settles-numbers {s} (forgets a b) = numbers-each number_at forgot s.channels (λ x. refl)
  settles-numbers (waits a b) = refl

  steps-grow : {w : World S E} {v : Event} {s : Server S E} → Steps r p w v s → comes_up v w ≡ false → Grown w.server s
  steps-grow {w} (leaves a b) h = grown w.server w.server refl
  steps-grow (moves a b c) h = let (new, e) = moves_grow b in (new, settles-numbers c ∙ e)
  steps-grow {w} {v} (connects a) h = absurd (both_ways (comes_up v w) h a)

  -- of what ran nothing is lost until a new connection comes up
  pub numbers-grow : (e : E) (vs : List Event) (v : Event) → comes_up v (after r p e vs) ≡ false → (new : List ℕ) × (numbers number_at (after r p e (v ∷ vs)).server.channels ≡ numbers number_at (after r p e vs).server.channels ++ new)
  unfolding after
  numbers-grow e vs v h = steps-grow (steps r p v (after r p e vs)) h

  abbrev Forgets : Server S E → Type 0
  Forgets s = s.up ≡ false → every is_over s.channels ≡ true → is_empty s ≡ true

  settles-forgets : {s s' : Server S E} → Settles s s' → Forgets s'
  settles-forgets {s} (sends a) h k = absurd (both_ways s.up h a)
  settles-forgets {s} (forgets a b) h k = every-each (λ x. x.forgotten) forgot s.channels (λ x. refl)
  settles-forgets {s} (waits a b) h k = absurd (both_ways (every is_over s.channels) b k)

  steps-forgets : {w : World S E} {v : Event} {s : Server S E} → Steps r p w v s → Forgets w.server → Forgets s
  unfolding every
  steps-forgets (leaves a b) h = h
  steps-forgets (moves a b c) h = settles-forgets c
  steps-forgets (connects a) h = λ _ _. refl

module _ {S E : Type 0} where
  pub all-forgotten : AllForgotten S E
  unfolding after every
  all-forgotten r p e [] = λ _ _. refl
  all-forgotten r p e (v ∷ vs) = steps-forgets r p (steps r p v (after r p e vs)) (all-forgotten r p e vs)
