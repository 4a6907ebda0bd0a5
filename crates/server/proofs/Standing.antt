-- What is so of channels that stand for the model's: one is found, changed, added, forgotten.
use Rattle.std.proofs.Common.{◌≡◌, ℕ, zero, suc, ◌+◌, ◌<◌, ◌≤◌, Bool, true, false, cond, not, ◌&&◌, ◌||◌, eqb, ◌⊎◌, List, [], ◌∷◌, ◌++◌, length, get_or, take, drop, set, Some, None, sym, refl, ap, ◌∙◌, subst, inl, inr, ⊎_elim, arith}
use Rattle.std.proofs.lemmas.Bool.{cond-true, cond-false, eq-eqb, ne_eqb, cases_eq}
use Rattle.std.specs.List.{list_all}
use Rattle.model.specs.Keyed.{find, change, count, every, each}
use Rattle.model.specs.Server.{ServerChannel, number_at, is_kept, is_over, forgot}
use Rattle.model.specs.Messages.{is_some}
use Rattle.server_channel.specs.declared.Life.{Life}
use Rattle.server_channel.specs.declared.Life.TheVariants.{Running, Ended}
use Rattle.server_channel.specs.declared.Channel.{Channel}
use Rattle.server_channel.specs.Kept.{is_running, exit_of}
use Rattle.desk.specs.View.{number_in, has_ended}
use Rattle.server.specs.Stands.{Past, whole, Stand, none, past, held}

over-life : {S : Type 0} (l : Life S) → not (not (false || is_some (exit_of l))) ≡ not (is_running l)
over-life (Running s) = refl
over-life (Ended n) = refl

abbrev cut_past : {S : Type 0} → Channel S → Past S → Past S
cut_past k p = record { command = p.command; user = p.user; state = p.state; went = p.went; gone = p.gone ++ k.output; sent = length p.gone; may = length p.gone + k.counts.credit; said = k.counts.said }

module _ {S : Type 0} {up : Bool} {Good : ℕ → Type 0} where
  -- a number below all
  pub find-below : {lo : ℕ} {ks : List (Channel S)} {xs : List (ServerChannel S)} (t : ℕ) → t < lo → Stand up Good lo ks xs → find number_at t xs ≡ None
  unfolding find
  find-below t l none = refl
  find-below t l (past {x = x} f a g st) = cond-false _ _ _ (ne_eqb x.number t (λ e. omega arith)) ∙ find-below t (omega arith) st
  find-below t l (held {k = k} {x = x} p e a g st) = let n : x.number ≡ number_in k = ap (λ z. z.number) e in cond-false _ _ _ (ne_eqb x.number t (λ q. omega arith)) ∙ find-below t (omega arith) st

  pub change-below : {lo : ℕ} {ks : List (Channel S)} {xs : List (ServerChannel S)} (t : ℕ) (f : ServerChannel S → ServerChannel S) → t < lo → Stand up Good lo ks xs → change number_at t f xs ≡ xs
  unfolding change
  change-below t f l none = refl
  change-below t f l (past {x = x} h a g st) = λ i. cond-false _ (f x) x (ne_eqb x.number t (λ e. omega arith)) i ∷ change-below t f (omega arith) st i
  change-below t f l (held {k = k} {x = x} p e a g st) = let n : x.number ≡ number_in k = ap (λ z. z.number) e in λ i. cond-false _ (f x) x (ne_eqb x.number t (λ q. omega arith)) i ∷ change-below t f (omega arith) st i

  pub low : {lo : ℕ} {ks : List (Channel S)} {xs : List (ServerChannel S)} (d : Channel S) (i : ℕ) → i < length ks → Stand up Good lo ks xs → lo ≤ number_in (get_or ks i d)
  low d i l none = absurd (omega arith)
  low d i l (past h a g st) = let z = low d i l st in omega arith
  low d zero l (held p e a g st) = a
  low d (suc i) l (held p e a g st) = let z = low d i (omega arith) st in omega arith

  -- one that is held is found, with its past
  pub found : {lo : ℕ} {ks : List (Channel S)} {xs : List (ServerChannel S)} (d : Channel S) (i : ℕ) → i < length ks → Stand up Good lo ks xs → (p : Past S) × (find number_at (number_in (get_or ks i d)) xs ≡ Some (whole up (get_or ks i d) p))
  unfolding find
  found d i l none = absurd (omega arith)
  found {ks = ks} d i l (past {x = x} h a g st) = let z = low d i l st in let r = found d i l st in (r.0, cond-false _ _ _ (ne_eqb x.number (number_in (get_or ks i d)) (λ q. omega arith)) ∙ r.1)
  found d zero l (held {k = k} {x = x} p e a g st) = (p, cond-true _ _ _ (eq-eqb x.number (number_in k) (ap (λ z. z.number) e)) ∙ ap Some e)
  found d (suc i) l (held {k = k} {ks = ks} {x = x} p e a g st) = let n : x.number ≡ number_in k = ap (λ z. z.number) e in let z = low d i (omega arith) st in let r = found d i (omega arith) st in (r.0, cond-false _ _ _ (ne_eqb x.number (number_in (get_or ks i d)) (λ q. omega arith)) ∙ r.1)

  -- and may be changed
  pub put : {lo : ℕ} {ks : List (Channel S)} {xs : List (ServerChannel S)} (d : Channel S) (i : ℕ) (k' : Channel S) (p' : Past S) → i < length ks → number_in k' ≡ number_in (get_or ks i d) → Stand up Good lo ks xs → Stand up Good lo (set ks i k') (change number_at (number_in (get_or ks i d)) (λ _. whole up k' p') xs)
  unfolding change
  put d i k' p' l n none = absurd (omega arith)
  put {lo = lo} {ks = ks} d i k' p' l n (past {x = x} {xs = xs} h a g st) =
      let z = low d i l st in
      let e : cond (eqb x.number (number_in (get_or ks i d))) (whole up k' p') x ≡ x = cond-false _ _ _ (ne_eqb x.number (number_in (get_or ks i d)) (λ q. omega arith)) in
      subst (λ y. Stand up Good lo (set ks i k') (y ∷ change number_at (number_in (get_or ks i d)) (λ _. whole up k' p') xs)) (sym e) (past h a g (put d i k' p' l n st))
  put {lo = lo} d zero k' p' l n (held {k = k} {ks = ks} {x = x} {xs = xs} p e a g st) =
      let q : lo ≤ number_in k' = omega arith in
      let c : cond (eqb x.number (number_in k)) (whole up k' p') x ≡ whole up k' p' = cond-true _ _ _ (eq-eqb x.number (number_in k) (ap (λ z. z.number) e)) in
      let b : change number_at (number_in k) (λ _. whole up k' p') xs ≡ xs = change-below (number_in k) (λ _. whole up k' p') (omega arith) st in
      subst (λ ys. Stand up Good lo (k' ∷ ks) ys) (λ i. sym c i ∷ sym b i) (held p' refl q (subst Good (sym n) g) (subst (λ m. Stand up Good (suc m) ks xs) (sym n) st))
  put {lo = lo} d (suc i) k' p' l n (held {k = k} {ks = ks} {x = x} {xs = xs} p e a g st) =
      let z = low d i (omega arith) st in
      let w : x.number ≡ number_in k = ap (λ z. z.number) e in
      let c : cond (eqb x.number (number_in (get_or ks i d))) (whole up k' p') x ≡ x = cond-false _ _ _ (ne_eqb x.number (number_in (get_or ks i d)) (λ q. omega arith)) in
      subst (λ y. Stand up Good lo (k ∷ set ks i k') (y ∷ change number_at (number_in (get_or ks i d)) (λ _. whole up k' p') xs)) (sym c) (held p e a g (put d i k' p' (omega arith) n st))

  -- or forgotten
  pub removed : {lo : ℕ} {ks : List (Channel S)} {xs : List (ServerChannel S)} (d : Channel S) (i : ℕ) (y : ServerChannel S) → i < length ks → y.number ≡ number_in (get_or ks i d) → y.forgotten ≡ true → Stand up Good lo ks xs → Stand up Good lo (take i ks ++ drop (suc i) ks) (change number_at (number_in (get_or ks i d)) (λ _. y) xs)
  unfolding change
  removed d i y l n f none = absurd (omega arith)
  removed {lo = lo} {ks = ks} d i y l n f (past {x = x} {xs = xs} h a g st) =
      let z = low d i l st in
      let e : cond (eqb x.number (number_in (get_or ks i d))) y x ≡ x = cond-false _ _ _ (ne_eqb x.number (number_in (get_or ks i d)) (λ q. omega arith)) in
      subst (λ w. Stand up Good lo (take i ks ++ drop (suc i) ks) (w ∷ change number_at (number_in (get_or ks i d)) (λ _. y) xs)) (sym e) (past h a g (removed d i y l n f st))
  removed {lo = lo} d zero y l n f (held {k = k} {ks = ks} {x = x} {xs = xs} p e a g st) =
      let q : lo ≤ y.number = omega arith in
      let c : cond (eqb x.number (number_in k)) y x ≡ y = cond-true _ _ _ (eq-eqb x.number (number_in k) (ap (λ z. z.number) e)) in
      let b : change number_at (number_in k) (λ _. y) xs ≡ xs = change-below (number_in k) (λ _. y) (omega arith) st in
      subst (λ ys. Stand up Good lo ks ys) (λ i. sym c i ∷ sym b i) (past f q (subst Good (sym n) g) (subst (λ m. Stand up Good (suc m) ks xs) (sym n) st))
  removed {lo = lo} d (suc i) y l n f (held {k = k} {ks = ks} {x = x} {xs = xs} p e a g st) =
      let z = low d i (omega arith) st in
      let w : x.number ≡ number_in k = ap (λ z. z.number) e in
      let c : cond (eqb x.number (number_in (get_or ks i d))) y x ≡ x = cond-false _ _ _ (ne_eqb x.number (number_in (get_or ks i d)) (λ q. omega arith)) in
      subst (λ v. Stand up Good lo (k ∷ (take i ks ++ drop (suc i) ks)) (v ∷ change number_at (number_in (get_or ks i d)) (λ _. y) xs)) (sym c) (held p e a g (removed d i y (omega arith) n f st))

  -- one that is not held is either unknown, or forgotten
  pub missing : {lo : ℕ} {ks : List (Channel S)} {xs : List (ServerChannel S)} (t : ℕ) → ((j : ℕ) (d : Channel S) → j < length ks → number_in (get_or ks j d) ≡ t → ⊥) → Stand up Good lo ks xs →
      (find number_at t xs ≡ None) ⊎ ((x : ServerChannel S) × (find number_at t xs ≡ Some x) × (x.forgotten ≡ true) × Good t × (change number_at t (λ _. x) xs ≡ xs))
  unfolding find change
  missing t no_one none = inl refl
  missing t no_one (past {x = x} {xs = xs} h a g st) = ⊎_elim
      (λ e. inr (x, cond-true _ _ _ (eq-eqb x.number t e), h, subst Good e g, λ i. both (eqb x.number t) x i ∷ change-below t (λ _. x) (omega arith) st i))
      (λ e. ⊎_elim
      (λ r. inl (cond-false _ _ _ (ne_eqb x.number t e) ∙ r))
      (λ r. inr (r.0, cond-false _ _ _ (ne_eqb x.number t e) ∙ r.1, r.2, r.3, λ i. cond-false _ r.0 x (ne_eqb x.number t e) i ∷ r.4 i))
      (missing t no_one st))
      (cases_eq x.number t)
    where
      both : (b : Bool) (y : ServerChannel S) → cond b y y ≡ y
      both true y = refl
      both false y = refl
  missing t no_one (held {k = k} {ks = ks} {x = x} {xs = xs} p e a g st) =
      let w : x.number ≡ number_in k = ap (λ z. z.number) e in
      let n : x.number ≡ t → ⊥ = λ q. no_one 0 k (omega arith) (sym w ∙ q) in
      ⊎_elim
      (λ r. inl (cond-false _ _ _ (ne_eqb x.number t n) ∙ r))
      (λ r. inr (r.0, cond-false _ _ _ (ne_eqb x.number t n) ∙ r.1, r.2, r.3, λ i. cond-false _ r.0 x (ne_eqb x.number t n) i ∷ r.4 i))
      (missing t (λ j d l. no_one (suc j) d (omega arith)) st)

  pub counted : {lo : ℕ} {ks : List (Channel S)} {xs : List (ServerChannel S)} → Stand up Good lo ks xs → count is_kept xs ≡ length ks
  unfolding count
  counted none = refl
  counted (past {ks = ks} {x = x} {xs = xs} h a g st) = let c : cond {A = ℕ} (is_kept x) 1 0 ≡ 0 = ap (λ b. cond {A = ℕ} (not b) 1 0) h in let r : count is_kept xs ≡ length ks = counted st in omega arith
  counted (held {ks = ks} {x = x} {xs = xs} p e a g st) = let c : cond {A = ℕ} (is_kept x) 1 0 ≡ 1 = ap (λ z. cond {A = ℕ} (is_kept z) 1 0) e in let r : count is_kept xs ≡ length ks = counted st in omega arith

  pub all-over : {lo : ℕ} {ks : List (Channel S)} {xs : List (ServerChannel S)} → Stand up Good lo ks xs → every is_over xs ≡ list_all has_ended ks
  unfolding every
  all-over none = refl
  all-over (past {x = x} h a g st) = (λ i. not (not (h i || is_some x.exit)) && all-over st i)
  all-over (held {k = k} {ks = ks} p e a g st) = (λ i. is_over (e i) && all-over st i) ∙ ap (λ b. b && list_all has_ended ks) (over-life k.life)

  pub all-forgot : {lo : ℕ} {ks : List (Channel S)} {xs : List (ServerChannel S)} → Stand up Good lo ks xs → Stand up Good lo [] (each forgot xs)
  unfolding each
  all-forgot none = none
  all-forgot (past h a g st) = past refl a g (all-forgot st)
  all-forgot {lo = lo} (held {k = k} {x = x} {xs = xs} p e a g st) =
      let w : x.number ≡ number_in k = ap (λ z. z.number) e in
      let q : lo ≤ x.number = omega arith in
      past refl q (subst Good (sym w) g) (subst (λ m. Stand up Good (suc m) [] (each forgot xs)) (sym w) (all-forgot st))

module _ {S : Type 0} {up : Bool} {Good Better : ℕ → Type 0} where
  pub widened : {lo : ℕ} {ks : List (Channel S)} {xs : List (ServerChannel S)} → ((n : ℕ) → Good n → Better n) → Stand up Good lo ks xs → Stand up Better lo ks xs
  widened w none = none
  widened w (past {x = x} h a g st) = past h a (w x.number g) (widened w st)
  widened w (held {k = k} p e a g st) = held p e a (w (number_in k) g) (widened w st)

  -- one more, with a number above all
  pub added : {lo : ℕ} {ks : List (Channel S)} {xs : List (ServerChannel S)} (k : Channel S) (p : Past S) → ((n : ℕ) → Good n → Better n) → ((n : ℕ) → Good n → n < number_in k) → lo ≤ number_in k → Better (number_in k) → Stand up Good lo ks xs → Stand up Better lo (ks ++ k ∷ []) (xs ++ whole up k p ∷ [])
  added k p w u l b none = held p refl l b none
  added k p w u l b (past {x = x} h a g st) = past h a (w x.number g) (added k p w u (u x.number g) b st)
  added k p w u l b (held {k = j} q e a g st) = held q e a (w (number_in j) g) (added k p w u (u (number_in j) g) b st)

module _ {S : Type 0} {Good : ℕ → Type 0} where
  -- when the server goes down
  pub cut-down : {lo : ℕ} {ks : List (Channel S)} {xs : List (ServerChannel S)} → Stand true Good lo ks xs → Stand false Good lo ks xs
  cut-down none = none
  cut-down (past h a g st) = past h a g (cut-down st)
  cut-down (held {k = k} p e a g st) = held (cut_past k p) e a g (cut-down st)
