-- A channel of which nothing goes: it owes nothing, and is settled.
use Rattle.std.proofs.Common.{◌≡◌, ℕ, ◌-◌, Bool, true, false, cond, not, ◌&&◌, ◌||◌, eqb, ltb, [], length, drop, Some, None, Option, sym, refl, ap, ◌∙◌, arith}
use Rattle.model.specs.Messages as model
use Rattle.std.proofs.lemmas.Bool.{and_parts, eqb-true, eqb-false}
use Rattle.std.proofs.lemmas.Bool.Decides.{nat_tests}
use Rattle.server_channel.specs.declared.Life.{Life}
use Rattle.server_channel.specs.declared.Life.TheVariants.{Running, Ended}
use Rattle.server_channel.specs.declared.Channel.{Channel}
use Rattle.server_channel.specs.Kept.{kept, credit_of, said_of, goes, exit_due, due, settled, is_running, exit_now, exit_now_in, quiet}
use Rattle.server_channel.proofs.Due.{due-over, due-output, due-exiting}

none-there : (o : Option ℕ) → not (model.is_some o) ≡ true → o ≡ None
none-there None h = refl
none-there (Some n) h = absurd cc

some-there : (o : Option ℕ) → not (model.is_some o) ≡ false → (n : ℕ) × (o ≡ Some n)
some-there None h = absurd cc
some-there (Some n) h = (n, refl)

module _ {S : Type 0} where
  pub quiet-goes : (k : Channel S) → quiet k ≡ true → length (goes k) ≡ 0
  quiet-goes k h = eqb-true (length (goes k)) 0 (and_parts (eqb (length (goes k)) 0) (not (model.is_some (exit_now k))) h).0

  pub quiet-exit : (k : Channel S) → quiet k ≡ true → exit_now k ≡ None
  quiet-exit k h = none-there (exit_now k) (and_parts (eqb (length (goes k)) 0) (not (model.is_some (exit_now k))) h).1

  pub quiet-due : (k : Channel S) → quiet k ≡ true → due k ≡ []
  quiet-due k h = due-over k (quiet-goes k h) (quiet-exit k h)

  no-exit-said : (k : Channel S) (l : Life S) → length (goes k) ≡ 0 → exit_now_in k l ≡ None → (k.counts.said || (exit_due k && not (is_running l))) ≡ k.counts.said
  no-exit-said k (Running s) h e = grind (arith, nat_tests)
  no-exit-said k (Ended n) h e = go (k.counts.said || ltb 0 (length k.output)) refl e
    where
      go : (b : Bool) → (k.counts.said || ltb 0 (length k.output)) ≡ b → cond b None (Some n) ≡ None → (k.counts.said || (exit_due k && true)) ≡ k.counts.said
      go true f z = grind (arith, nat_tests)
      go false f z = absurd cc

  pub quiet-settled : (k : Channel S) → quiet k ≡ true → settled k ≡ k
  unfolding settled
  quiet-settled k h =
      let g = quiet-goes k h in
      let n : k.counts.credit - length (goes k) ≡ k.counts.credit = omega arith in
      let s = no-exit-said k k.life g (quiet-exit k h) in
      λ i. kept (said_of (s i) (credit_of (n i) k.counts)) k.life k.input (ap (λ v. drop v k.output) g i)

  pub loud-due : (k : Channel S) → quiet k ≡ false → due k ≡ [] → ⊥
  loud-due k h e = go (eqb (length (goes k)) 0) refl
    where
      go : (b : Bool) → eqb (length (goes k)) 0 ≡ b → ⊥
      go false q = let n = eqb-false (length (goes k)) 0 q in let d = due-output k (omega arith) in cc
      go true q = let o = some-there (exit_now k) (ap (λ b. b && not (model.is_some (exit_now k))) (sym q) ∙ h) in let d = due-exiting k o.0 (eqb-true (length (goes k)) 0 q) o.1 in let z = d.0 in cc
