-- What a disk leaves that crashes at a chosen write.
use Rattle.std.proofs.Common.{◌≡◌, ℕ, suc, ◌-◌, ◌<◌, Bool, true, false, cond, List, replicate, sym, ap, ◌∙◌, inl, inr, ⊎_elim, arith}
use Rattle.record.specs.Records.{decode}
use Rattle.record.proofs.Coding.{fresh}
use Rattle.disk.specs.Disks.{Blocks, Meaning, Torn, Written, Wrote}
use Rattle.disk.specs.Failures.{failing_wrote, failed_at, torn}
use Rattle.disk.specs.declared.failing.Failing.{Failing}

module _ {D : Type 0} (m : Meaning D) (s : Failing D) (b : ℕ) (x : List ℕ) where
  pub f-down : s.up ≡ false → s ≡ failing_wrote m s b x
  unfolding failing_wrote
  f-down e = sym (ap (λ (u : Bool). cond u (failed_at m s.left s b x) s) e)

  pub f-up : s.up ≡ true → (n : ℕ) → s.left ≡ n → failed_at m n s b x ≡ failing_wrote m s b x
  unfolding failing_wrote
  f-up e n l = sym (ap (λ (u : Bool). cond u (failed_at m s.left s b x) s) e ∙ ap (λ (k : ℕ). failed_at m k s b x) l)

  pub f-more : (d : D) (u : Bool) → s.up ≡ true → 0 < s.left → d ≡ m.wrote s.disk b x → u ≡ m.up d
      → record { disk = d; left = s.left - 1; leaves = s.leaves; up = u } ≡ failing_wrote m s b x
  f-more d u e h q v =
      let l : s.left ≡ suc (s.left - 1) = omega arith in
      let w : u ≡ m.up (m.wrote s.disk b x) = v ∙ ap m.up q in
      let a : record { disk = d; left = s.left - 1; leaves = s.leaves; up = u } ≡ failed_at m (suc (s.left - 1)) s b x =
      λ i. record { disk = q i; left = s.left - 1; leaves = s.leaves; up = w i } in
      a ∙ f-up e (suc (s.left - 1)) l

  pub f-last : (d : D) → s.up ≡ true → s.left ≡ 0 → d ≡ torn m s.leaves s.disk b x
      → record { disk = d; left = s.left; leaves = s.leaves; up = false } ≡ failing_wrote m s b x
  f-last d e l q =
      let a : record { disk = d; left = s.left; leaves = s.leaves; up = false } ≡ failed_at m 0 s b x =
      λ i. record { disk = q i; left = l i; leaves = s.leaves; up = false } in
      a ∙ f-up e 0 l

-- a whole write is one that a crash may leave
written-torn : (v : Bool) (old new y : List ℕ) → Written v old new y → Torn old new y
written-torn true old new y e = inr (inl e)
written-torn false old new y e = e

zeros-torn : (v : Bool) (old new y : List ℕ) → Written v old (replicate 512 0) y → Torn old new y
zeros-torn true old new y e = inr (inr (ap decode e ∙ fresh))
zeros-torn false old new y e = ⊎_elim (λ o. inl o) (⊎_elim (λ z. inr (inr (ap decode z ∙ fresh))) (λ n. inr (inr n))) e

pub crash-new : (f g : Blocks) (b : ℕ) (x : List ℕ) (v : Bool) → Wrote f b x v g → Wrote f b x false g
crash-new f g b x v w = record { here = written-torn v (f b) x (g b) w.here; others = w.others }

pub crash-zeros : (f g : Blocks) (b : ℕ) (x : List ℕ) (v : Bool) → Wrote f b (replicate 512 0) v g → Wrote f b x false g
crash-zeros f g b x v w = record { here = zeros-torn v (f b) x (g b) w.here; others = w.others }
