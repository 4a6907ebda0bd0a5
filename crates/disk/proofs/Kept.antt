-- What a write in memory leaves.
use Rattle.std.proofs.Common.{◌≡◌, ℕ, ◌<◌, ◌≤◌, Bool, true, false, cond, ltb, List, length, get_or, set, replicate, vec_len, sym, refl, ap, ◌∙◌, subst, inl, ⊎_elim, arith}
use Rattle.std.specs.Vec.{with_item}
use Rattle.std.proofs.lemmas.List.{get_or-set_same, get_or-set_other, get_or-replicate, get_or_past, length-replicate}
use Rattle.std.proofs.lemmas.Bool.{lt-ltb, le-ltb, cases_lt}
use Rattle.disk.specs.Disks.{Blocks, Wrote}
use Rattle.disk.specs.Memories.{memory_wrote}
use Rattle.disk.specs.declared.memory.Memory.{Memory}

pub down-stays : (d : Memory) (b : ℕ) (x : List ℕ) → d.up ≡ false → d ≡ memory_wrote d b x
unfolding memory_wrote
down-stays d b x e =
    sym (ap (λ (u : Bool). cond u (cond (ltb b (vec_len d.blocks)) (record { blocks = with_item d.blocks b x; up = true }) (record { blocks = d.blocks; up = false })) d) e)

pub past_end : (d : Memory) (b : ℕ) (x : List ℕ) → d.up ≡ true → vec_len d.blocks ≤ b → record { blocks = d.blocks; up = false } ≡ memory_wrote d b x
unfolding memory_wrote
past_end d b x e h =
    let pick : Bool → Memory = λ v. cond v (record { blocks = with_item d.blocks b x; up = true }) (record { blocks = d.blocks; up = false }) in
    let choose : Bool → Memory = λ u. cond u (pick (ltb b (vec_len d.blocks))) d in
    sym (ap choose e ∙ ap pick (le-ltb b (vec_len d.blocks) h))

pub within : (d : Memory) (b : ℕ) (x : List ℕ) → d.up ≡ true → b < vec_len d.blocks → record { blocks = with_item d.blocks b x; up = d.up } ≡ memory_wrote d b x
unfolding memory_wrote
within d b x e h =
    let pick : Bool → Memory = λ v. cond v (record { blocks = with_item d.blocks b x; up = true }) (record { blocks = d.blocks; up = false }) in
    let choose : Bool → Memory = λ u. cond u (pick (ltb b (vec_len d.blocks))) d in
    let new : Bool → Memory = λ u. record { blocks = with_item d.blocks b x; up = u } in
    ap new e ∙ sym (ap choose e ∙ ap pick (lt-ltb b (vec_len d.blocks) h))

-- nothing was written, and the disk is down
pub none_written : (f : Blocks) (b : ℕ) (x : List ℕ) (u : Bool) → u ≡ false → Wrote f b x u f
none_written f b x u e = subst (λ (v : Bool). Wrote f b x v f) (sym e) (record { here = inl refl; others = λ a n. refl })

pub set-wrote : (xs : List (List ℕ)) (z : List ℕ) (b : ℕ) (x : List ℕ) (u : Bool) → u ≡ true → b < length xs → Wrote (λ a. get_or xs a z) b x u (λ a. get_or (set xs b x) a z)
set-wrote xs z b x u e h =
    subst (λ (v : Bool). Wrote (λ a. get_or xs a z) b x v (λ a. get_or (set xs b x) a z)) (sym e)
    (record { here = get_or-set_same xs b x z h; others = λ a n. get_or-set_other xs b a x z n })

pub all_same : (n b : ℕ) (z : List ℕ) → get_or (replicate n z) b z ≡ z
all_same n b z =
    ⊎_elim (λ h. get_or-replicate n b z z h) (λ h. get_or_past (replicate n z) b z (omega (arith, length-replicate n z))) (cases_lt b n)
