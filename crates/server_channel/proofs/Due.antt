-- What goes of a channel by itself: the first of it, and the rest.
use Rattle.std.proofs.Common.{◌≡◌, ℕ, zero, suc, ◌+◌, ◌-◌, ◌<◌, ◌≤◌, min, Bool, true, false, cond, not, ◌&&◌, ◌||◌, eqb, ltb, List, [], ◌∷◌, ◌++◌, length, take, drop, Some, None, Option, sym, refl, ap, ◌∙◌, arith}
use Rattle.model.specs.Messages as model
use Rattle.model.specs.Messages.{parts}
use Rattle.model.specs.Server.{outputs, exit_reply}
use Rattle.std.proofs.lemmas.List.{drop-take, length-take, length-drop, drop-drop, take_min, drop_min}
use Rattle.std.proofs.lemmas.Bool.{and_right, eq-eqb, or_parts, ltb-false}
use Rattle.std.proofs.lemmas.Bool.Decides.{nat_tests}
use Rattle.server_channel.specs.declared.Life.{Life}
use Rattle.server_channel.specs.declared.Life.TheVariants.{Running, Ended}
use Rattle.server_channel.specs.declared.Channel.{Channel}
use Rattle.server_channel.specs.Kept.{kept, credit_of, said_of, goes, exit_due, due, settled, exit_of, is_running, exit_now, exit_now_in}

-- enough is enough
pub parts-enough : (m n p : ℕ) (xs : List ℕ) → length xs ≤ m → length xs ≤ n → parts m (suc p) xs ≡ parts n (suc p) xs
unfolding parts
parts-enough zero zero p xs a b = refl
parts-enough zero (suc n) p [] a b = refl
parts-enough zero (suc n) p (x ∷ xs) a b = absurd (omega arith)
parts-enough (suc m) zero p [] a b = refl
parts-enough (suc m) zero p (x ∷ xs) a b = absurd (omega arith)
parts-enough (suc m) (suc n) p [] a b = refl
parts-enough (suc m) (suc n) p (x ∷ xs) a b =
    let l : length (drop (suc p) (x ∷ xs)) ≡ suc (length xs) - suc p = length-drop (suc p) (x ∷ xs) in
    ap (λ ys. take (suc p) (x ∷ xs) ∷ ys) (parts-enough m n p (drop (suc p) (x ∷ xs)) (omega arith) (omega arith))

pub parts_first : (xs : List ℕ) → 0 < length xs → parts (length xs) 1024 xs ≡ take 1024 xs ∷ parts (length (drop 1024 xs)) 1024 (drop 1024 xs)
unfolding parts
parts_first [] h = absurd (omega arith)
parts_first (x ∷ xs) h = let l : length (drop 1024 (x ∷ xs)) ≡ suc (length xs) - 1024 = length-drop 1024 (x ∷ xs) in ap (λ ys. take 1024 (x ∷ xs) ∷ ys) (parts-enough (length xs) (length (drop 1024 (x ∷ xs))) 1023 (drop 1024 (x ∷ xs)) (omega arith) (omega arith))

pub parts_none : (xs : List ℕ) → length xs ≡ 0 → parts (length xs) 1024 xs ≡ []
unfolding parts
parts_none [] h = refl
parts_none (x ∷ xs) h = absurd (omega arith)

pub exit_reply-off : (o : Option ℕ) → exit_reply false o ≡ []
exit_reply-off None = refl
exit_reply-off (Some n) = refl

module _ {S : Type 0} where
  -- the channel after so many bytes went
  abbrev pub sent : ℕ → Channel S → Channel S
  sent c k = kept (credit_of (k.counts.credit - c) k.counts) k.life k.input (drop c k.output)

  pub length-goes : (k : Channel S) → length (goes k) ≡ min k.counts.credit (length k.output)
  length-goes k = length-take k.counts.credit k.output

  pub goes-sent : (c : ℕ) (k : Channel S) → c ≤ k.counts.credit → goes (sent c k) ≡ drop c (goes k)
  goes-sent c k h = let e : c + (k.counts.credit - c) ≡ k.counts.credit = omega arith in sym (drop-take c (k.counts.credit - c) k.output) ∙ ap (λ m. drop c (take m k.output)) e

  pub exit_due-sent : (c : ℕ) (k : Channel S) → c ≤ length (goes k) → exit_due (sent c k) ≡ exit_due k
  exit_due-sent c k h =
      let a = length-goes k in
      let b = length-goes (sent c k) in
      let d : length (drop c k.output) ≡ length k.output - c = length-drop c k.output in
      ap (λ t. t && not k.counts.said) (let q : eqb (length (goes (sent c k))) (length (drop c k.output)) ≡ eqb (length (goes k)) (length k.output) = grind (arith, nat_tests) in q)

  pub due-output : (k : Channel S) → 0 < length (goes k) → due k ≡ model.Output (take (min 1024 (length (goes k))) (goes k)) ∷ due (sent (min 1024 (length (goes k))) k)
  unfolding due outputs
  due-output k h =
      let a = length-goes k in
      let m : ℕ = min 1024 (length (goes k)) in
      let g : goes (sent m k) ≡ drop 1024 (goes k) = goes-sent m k (omega arith) ∙ drop_min 1024 (goes k) in
      ap (λ ps. outputs ps ++ exit_reply (exit_due k) (exit_of k.life)) (parts_first (goes k) h ∙ (λ i. sym (take_min 1024 (goes k)) i ∷ parts (length (sym g i)) 1024 (sym g i)))
      ∙ ap (λ b. model.Output (take m (goes k)) ∷ (outputs (parts (length (goes (sent m k))) 1024 (goes (sent m k))) ++ exit_reply b (exit_of k.life))) (sym (exit_due-sent m k (omega arith)))

  pub settled-sent : (c : ℕ) (k : Channel S) → c ≤ length (goes k) → settled k ≡ settled (sent c k)
  unfolding settled
  settled-sent c k h =
      let a = length-goes k in
      let b = length-goes (sent c k) in
      let d : length (drop c k.output) ≡ length k.output - c = length-drop c k.output in
      let x = exit_due-sent c k h in
      let n : k.counts.credit - length (goes k) ≡ k.counts.credit - c - length (goes (sent c k)) = omega arith in
      let e : c + length (goes (sent c k)) ≡ length (goes k) = omega arith in
      let u : drop (length (goes k)) k.output ≡ drop (length (goes (sent c k))) (drop c k.output) = ap (λ v. drop v k.output) (sym e) ∙ sym (drop-drop (length (goes (sent c k))) c k.output) in
      λ i. kept (said_of (k.counts.said || (sym x i && not (is_running k.life))) (credit_of (n i) k.counts)) k.life k.input (u i)

  pub due-none : (k : Channel S) → length (goes k) ≡ 0 → exit_reply (exit_due k) (exit_of k.life) ≡ [] → due k ≡ []
  unfolding due outputs
  due-none k h e = ap (λ ps. outputs ps ++ exit_reply (exit_due k) (exit_of k.life)) (parts_none (goes k) h) ∙ e

  pub exit-due : (k : Channel S) → length (goes k) ≡ 0 → length k.output ≡ 0 → k.counts.said ≡ false → exit_due k ≡ true
  exit-due k h u s = λ i. eq-eqb (length (goes k)) (length k.output) (h ∙ sym u) i && not (s i)

  -- an exit that was sent is not sent again
  pub told-off : (k : Channel S) → exit_reply (exit_due (kept (said_of true k.counts) k.life k.input k.output)) (exit_of k.life) ≡ []
  told-off k = ap (λ b. exit_reply b (exit_of k.life)) (and_right (eqb (length (goes k)) (length k.output)) false refl) ∙ exit_reply-off (exit_of k.life)

  pub due-exit : (k : Channel S) (n : ℕ) → length (goes k) ≡ 0 → length k.output ≡ 0 → k.counts.said ≡ false → k.life ≡ Ended n → due k ≡ model.Exit n ∷ due (kept (said_of true k.counts) k.life k.input k.output)
  unfolding due outputs
  due-exit k n h u s e =
      let x : exit_due k ≡ true = exit-due k h u s in
      ap (λ ps. outputs ps ++ exit_reply (exit_due k) (exit_of k.life)) (parts_none (goes k) h) ∙ ((λ i. exit_reply (x i) (exit_of (e i))) ∙ ap (λ ms. model.Exit n ∷ ms) (sym (due-none (kept (said_of true k.counts) k.life k.input k.output) h (told-off k))))

  pub settled-exit : (k : Channel S) (n : ℕ) → length (goes k) ≡ 0 → length k.output ≡ 0 → k.counts.said ≡ false → k.life ≡ Ended n → settled k ≡ settled (kept (said_of true k.counts) k.life k.input k.output)
  unfolding settled
  settled-exit k n h u s e =
      let x : exit_due k ≡ true = exit-due k h u s in
      λ i. kept (said_of (s i || (x i && not (is_running (e i)))) (credit_of (k.counts.credit - length (goes k)) k.counts)) k.life k.input (drop (length (goes k)) k.output)

  -- once no output goes, what is left is the exit
  no-exit : (k : Channel S) (l : Life S) → length (goes k) ≡ 0 → exit_now_in k l ≡ None → exit_reply (exit_due k) (exit_of l) ≡ []
  no-exit k (Running s) h e = refl
  no-exit k (Ended n) h e = go (k.counts.said || ltb 0 (length k.output)) refl e
    where
      go : (b : Bool) → (k.counts.said || ltb 0 (length k.output)) ≡ b → cond b None (Some n) ≡ None → exit_reply (exit_due k) (Some n) ≡ []
      go true f z = let q : exit_due k ≡ false = grind (arith, nat_tests) in ap (λ b. exit_reply b (Some n)) q
      go false f z = absurd cc

  pub due-over : (k : Channel S) → length (goes k) ≡ 0 → exit_now k ≡ None → due k ≡ []
  due-over k h e = due-none k h (no-exit k k.life h e)

  exits : (k : Channel S) (l : Life S) (n : ℕ) → exit_now_in k l ≡ Some n → (l ≡ Ended n) × (k.counts.said ≡ false) × (length k.output ≡ 0)
  exits k (Running s) n e = absurd cc
  exits k (Ended m) n e = go (k.counts.said || ltb 0 (length k.output)) refl e
    where
      go : (b : Bool) → (k.counts.said || ltb 0 (length k.output)) ≡ b → cond b None (Some m) ≡ Some n → (◌≡◌ {A = Life S} (Ended m) (Ended n)) × (k.counts.said ≡ false) × (length k.output ≡ 0)
      go true f z = absurd cc
      go false f z = let ps = or_parts k.counts.said (ltb 0 (length k.output)) f in let q : m ≡ n = cc in let w = ltb-false 0 (length k.output) ps.1 in (ap Ended q, ps.0, omega arith)

  pub due-exiting : (k : Channel S) (n : ℕ) → length (goes k) ≡ 0 → exit_now k ≡ Some n → (due k ≡ model.Exit n ∷ due (kept (said_of true k.counts) k.life k.input k.output)) × (settled k ≡ settled (kept (said_of true k.counts) k.life k.input k.output))
  due-exiting k n h e = let x = exits k k.life n e in (due-exit k n h x.2 x.1 x.0, settled-exit k n h x.2 x.1 x.0)

  pub handed : (k l : Channel S) (m : ℕ) (bs : List ℕ) → m ≡ min 1024 (length (goes k)) → 0 < length (goes k) → bs ≡ take m (goes k) → l ≡ sent m k → (due k ≡ model.Output bs ∷ due l) × (settled k ≡ settled l)
  handed k l m bs e h b s =
      let a : due k ≡ model.Output (take m (goes k)) ∷ due (sent m k) = due-output k h ∙ ap (λ v. model.Output (take v (goes k)) ∷ due (sent v k)) (sym e) in
      let d : settled k ≡ settled (sent m k) = settled-sent m k (omega arith) in
      (a ∙ (λ i. model.Output (sym b i) ∷ due (sym s i)), d ∙ ap settled (sym s))
