-- What a program did is what its own turns give. Assumes nothing.
use Rattle.std.proofs.Common.{◌≡◌, ℕ, zero, suc, ◌+◌, ◌≤◌, Bool, true, false, cond, eqb, List, [], ◌∷◌, ◌++◌, length, take, drop, Some, None, sym, refl, ap, ◌∙◌, subst, subst₂, inl, inr, append-nil, arith, length-take, take-add}
use mathlib.Core.List.Memᴰ
use lib.Seq.{take-append-le}
use Rattle.std.proofs.lemmas.Bool.{not_from_false}
use Rattle.model.specs.Messages.{Rules, Programs}
use Rattle.model.specs.Server.{ServerChannel, is_live, sent_back, sent_kept, portion, channel_of}
use Rattle.model.specs.World.{Event, Turn, after}
use Rattle.model.specs.History.{comes_up, IsIdle, Ran, began, still, read, wrote, went_on, ended, broke, drained, found_eof}
use Rattle.model.specs.Promises.{AtServer, RanByItself}
use Rattle.model.proofs.Turns.{Waits, starved, blocked, Hears, dropped, input, credit, eof, close, Acts, waits, reads, writes, goes_on, ends, breaks, Takes, whole, counts, runs_out}
use Rattle.model.proofs.Origin.{takes-number, Comes, old, new, heard, turned, Origin, left, sent, forgot-all, waiting, origin}
use Rattle.model.proofs.Sound.{live, over, sound, no-exit}

-- what is read next, behind what was read
take-portion : (k n : ℕ) (xs : List ℕ) → take (n + length (take k (drop n xs))) xs ≡ take n xs ++ take k (drop n xs)
take-portion k n xs = take-add n (length (take k (drop n xs))) xs ∙ ap (λ ys. take n xs ++ ys) (again k (drop n xs))
  where
    again : (k : ℕ) (ys : List ℕ) → take (length (take k ys)) ys ≡ take k ys
    again zero ys = refl
    again (suc k) [] = refl
    again (suc k) (y ∷ ys) = ap (λ zs. y ∷ zs) (again k ys)

module _ {S E : Type 0} (r : Rules) (p : Programs S E) (e : E) where
  abbrev pub Did : List Event → ServerChannel S → Type 0
  Did vs x = Ran r p e x.number vs x.command (take x.read x.input) x.wrote x.state x.exit

  hears-ran : {vs : List Event} {x y : ServerChannel S} → Hears x y → x.read ≤ length x.input → Did vs x → Did vs y
  hears-ran dropped l h = h
  hears-ran {vs} {x} (input bs a b) l h = subst (λ rd. Ran r p e x.number vs x.command rd x.wrote x.state x.exit) (sym (take-append-le x.read x.input bs l)) h
  hears-ran (credit n a) l h = h
  hears-ran (eof a b) l h = h
  hears-ran (close a b) l h = h

  acts-ran : {up : Bool} (vs : List Event) {x y : ServerChannel S} → Acts r p up (after r p e vs).server.env x y → (after r p e vs).server.up ≡ up → channel_of x.number (after r p e vs).server ≡ Some x → x.exit ≡ None → Did vs x → Did (Turn x.number ∷ vs) y
  acts-ran {up} vs {x} {y} a u f n h = go a
    where
      ran : Ran r p e x.number vs x.command (take x.read x.input) x.wrote x.state None
      ran = subst (λ o. Ran r p e x.number vs x.command (take x.read x.input) x.wrote x.state o) n h

      -- with the exit as it was
      at : {rd wr : List ℕ} {s : S} → Ran r p e x.number (Turn x.number ∷ vs) x.command rd wr s None → Ran r p e x.number (Turn x.number ∷ vs) x.command rd wr s x.exit
      at {rd} {wr} {s} k = subst (λ o. Ran r p e x.number (Turn x.number ∷ vs) x.command rd wr s o) (sym n) k

      wait : Waits r p up (after r p e vs).server.env x → IsIdle r (after r p e vs).server.up x (p.does (after r p e vs).server.env x.state)
      wait (starved k a b c d) = subst (IsIdle r (after r p e vs).server.up x) (sym a) (b, c, d)
      wait (blocked bs a b c d) = subst (IsIdle r (after r p e vs).server.up x) (sym a) (b, u ∙ c, d)

      go : {y : ServerChannel S} → Acts r p up (after r p e vs).server.env x y → Did (Turn x.number ∷ vs) y
      go (waits w) = still refl (λ _. inr (x, f, wait w)) h
      go (reads k a b c) =
          let l : length (portion k x) ≤ k = simp length-take (omega arith) in
          subst (λ rd. Ran r p e x.number (Turn x.number ∷ vs) x.command rd x.wrote (p.next (after r p e vs).server.env x.state (portion k x) (eqb (length (portion k x)) 0)) x.exit)
          (sym (take-portion k x.read x.input)) (at (read k (portion k x) ran a b l (λ z. ap found_eof f ∙ c z)))
      go (writes bs a b c) = at (wrote bs ran a b)
      go (goes_on a) =
          subst (λ wr. Ran r p e x.number (Turn x.number ∷ vs) x.command (take x.read x.input) wr (p.next (after r p e vs).server.env x.state [] false) x.exit) (sym (append-nil x.wrote)) (at (went_on ran a))
      go (ends m a b) = ended m ran a b
      go (breaks a) = broke ran a

  takes-ran : (vs : List Event) {x : ServerChannel S} {up : Bool} {y : ServerChannel S} → Takes r p (after r p e vs).server.env x up y → (after r p e vs).server.up ≡ up → channel_of x.number (after r p e vs).server ≡ Some x → x.exit ≡ None → Did vs x → y.number ≡ x.number → Did (Turn x.number ∷ vs) y
  takes-ran vs (whole a) u f n h k = acts-ran vs a u f n h
  takes-ran vs (counts a b) u f n h k = acts-ran vs a u f n h
  takes-ran vs {x} (runs_out {y} a b) u f n h k =
      let g = acts-ran vs a u f n h in
      subst (λ t. Ran r p e t (Turn x.number ∷ vs) y.command (take y.read y.input) y.wrote y.state (Some 255)) (sym k)
      (drained u (subst₂ (λ t o. Ran r p e t (Turn x.number ∷ vs) y.command (take y.read y.input) y.wrote y.state o) k (no-exit y.exit b) g))

  module _ (vs : List Event) (was : (x : ServerChannel S) → AtServer x (after r p e vs) → Did vs x) where
    old-ran : {v : Event} (x : ServerChannel S) → comes_up v (after r p e vs) ≡ false → AtServer x (after r p e vs) → (v ≡ Turn x.number → is_live x ≡ false) → Did (v ∷ vs) x
    old-ran x c a b = still c (λ k. inl (over x (sound r p e vs x a) (not_from_false (is_live x) (b k)))) (was x a)

    comes-ran : {v : Event} {x : ServerChannel S} → Comes r p (after r p e vs) v x → comes_up v (after r p e vs) ≡ false → Did (v ∷ vs) x
    comes-ran (old {x = x} a b) s = old-ran x s a b
    comes-ran (new t k ms u a b c d) s = began k ms a b
    comes-ran (heard {x = x} a b) s = hears-ran b (sound r p e vs x a).reads (still s (λ k. absurd (let z : ◌≡◌ {A = ℕ} 0 1 = cc in omega arith)) (was x a))
    comes-ran (turned {x = x} a b c d) s = takes-ran vs d refl b (live x c).1 (was x a) (takes-number r p d)

    sent-ran : {v : Event} (x : ServerChannel S) → Did (v ∷ vs) x → Did (v ∷ vs) (sent_back x)
    sent-ran {v} x h = go x.forgotten
      where
        go : (b : Bool) → Did (v ∷ vs) (cond b x (sent_kept x))
        go true = h
        go false = h

    origin-ran : {v : Event} {up : Bool} {x : ServerChannel S} → Origin r p (after r p e vs) v up x → comes_up v (after r p e vs) ≡ false → Did (v ∷ vs) x
    origin-ran (left {x = x} a b c) s = old-ran x s b c
    origin-ran (sent {x = x} a b c) s = sent-ran x (comes-ran c s)
    origin-ran (forgot-all a b c) s = comes-ran c s
    origin-ran (waiting a b) s = comes-ran b s

module _ {S E : Type 0} where
  pub ran-by-itself : RanByItself S E
  unfolding after
  ran-by-itself r p e [] f m = absurd (Memᴰ.not-nil m)
  ran-by-itself r p e (v ∷ vs) f m = let (s, o) = origin r p e v vs f m in origin-ran r p e vs (ran-by-itself r p e vs) o s
