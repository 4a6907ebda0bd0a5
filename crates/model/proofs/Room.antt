-- While the server is up no more of a channel's output waits than a part. Assumes nothing.
use Rattle.std.proofs.Common.{◌≡◌, ℕ, ◌+◌, ◌-◌, ◌≤◌, min, Bool, true, false, cond, ltb, List, [], ◌∷◌, ◌++◌, length, sym, refl, ◌∙◌, arith, length-append, length-drop, length-take}
use mathlib.Core.List.Memᴰ
use Rattle.std.proofs.lemmas.Bool.{and_parts, leb-true, both_ways}
use Rattle.model.specs.Messages.{Rules, Programs}
use Rattle.model.specs.Server.{ServerChannel, is_live, sent_back, sent_kept, goes_back}
use Rattle.model.specs.World.{World, Event, after}
use Rattle.model.specs.Promises.{AtServer}
use Rattle.model.proofs.Turns.{Hears, dropped, input, credit, eof, close, Acts, waits, reads, writes, goes_on, ends, breaks, Takes, whole, counts, runs_out}
use Rattle.model.proofs.Origin.{Comes, old, new, heard, turned, Origin, left, sent, forgot-all, waiting, origin}
use Rattle.model.proofs.Sound.{live}

-- before the server sends by itself: n bytes were written
pub record Before (part n sent may : ℕ) (forgotten : Bool) : Type 0 where
  pub within : sent ≤ n
  pub far : n ≤ may + part
  pub kept : forgotten ≡ true → n ≤ sent + part

module _ {S : Type 0} where
  abbrev Mid : ℕ → ServerChannel S → Type 0
  Mid part x = Before part (length x.wrote) x.sent x.may x.forgotten

  -- and then
  abbrev pub InRoom : ℕ → ServerChannel S → Type 0
  InRoom part x = (x.sent ≤ length x.wrote) × (length x.wrote ≤ x.may + part) × (length x.wrote ≤ x.sent + part)

  to-mid : {part : ℕ} (x : ServerChannel S) → InRoom part x → Mid part x
  to-mid x h = record { within = h.0; far = h.1; kept = λ _. h.2 }

  hears-room : {part : ℕ} {x y : ServerChannel S} → Hears x y → InRoom part x → Mid part y
  hears-room {x = x} dropped h = to-mid x h
  hears-room {x = x} (input bs a b) h = to-mid x h
  hears-room (credit n a) h = record { within = h.0; far = omega arith; kept = λ _. h.2 }
  hears-room {x = x} (eof a b) h = to-mid x h
  hears-room (close a b) h = record { within = h.0; far = h.1; kept = λ _. h.2 }

  sent-room : {part : ℕ} (x : ServerChannel S) → Mid part x → InRoom part (sent_back x)
  sent-room {part} x h = go x.forgotten refl
    where
      go : (b : Bool) → x.forgotten ≡ b → InRoom part (cond b x (sent_kept x))
      go true e = (h.within, h.far, h.kept e)
      go false e =
          let a : length (goes_back x) ≡ min (x.may - x.sent) (length x.wrote - x.sent) = simp (length-take, length-drop) in
          (omega (arith, h.within), h.far, omega (arith, h.within, h.far))

module _ {S E : Type 0} (r : Rules) (p : Programs S E) where
  more_room : (x : ServerChannel S) (bs : List ℕ) → length bs ≤ r.part → length x.wrote ≤ x.may → x.forgotten ≡ false → InRoom r.part x → Before r.part (length (x.wrote ++ bs)) x.sent x.may x.forgotten
  more_room x bs a b c h =
      let d = length-append x.wrote bs in
      record { within = omega arith; far = omega arith; kept = λ e. absurd (both_ways x.forgotten c e) }

  acts-room : {e : E} {x y : ServerChannel S} → Acts r p true e x y → is_live x ≡ true → InRoom r.part x → Mid r.part y
  acts-room {x = x} (waits w) l h = to-mid x h
  acts-room {x = x} (reads k a b c) l h = to-mid x h
  acts-room {x = x} (writes bs a b c) l h = more_room x bs (leb-true (length bs) r.part (and_parts (ltb 0 (length bs)) _ b).1) (c refl) (live x l).0 h
  acts-room {x = x} (goes_on a) l h = let d = length-append x.wrote [] in record { within = omega arith; far = omega arith; kept = λ _. omega arith }
  acts-room {x = x} (ends n a b) l h = to-mid x h
  acts-room {x = x} (breaks a) l h = to-mid x h

  takes-room : {e : E} {x : ServerChannel S} {up : Bool} {y : ServerChannel S} → Takes r p e x up y → up ≡ true → is_live x ≡ true → InRoom r.part x → Mid r.part y
  takes-room (whole a) u l h = acts-room a l h
  takes-room (counts a b) u l h = absurd (both_ways false refl u)
  takes-room (runs_out a b) u l h = absurd (both_ways false refl u)

  module _ (w : World S E) (was : (x : ServerChannel S) → AtServer x w → w.server.up ≡ true → InRoom r.part x) where
    comes-room : {v : Event} {x : ServerChannel S} → Comes r p w v x → w.server.up ≡ true → Mid r.part x
    comes-room (old {x = x} a b) u = to-mid x (was x a u)
    comes-room (new t k ms o a b c d) u = record { within = omega arith; far = omega arith; kept = λ _. omega arith }
    comes-room (heard {x = x} a b) u = hears-room b (was x a u)
    comes-room (turned {x = x} a b c d) u = takes-room d u c (was x a u)

    origin-room : {v : Event} {up : Bool} {x : ServerChannel S} → Origin r p w v up x → up ≡ true → InRoom r.part x
    origin-room (left {x = x} a b c) u = was x b (sym a ∙ u)
    origin-room (sent {x = x} a b c) u = sent-room x (comes-room c b)
    origin-room {up = up} (forgot-all a b c) u = absurd (both_ways up a u)
    origin-room {up = up} (waiting a b) u = absurd (both_ways up a u)

  pub in-room : (e : E) (vs : List Event) (x : ServerChannel S) → AtServer x (after r p e vs) → (after r p e vs).server.up ≡ true → InRoom r.part x
  unfolding after
  in-room e [] x m u = absurd (Memᴰ.not-nil m)
  in-room e (v ∷ vs) x m u = origin-room (after r p e vs) (in-room e vs) (origin r p e v vs x m).1 u

  -- the third part of what is said of windows
  pub output-waits : (e : E) (vs : List Event) (f : ServerChannel S) → AtServer f (after r p e vs) → (after r p e vs).server.up ≡ true → length f.wrote ≤ f.sent + r.part
  output-waits e vs f m u = (in-room e vs f m u).2
