-- Which commands the model refuses, by what the value holds.
use Rattle.std.proofs.Common.{◌≡◌, ℕ, ◌+◌, ◌<◌, Bool, true, false, not, ◌||◌, ltb, leb, List, ◌++◌, length, get_or, Some, None, sym, ap, ◌∙◌, subst, inl, inr, arith}
use Rattle.std.proofs.lemmas.List.{length-append}
use Rattle.std.proofs.lemmas.Bool.Decides.{nat_tests}
use Rattle.model.specs.Keyed.{find, above, numbers, count}
use Rattle.model.specs.Messages.{real}
use Rattle.model.specs.Client.{Client, number_of, is_held, channel_at, LogIn, Start, Enter, Finish, Take, BadNumber, TooManyHeld, NotHeld, AfterEof, TooMuch, Down, unless, refusal, found_held, found_full, bad_number, held_count}
use Rattle.client_channel.specs.Kept.{Kept}
use Rattle.client.specs.View.{View}
use Rattle.client.specs.Stand.{whole, StandsFor, busy}
use Rattle.client.proofs.Standing.{Focus, focus, Absent, absent, count-stand, whole-held}
use Rattle.client.proofs.Moves.{idle, settled}

module _ (v : View) (w : Client) (s : StandsFor v w) (b : busy v ≡ false) (a : ℕ → ℕ → List ℕ → Bool) (m : ℕ → ℕ → Bool) where
  all-is : w.channels ≡ s.all
  all-is = ap (λ (x : Client). x.channels) (settled v w s (idle v b).turn)

  pub absent-at : (t : ℕ) → ((i : ℕ) (d : Kept) → i < length v.kepts → (get_or v.kepts i d).number ≡ t → ⊥) → Absent t w.channels
  absent-at t h = subst (Absent t) (sym all-is) (absent s.stand t h)

  not_found : (t : ℕ) → Absent t w.channels → found_held (channel_at t w) ≡ false
  not_found t (inl x) = ap found_held x.0
  not_found t (inr x) = ap found_held x.1 ∙ x.2

  module _ (t : ℕ) (h : (i : ℕ) (d : Kept) → i < length v.kepts → (get_or v.kepts i d).number ≡ t → ⊥) where
    pub enter-absent : (bs : List ℕ) → refusal (real a m) (Enter t bs) w ≡ Some NotHeld
    enter-absent bs = rw (not_found t (absent-at t h))

    pub finish-absent : refusal (real a m) (Finish t) w ≡ Some NotHeld
    finish-absent = rw (not_found t (absent-at t h))

    pub take-absent : (n : ℕ) → refusal (real a m) (Take t n) w ≡ Some NotHeld
    take-absent n = rw (not_found t (absent-at t h))

  module _ (i : ℕ) (d : Kept) (l : i < length v.kepts) where
    abbrev k : Kept
    k = get_or v.kepts i d

    abbrev o : Focus v.kepts s.all i (get_or v.kepts i d)
    o = focus s.stand i d l

    pub found_at : channel_at k.number w ≡ Some (whole k o.command o.went o.taken)
    found_at = ap (find number_of k.number) all-is ∙ o.found

    held_at : found_held (channel_at k.number w) ≡ true
    held_at = ap found_held found_at ∙ whole-held k.running

    pub enter-at : (bs : List ℕ) → refusal (real a m) (Enter k.number bs) w ≡ unless (not v.up) Down (unless k.eof AfterEof (unless (ltb 16384 (length k.waiting + length bs)) TooMuch None))
    enter-at bs =
        let f : found_full (real a m) (length bs) (channel_at k.number w) ≡ ltb 16384 (length k.waiting + length bs) =
        ap (found_full (real a m) (length bs)) found_at ∙ (let e = length-append o.went k.waiting in let z : ltb (length o.went + 16384) (length (o.went ++ k.waiting) + length bs) ≡ ltb 16384 (length k.waiting + length bs) = grind (arith, nat_tests) in z) in
        rw (held_at, s.up, f, found_at)

    pub finish-at : refusal (real a m) (Finish k.number) w ≡ unless (not v.up) Down (unless k.eof AfterEof None)
    finish-at = rw (held_at, s.up, found_at)

    pub take_at : (n : ℕ) → refusal (real a m) (Take k.number n) w ≡ None
    take_at n = rw held_at

  pub login-is : (x : ℕ) (p : List ℕ) → refusal (real a m) (LogIn x p) w ≡ unless (not v.up) Down None
  login-is x p = rw s.up

  pub start_is : (t c : ℕ) → refusal (real a m) (Start t c) w ≡ unless (not (leb v.next t) || ltb 65535 t) BadNumber (unless (not (ltb (length v.kepts) 16)) TooManyHeld (unless (not v.up) Down None))
  start_is t c =
      let n : bad_number (real a m) t w ≡ (not (leb v.next t) || ltb 65535 t) = ap (λ z. not (above t (numbers number_of z)) || ltb 65535 t) all-is ∙ ap (λ z. not z || ltb 65535 t) (s.least t) in
      let h : held_count w ≡ length v.kepts = ap (λ z. count is_held z) all-is ∙ count-stand s.stand in
      rw (n, h, s.up)
