-- What a reply makes of a channel, in the model and in the value.
use Rattle.std.proofs.Common.{◌≡◌, ℕ, ◌+◌, ◌-◌, Bool, true, false, cond, ltb, List, ◌++◌, length, Some, None, Ok, Err, Option, Result, refl, arith}
use Rattle.std.proofs.lemmas.List.{length-append, append_assoc}
use Rattle.std.proofs.lemmas.Bool.Decides.{nat_tests}
use Rattle.model.specs.Messages.{real, Reply, Runs, Output, InputCredit, Exit, Fault, OutOfTurn, BeyondWindow, Uncountable, is_some}
use Rattle.model.specs.Client.{ClientChannel, answered, got_more, may_more, hear, hear_in, hear_asked, hear_running}
use Rattle.client_channel.specs.Kept.{Kept}
use Rattle.client_channel.specs.Steps.{got_of, may_of, exit_of, asked_of, running_of, hear_of}
use Rattle.client.specs.Stand.{phase_of, whole}

-- the channel that stays, with the same past; or the one that was refused
abbrev pub lifted : Kept → (c : ℕ) (g t : List ℕ) → Result (Option Kept) Fault → Result ClientChannel Fault
lifted k c g t (Ok None) = Ok (answered false (whole k c g t))
lifted k c g t (Ok (Some k')) = Ok (whole k' c g t)
lifted k c g t (Err f) = Err f

-- the number stays
abbrev pub SameNumber : Kept → Result (Option Kept) Fault → Type 0
SameNumber k (Ok None) = Unit {0}
SameNumber k (Ok (Some k')) = k'.number ≡ k.number
SameNumber k (Err f) = Unit {0}

module _ (a : ℕ → ℕ → List ℕ → Bool) (p : ℕ → ℕ → Bool) (k : Kept) (c : ℕ) (g t : List ℕ) where
  lift-cond : (b : Bool) (x y : Result (Option Kept) Fault) → lifted k c g t (cond b x y) ≡ cond b (lifted k c g t x) (lifted k c g t y)
  lift-cond true x y = refl
  lift-cond false x y = refl

  asked_is : (m : Reply) → hear_asked m (whole k c g t) ≡ lifted k c g t (asked_of m k)
  asked_is (Runs true) = refl
  asked_is (Runs false) = refl
  asked_is (Output bs) = refl
  asked_is (InputCredit n) = refl
  asked_is (Exit s) = refl

  running-is : (m : Reply) → hear_running (real a p) m (whole k c g t) ≡ lifted k c g t (running_of m k)
  running-is (Runs b) = refl
  running-is (Output bs) =
      let e = length-append t k.unseen in
      let f : ltb (length t + 8192) (length (t ++ k.unseen) + length bs) ≡ ltb 8192 (length k.unseen + length bs) = grind (arith, nat_tests) in
      let q : got_more bs (whole k c g t) ≡ whole (got_of bs k) c g t = λ i. record (whole k c g t) { got = append_assoc t k.unseen bs i } in
      simp (f, q, lift-cond)
  running-is (InputCredit n) =
      let f : length g + k.credit - length g + n ≡ k.credit + n = omega arith in
      let h : length g + k.credit + n ≡ length g + (k.credit + n) = omega arith in
      let q : may_more n (whole k c g t) ≡ whole (may_of n k) c g t = λ i. record (whole k c g t) { may = h i } in
      simp (f, q, lift-cond)
  running-is (Exit s) = simp lift-cond

  pub hear-is : (m : Reply) → hear (real a p) m (Some (whole k c g t)) ≡ lifted k c g t (hear_of m k)
  hear-is m = go k.running
    where
      go : (b : Bool) → hear_in (real a p) (phase_of b) m (whole k c g t) ≡ lifted k c g t (cond b (running_of m k) (asked_of m k))
      go true = running-is m
      go false = asked_is m

cond-number : (k : Kept) (b : Bool) (x y : Result (Option Kept) Fault) → SameNumber k x → SameNumber k y → SameNumber k (cond b x y)
cond-number k true x y h f = h
cond-number k false x y h f = f

pub hear-number : (k : Kept) (m : Reply) → SameNumber k (hear_of m k)
hear-number k m = cond-number k k.running (running_of m k) (asked_of m k) (running m) (asked m)
  where
    running : (m : Reply) → SameNumber k (running_of m k)
    running (Runs b) = tt
    running (Output bs) = cond-number k (is_some k.exit) (Err OutOfTurn) (cond (ltb 8192 (length k.unseen + length bs)) (Err BeyondWindow) (Ok (Some (got_of bs k)))) tt (cond-number k (ltb 8192 (length k.unseen + length bs)) (Err BeyondWindow) (Ok (Some (got_of bs k))) tt refl)
    running (InputCredit n) = cond-number k (ltb 0xffff_ffff_ffff_ffff (k.credit + n)) (Err Uncountable) (Ok (Some (may_of n k))) tt refl
    running (Exit s) = cond-number k (is_some k.exit) (Err OutOfTurn) (Ok (Some (exit_of s k))) tt refl

    asked : (m : Reply) → SameNumber k (asked_of m k)
    asked (Runs true) = refl
    asked (Runs false) = tt
    asked (Output bs) = tt
    asked (InputCredit n) = tt
    asked (Exit s) = tt
