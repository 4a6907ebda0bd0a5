-- What arrives for a channel that is held changes the model's channel likewise.
use Rattle.std.proofs.Common.{◌≡◌, ℕ, ◌+◌, ◌-◌, Bool, true, false, cond, ltb, List, ◌++◌, length, Ok, Err, Result, sym, refl, ap, ◌∙◌, arith}
use Rattle.std.proofs.lemmas.List.{append_assoc, length-append}
use Rattle.std.proofs.lemmas.Bool.Decides.{nat_tests}
use Rattle.model.specs.Messages.{Request, Run, Input, OutputCredit, Eof, Close, Fault, OutOfTurn, Uncountable, BeyondWindow, real}
use Rattle.model.specs.Server.{ServerChannel, hear_kept, came_in, may_send, forgot}
use Rattle.server_channel.specs.declared.Channel.{Channel}
use Rattle.server_channel.specs.Kept.{kept, heard, credit_of, eof_of}
use Rattle.server.specs.Stands.{Past, whole}

abbrev pub on_ok : {X Y : Type 0} → (X → Y) → Result X Fault → Result Y Fault
on_ok f (Ok x) = Ok (f x)
on_ok f (Err g) = Err g

on-cond : {X Y : Type 0} (f : X → Y) (b : Bool) (x x' : Result X Fault) {y y' : Result Y Fault} → y ≡ on_ok f x → y' ≡ on_ok f x' → cond b y y' ≡ on_ok f (cond b x x')
on-cond f true x x' a b = a
on-cond f false x x' a b = b

module _ {S : Type 0} where
  -- the model's channel after a message that it took
  abbrev pub became : Request → Channel S → Past S → Channel S → ServerChannel S
  became (Run n) k p l = whole true l p
  became (Input bs) k p l = whole true l p
  became (OutputCredit n) k p l = whole true l p
  became Eof k p l = whole true l p
  became Close k p l = forgot (whole true k p)

  pub hears-same : (a : ℕ → ℕ → List ℕ → Bool) (m : ℕ → ℕ → Bool) (q : Request) (k : Channel S) (p : Past S) → hear_kept (real a m) q (whole true k p) ≡ on_ok (became q k p) (heard q k)
  hears-same a m (Run n) k p = refl
  hears-same a m (Input bs) k p =
      let l = length-append p.went k.input in
      let b : ltb (length p.went + 8192) (length (p.went ++ k.input) + length bs) ≡ ltb 8192 (length k.input + length bs) = grind (arith, nat_tests) in
      let x = whole true k p in
      let i : (p.went ++ k.input) ++ bs ≡ p.went ++ (k.input ++ bs) = append_assoc p.went k.input bs in
      ap (λ v. cond k.counts.eof (Err OutOfTurn) (cond v (Err BeyondWindow) (Ok (came_in bs x)))) b
      ∙ on-cond (became (Input bs) k p) k.counts.eof (Err OutOfTurn) (cond (ltb 8192 (length k.input + length bs)) (Err BeyondWindow) (Ok (kept k.counts k.life (k.input ++ bs) k.output))) refl (on-cond (became (Input bs) k p) (ltb 8192 (length k.input + length bs)) (Err BeyondWindow) (Ok (kept k.counts k.life (k.input ++ bs) k.output)) refl
      (λ j. Ok (record { number = x.number; command = x.command; user = x.user; state = x.state; input = i j; read = x.read; eof = x.eof; wrote = x.wrote; sent = x.sent; may = x.may; exit = x.exit; said = x.said; left = x.left; forgotten = false })))
  hears-same a m (OutputCredit n) k p =
      let b : length p.gone + k.counts.credit - length p.gone + n ≡ k.counts.credit + n = omega arith in
      let x = whole true k p in
      let i : length p.gone + k.counts.credit + n ≡ length p.gone + (k.counts.credit + n) = omega arith in
      ap (λ v. cond (ltb 0xffff_ffff_ffff_ffff v) (Err Uncountable) (Ok (may_send n x))) b
      ∙ on-cond (became (OutputCredit n) k p) (ltb 0xffff_ffff_ffff_ffff (k.counts.credit + n)) (Err Uncountable) (Ok (kept (credit_of (k.counts.credit + n) k.counts) k.life k.input k.output)) refl
      (λ j. Ok (record { number = x.number; command = x.command; user = x.user; state = x.state; input = x.input; read = x.read; eof = x.eof; wrote = x.wrote; sent = x.sent; may = i j; exit = x.exit; said = x.said; left = x.left; forgotten = false }))
  hears-same a m Eof k p = on-cond (became Eof k p) k.counts.eof (Err OutOfTurn) (Ok (kept (eof_of k.counts) k.life k.input k.output)) refl refl
  hears-same a m Close k p = on-cond (became Close k p) k.counts.said (Ok k) (Err OutOfTurn) refl refl

  -- a channel keeps its number
  abbrev number_of : Channel S → Result (Channel S) Fault → ℕ
  number_of k (Ok l) = l.counts.number
  number_of k (Err f) = k.counts.number

  number-cond : (k : Channel S) (b : Bool) (x y : Result (Channel S) Fault) → number_of k x ≡ k.counts.number → number_of k y ≡ k.counts.number → number_of k (cond b x y) ≡ k.counts.number
  number-cond k true x y a b = a
  number-cond k false x y a b = b

  number-heard : (q : Request) (k : Channel S) → number_of k (heard q k) ≡ k.counts.number
  number-heard (Run n) k = refl
  number-heard (Input bs) k = number-cond k k.counts.eof (Err OutOfTurn) (cond (ltb 8192 (length k.input + length bs)) (Err BeyondWindow) (Ok (kept k.counts k.life (k.input ++ bs) k.output))) refl (number-cond k (ltb 8192 (length k.input + length bs)) (Err BeyondWindow) (Ok (kept k.counts k.life (k.input ++ bs) k.output)) refl refl)
  number-heard (OutputCredit n) k = number-cond k (ltb 0xffff_ffff_ffff_ffff (k.counts.credit + n)) (Err Uncountable) (Ok (kept (credit_of (k.counts.credit + n) k.counts) k.life k.input k.output)) refl refl
  number-heard Eof k = number-cond k k.counts.eof (Err OutOfTurn) (Ok (kept (eof_of k.counts) k.life k.input k.output)) refl refl
  number-heard Close k = number-cond k k.counts.said (Ok k) (Err OutOfTurn) refl refl

  pub same_number : (q : Request) (k l : Channel S) → heard q k ≡ Ok l → l.counts.number ≡ k.counts.number
  same_number q k l e = ap (number_of k) (sym e) ∙ number-heard q k
