-- One channel at a reply that arrives: it is taken in, and what is known stays known. Assumes nothing.
use Rattle.std.proofs.Common.{◌≡◌, ℕ, ◌+◌, ◌-◌, ◌≤◌, Bool, true, false, cond, ltb, List, [], ◌∷◌, length, Some, None, Ok, Err, Option, sym, refl, ap, ◌∙◌, subst, inl, inr, arith}
use Rattle.std.proofs.lemmas.List.{length-append}
use Rattle.std.proofs.lemmas.Bool.{true≢false, le-ltb}
use Rattle.model.specs.Messages.{Rules, Fair, Request, Reply, Runs, Output, InputCredit, Exit, OutOfTurn, Uncountable, BeyondWindow, is_some}
use Rattle.model.specs.Client.{ClientChannel, Phase, Asked, Running, Refused, Closed, answered, got_more, may_more, told_exit, hear_asked, hear_in, hear}
use Rattle.model.specs.Server.{ServerChannel}
use Rattle.model.proofs.Flow.{bytes, flow-piece, flow-last, flow-open, flow-count}
use Rattle.model.proofs.Local.{cells_out, credits_back, has_close, Answered, Fresh, AloneIn, AskedOk, RunningOk, InPhase, Pair, Local}

pub not-nil : {A : Type 0} (x : A) (xs : List A) → x ∷ xs ≡ [] → ⊥
not-nil x xs e = let z : ◌≡◌ {A = ℕ} 0 1 = cc in omega arith

pub head-is : {A : Type 0} (x y : A) (xs ys : List A) → x ∷ xs ≡ y ∷ ys → (x ≡ y) × (xs ≡ ys)
head-is x y xs ys e = ((cc), (cc))

module _ {S : Type 0} (r : Rules) (sup : Bool) where
  -- what came of it: the channel after it, with what is known of that
  abbrev pub Heard : Reply → ClientChannel → Option (ServerChannel S) → List Request → List Reply → Type 0
  Heard m x sx us ds = (y : ClientChannel) × (hear r m (Some x) ≡ Ok y) × (y.number ≡ x.number) × Local r true sup (Some y) sx us ds

module _ (S : Type 0) (r : Rules) (sup : Bool) where
  hear-refused : (m : Reply) (x : ClientChannel) (us : List Request) (ds : List Reply) → x.phase ≡ Asked → Fresh x → us ≡ [] → m ∷ ds ≡ Runs false ∷ [] → Heard {S = S} r sup m x None us ds
  hear-refused m x us ds ph fr e q =
      let k = head-is m (Runs false) ds [] q in
      (answered false x, ap (λ p. hear_in r p m x) ph ∙ ap (λ a. hear_asked a x) k.0, refl, (record { sent = fr.sent; may = fr.may; said = fr.said; got = fr.got; taken = fr.taken; exit = fr.exit }, (e, k.1)))

  hear-alone : (m : Reply) (x : ClientChannel) (us : List Request) (ds : List Reply) (p : Phase) → x.phase ≡ p → Fresh x → AloneIn p x us (m ∷ ds) → Heard {S = S} r sup m x None us ds
  hear-alone m x us ds Asked ph fr (inl a) = absurd (not-nil m ds a.1)
  hear-alone m x us ds Asked ph fr (inr a) = hear-refused m x us ds ph fr a.0 a.1
  hear-alone m x us ds Running ph fr h = absurd h
  hear-alone m x us ds Refused ph fr h = absurd (not-nil m ds h.1)
  hear-alone m x us ds Closed ph fr h = absurd h

module _ {S : Type 0} (r : Rules) (sup : Bool) where
  hear-runs : (x : ClientChannel) (f : ServerChannel S) (us : List Request) (ds : List Reply) → Pair r true sup x f us (Runs true ∷ ds) → Fresh x → us ≡ [] → Answered ds → (sup ≡ true → f.forgotten ≡ false) → Pair r true sup (answered true x) f us ds
  unfolding cells_out credits_back has_close
  hear-runs x f us ds h fr e a k =
      record {
        command = h.command;
        input = h.input;
        output = h.output;
        in_window = h.in_window;
        out_window = h.out_window;
        begun = h.begun;
        phase = record { answered = a; told = λ t. absurd (true≢false (sym t ∙ ap is_some fr.exit)); open-yet = ap has_close e; kept = k };
      }

  hear-asked : (m : Reply) (x : ClientChannel) (f : ServerChannel S) (us : List Request) (ds : List Reply) → x.phase ≡ Asked → AskedOk sup x f us (m ∷ ds) → Pair r true sup x f us (m ∷ ds) → Heard r sup m x (Some f) us ds
  hear-asked m x f us ds ph k h =
      let q = head-is m (Runs true) ds k.rest k.answer in (
        answered true x,
        ap (λ p. hear_in r p m x) ph ∙ ap (λ a. hear_asked a x) q.0,
        refl,
        hear-runs x f us ds (subst (λ (n : Reply). Pair r true sup x f us (n ∷ ds)) q.0 h) k.fresh k.none-there (subst (λ (l : List Reply). Answered l) (sym q.1) k.answered) k.kept,
      )

module _ {S : Type 0} (r : Rules) (fair : Fair r) (sup : Bool) (x : ClientChannel) (f : ServerChannel S) (us : List Request) (ds : List Reply) (ph : x.phase ≡ Running) where
  -- the exit is not known yet
  hear-output : (bs : List ℕ) → Pair r true sup x f us (Output bs ∷ ds) → RunningOk sup x f us (Output bs ∷ ds) → Heard r sup (Output bs) x (Some f) us ds
  unfolding cells_out credits_back Answered bytes
  hear-output bs h k =
      let o = flow-open h.output in
      let c = flow-count h.output in
      let l = length-append bs (bytes (cells_out ds)) in
      let w = h.out_window in
      let w0 = w.within in
      let w2 = w.sent in
      let w3 = w.taken in
      let fits : length x.got + length bs ≤ x.taken + r.window = omega arith in
      let g = length-append x.got bs in (
        got_more bs x,
        ap (λ p. hear_in r p (Output bs) x) ph ∙ ap (λ e. cond (is_some e) (Err OutOfTurn) (cond (ltb (x.taken + r.window) (length x.got + length bs)) (Err BeyondWindow) (Ok (got_more bs x)))) o
            ∙ ap (λ b. cond b (Err BeyondWindow) (Ok (got_more bs x))) (le-ltb (x.taken + r.window) (length x.got + length bs) fits),
        refl,
        record {
          command = h.command;
          input = h.input;
          output = flow-piece bs h.output;
          in_window = h.in_window;
          out_window = record { within = w.within; exact = w.exact; sent = w.sent; taken = omega arith };
          begun = h.begun;
          phase = subst (λ (p : Phase). InPhase p sup (got_more bs x) f us ds) (sym ph) (record { answered = k.answered; told = λ t. absurd (not-nil (Output bs) ds (k.told t)); open-yet = k.open-yet; kept = k.kept });
        },
      )

  hear-credit : (n : ℕ) → Pair r true sup x f us (InputCredit n ∷ ds) → RunningOk sup x f us (InputCredit n ∷ ds) → Heard r sup (InputCredit n) x (Some f) us ds
  unfolding cells_out credits_back Answered
  hear-credit n h k =
      let w = h.in_window in
      let w0 = w.within in
      let w2 = w.sent in
      let w3 = w.taken in
      let c = flow-count h.input in
      let fc = fair.counts in
      let fits : x.may - x.sent + n ≤ r.counts = omega arith in (
        may_more n x,
        ap (λ p. hear_in r p (InputCredit n) x) ph ∙ ap (λ b. cond b (Err Uncountable) (Ok (may_more n x))) (le-ltb r.counts (x.may - x.sent + n) fits),
        refl,
        record {
          command = h.command;
          input = h.input;
          output = h.output;
          in_window = record { within = omega arith; exact = λ u. let v = w.exact u in omega arith; sent = omega arith; taken = w.taken };
          out_window = h.out_window;
          begun = h.begun;
          phase = subst (λ (p : Phase). InPhase p sup (may_more n x) f us ds) (sym ph) (record { answered = k.answered; told = λ t. absurd (not-nil (InputCredit n) ds (k.told t)); open-yet = k.open-yet; kept = k.kept });
        },
      )

  hear-exit : (n : ℕ) → Pair r true sup x f us (Exit n ∷ ds) → RunningOk sup x f us (Exit n ∷ ds) → Heard r sup (Exit n) x (Some f) us ds
  unfolding cells_out credits_back Answered
  hear-exit n h k =
      let o = flow-open h.output in (
        told_exit n x,
        ap (λ p. hear_in r p (Exit n) x) ph ∙ ap (λ e. cond (is_some e) (Err OutOfTurn) (Ok (told_exit n x))) o,
        refl,
        record {
          command = h.command;
          input = h.input;
          output = flow-last n h.output;
          in_window = h.in_window;
          out_window = h.out_window;
          begun = h.begun;
          phase = subst (λ (p : Phase). InPhase p sup (told_exit n x) f us ds) (sym ph) (record { answered = subst (λ (l : List Reply). Answered l) (sym k.answered) tt; told = λ t. k.answered; open-yet = k.open-yet; kept = k.kept });
        },
      )

  hear-running : (m : Reply) → Pair r true sup x f us (m ∷ ds) → RunningOk sup x f us (m ∷ ds) → Heard r sup m x (Some f) us ds
  unfolding Answered
  hear-running (Runs b) h k = absurd k.answered
  hear-running (Output bs) h k = hear-output bs h k
  hear-running (InputCredit n) h k = hear-credit n h k
  hear-running (Exit n) h k = hear-exit n h k

module _ {S : Type 0} (r : Rules) (fair : Fair r) (sup : Bool) where
  hear-pair : (m : Reply) (x : ClientChannel) (f : ServerChannel S) (us : List Request) (ds : List Reply) (p : Phase) → x.phase ≡ p → InPhase p sup x f us (m ∷ ds) → Pair r true sup x f us (m ∷ ds) → Heard r sup m x (Some f) us ds
  hear-pair m x f us ds Asked ph k h = hear-asked r sup m x f us ds ph k h
  hear-pair m x f us ds Running ph k h = hear-running r fair sup x f us ds ph m h k
  hear-pair m x f us ds Refused ph k h = absurd k
  hear-pair m x f us ds Closed ph k h = absurd (not-nil m ds k.none-back)

  -- A reply is taken in, never a fault.
  pub hear-local : (m : Reply) (x : ClientChannel) (sx : Option (ServerChannel S)) (us : List Request) (ds : List Reply) → Local r true sup (Some x) sx us (m ∷ ds) → Heard r sup m x sx us ds
  hear-local m x None us ds h = hear-alone S r sup m x us ds x.phase refl h.0 h.1
  hear-local m x (Some f) us ds h = hear-pair m x f us ds x.phase refl h.phase h

  pub hear-known : (m : Reply) (sx : Option (ServerChannel S)) (us : List Request) (ds : List Reply) → Local r true sup None sx us (m ∷ ds) → ⊥
  hear-known m None us ds h = not-nil m ds h.1
  hear-known m (Some f) us ds h = h
