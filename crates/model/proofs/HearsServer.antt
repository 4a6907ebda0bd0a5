-- One channel at a request that arrives at the server: it is taken in, and what is known stays known. Assumes nothing.
use Rattle.std.proofs.Common.{◌≡◌, ℕ, ◌+◌, ◌-◌, ◌≤◌, Bool, true, false, cond, ltb, List, [], ◌∷◌, ◌++◌, length, Some, None, Ok, Err, Option, sym, refl, ap, ◌∙◌, subst, inl, inr, arith}
use Rattle.std.proofs.lemmas.List.{length-append}
use Rattle.std.proofs.lemmas.Bool.{true≢false, le-ltb}
use Rattle.model.specs.Messages.{Rules, Fair, Request, Run, Input, OutputCredit, Eof, Close, Reply, Runs, InputCredit, OutOfTurn, Uncountable, BeyondWindow, Programs, is_some}
use Rattle.model.specs.Client.{ClientChannel, Phase, Asked, Running, Refused, Closed}
use Rattle.model.specs.Server.{ServerChannel, came_in, may_send, no_more, forgot, hear_kept, hear_at, new_program}
use Rattle.model.proofs.Flow.{bytes, Flow, flow-fresh, flow-piece, flow-last, flow-open, flow-count, flow-said}
use Rattle.model.proofs.Local.{cells_in, cells_out, credits_up, credits_back, has_close, Begun, Answered, eofs, Fresh, AloneIn, InPhase, Pair, Local}
use Rattle.model.proofs.HearsClient.{not-nil, head-is}

eof-not : (b : Bool) → eofs b ≡ None → b ≡ false
eof-not true e = absurd (let z : ◌≡◌ {A = ℕ} 0 1 = cc in omega arith)
eof-not false e = refl

module _ {S : Type 0} (r : Rules) (cup : Bool) where
  abbrev pub Passed : Request → ClientChannel → ServerChannel S → List Request → List Reply → Type 0
  Passed m x f us ds = (y : ServerChannel S) × (hear_at r m f ≡ Ok y) × (y.number ≡ f.number) × Pair r cup true x y us ds

module _ {S : Type 0} (x : ClientChannel) (f : ServerChannel S) (us : List Request) (ds : List Reply) where
  -- the server still holds a channel of which a message is on the way
  still-held : (m : Request) (p : Phase) → InPhase p true x f (m ∷ us) ds → f.forgotten ≡ false
  still-held m Asked k = absurd (not-nil m us k.none-there)
  still-held m Running k = k.kept refl
  still-held m Refused k = absurd k
  still-held m Closed k = go f.forgotten refl
    where
      go : (b : Bool) → f.forgotten ≡ b → b ≡ false
      go true e = absurd (not-nil m us (k.gone refl e))
      go false e = refl

  -- a message that is no close leaves the phase
  abbrev KeepsPhase : (y : ServerChannel S) → Type 0
  KeepsPhase y = (p : Phase) → InPhase p true x y us ds

  next-phase : (m : Request) (y : ServerChannel S) → (y.forgotten ≡ f.forgotten) → (has_close (m ∷ us) ≡ has_close us) → f.forgotten ≡ false → (p : Phase) → InPhase p true x f (m ∷ us) ds → InPhase p true x y us ds
  next-phase m y e c h Asked k = absurd (not-nil m us k.none-there)
  next-phase m y e c h Running k = record { answered = k.answered; told = k.told; open-yet = sym c ∙ k.open-yet; kept = λ u. e ∙ h }
  next-phase m y e c h Refused k = k
  next-phase m y e c h Closed k = record { none-back = k.none-back; told = k.told; all = k.all; gone = λ u g. absurd (true≢false (sym g ∙ e ∙ h)); close = λ u g. sym c ∙ k.close u h }

module _ {S : Type 0} (r : Rules) (fair : Fair r) (cup : Bool) (x : ClientChannel) (f : ServerChannel S) (us : List Request) (ds : List Reply) (h0 : f.forgotten ≡ false) where
  kept-hears : (m : Request) → hear_at r m f ≡ hear_kept r m f
  kept-hears m = ap (λ b. cond b (Ok f) (hear_kept r m f)) h0

  pass-input : (bs : List ℕ) → Pair r cup true x f (Input bs ∷ us) ds → Passed r cup (Input bs) x f us ds
  unfolding cells_in credits_up Begun has_close bytes
  pass-input bs h =
      let o = eof-not f.eof (flow-open h.input) in
      let c = flow-count h.input in
      let l = length-append bs (bytes (cells_in us)) in
      let w = h.in_window in
      let w0 = w.within in
      let w2 = w.sent in
      let w3 = w.taken in
      let fits : length f.input + length bs ≤ f.read + r.window = omega arith in
      let g = length-append f.input bs in (
        came_in bs f,
        kept-hears (Input bs) ∙ ap (λ b. cond b (Err OutOfTurn) (cond (ltb (f.read + r.window) (length f.input + length bs)) (Err BeyondWindow) (Ok (came_in bs f)))) o
            ∙ ap (λ b. cond b (Err BeyondWindow) (Ok (came_in bs f))) (le-ltb (f.read + r.window) (length f.input + length bs) fits),
        refl,
        record {
          command = h.command;
          input = flow-piece bs h.input;
          output = h.output;
          in_window = record { within = w.within; exact = w.exact; sent = w.sent; taken = omega arith };
          out_window = h.out_window;
          begun = h.begun;
          phase = next-phase x f us ds (Input bs) (came_in bs f) refl refl h0 x.phase h.phase;
        },
      )

  pass-credit : (n : ℕ) → Pair r cup true x f (OutputCredit n ∷ us) ds → Passed r cup (OutputCredit n) x f us ds
  unfolding cells_in credits_up Begun has_close
  pass-credit n h =
      let w = h.out_window in
      let w0 = w.within in
      let w2 = w.sent in
      let w3 = w.taken in
      let c = flow-count h.output in
      let fc = fair.counts in
      let fits : f.may - f.sent + n ≤ r.counts = omega arith in (
        may_send n f,
        kept-hears (OutputCredit n) ∙ ap (λ b. cond b (Err Uncountable) (Ok (may_send n f))) (le-ltb r.counts (f.may - f.sent + n) fits),
        refl,
        record {
          command = h.command;
          input = h.input;
          output = h.output;
          in_window = h.in_window;
          out_window = record { within = omega arith; exact = λ u. let v = w.exact u in omega arith; sent = omega arith; taken = w.taken };
          begun = h.begun;
          phase = next-phase x f us ds (OutputCredit n) (may_send n f) refl refl h0 x.phase h.phase;
        },
      )

  pass-eof : Pair r cup true x f (Eof ∷ us) ds → Passed r cup Eof x f us ds
  unfolding cells_in credits_up Begun has_close
  pass-eof h = (
    no_more f,
    kept-hears Eof ∙ ap (λ b. cond b (Err OutOfTurn) (Ok (no_more f))) (eof-not f.eof (flow-open h.input)),
    refl,
    record {
      command = h.command;
      input = flow-last 0 h.input;
      output = h.output;
      in_window = h.in_window;
      out_window = h.out_window;
      begun = h.begun;
      phase = next-phase x f us ds Eof (no_more f) refl refl h0 x.phase h.phase;
    },
  )

  closed-phase : (p : Phase) → InPhase p true x f (Close ∷ us) ds → us ≡ [] → InPhase p true x (forgot f) us ds × (is_some x.exit ≡ true)
  unfolding has_close
  closed-phase Asked k e = absurd (not-nil Close us k.none-there)
  closed-phase Running k e = absurd (true≢false k.open-yet)
  closed-phase Refused k e = absurd k
  closed-phase Closed k e = (record { none-back = k.none-back; told = k.told; all = k.all; gone = λ u g. e; close = λ u g. absurd (true≢false g) }, k.told)

  said-by : (o : Option ℕ) → is_some o ≡ true → Flow f.wrote f.sent f.exit f.said (cells_out ds) x.got o → f.said ≡ true
  said-by None t h = absurd (true≢false (sym t))
  said-by (Some n) t h = (flow-said n h).0

  pass-close : Pair r cup true x f (Close ∷ us) ds → Passed r cup Close x f us ds
  unfolding cells_in credits_up Begun
  pass-close h =
      let k = closed-phase x.phase h.phase h.begun in
      let s = said-by x.exit k.1 h.output in (
        forgot f,
        kept-hears Close ∙ ap (λ b. cond b (Ok (forgot f)) (Err OutOfTurn)) s,
        refl,
        record {
          command = h.command;
          input = h.input;
          output = h.output;
          in_window = h.in_window;
          out_window = h.out_window;
          begun = subst (λ (l : List Request). Begun l) (sym h.begun) tt;
          phase = k.0;
        },
      )

  pass-any : (m : Request) → Pair r cup true x f (m ∷ us) ds → Passed r cup m x f us ds
  unfolding Begun
  pass-any (Run k) h = absurd h.begun
  pass-any (Input bs) h = pass-input bs h
  pass-any (OutputCredit n) h = pass-credit n h
  pass-any Eof h = pass-eof h
  pass-any Close h = pass-close h

module _ {S : Type 0} (r : Rules) (fair : Fair r) (cup : Bool) where
  -- A request is taken in, never a fault.
  pub pass-local : (m : Request) (x : ClientChannel) (f : ServerChannel S) (us : List Request) (ds : List Reply) → Pair r cup true x f (m ∷ us) ds → Passed r cup m x f us ds
  pass-local m x f us ds h = pass-any r fair cup x f us ds (still-held x f us ds m x.phase h.phase) m h

  -- It runs: told so, with the window; or it does not.
  pub runs-local : {E : Type 0} (p : Programs S E) (t k u : ℕ) (e : E) (x : ClientChannel) (us : List Request) (ds : List Reply) → us ≡ [] → ds ≡ [] → Fresh x → x.phase ≡ Asked → k ≡ x.command → Pair r cup true x (new_program r p t k u e) us (ds ++ (Runs true ∷ (InputCredit r.window ∷ [])))
  unfolding cells_in cells_out credits_up credits_back Begun Answered has_close bytes
  runs-local p t k u e x us ds eu ed fr ph ek =
      subst (λ (l : List Request). Pair r cup true x (new_program r p t k u e) l (ds ++ (Runs true ∷ (InputCredit r.window ∷ [])))) (sym eu)
      (subst (λ (l : List Reply). Pair r cup true x (new_program r p t k u e) [] (l ++ (Runs true ∷ (InputCredit r.window ∷ [])))) (sym ed)
      (record {
        command = sym ek;
        input = flow-fresh x.input (eofs x.eof) x.sent x.said fr.sent fr.said;
        output = subst (λ (g : List ℕ). Flow [] 0 None false [] g x.exit) (sym fr.got) (subst (λ (o : Option ℕ). Flow [] 0 None false [] [] o) (sym fr.exit) (flow-fresh [] None 0 false refl refl));
        in_window = record { within = let a = fr.may in omega arith; exact = λ w. let a = fr.may in omega arith; sent = let a = fr.may in let b = fr.sent in omega arith; taken = omega arith };
        out_window = record { within = let a = fr.taken in omega arith; exact = λ w. let a = fr.taken in omega arith; sent = omega arith; taken = let a = fr.taken in omega arith };
        begun = tt;
        phase = subst (λ (q : Phase). InPhase q true x (new_program r p t k u e) [] (Runs true ∷ (InputCredit r.window ∷ []))) (sym ph) (record { fresh = fr; none-there = refl; rest = InputCredit r.window ∷ []; answer = refl; answered = tt; kept = λ w. refl });
      }))

module _ (S : Type 0) (r : Rules) (cup : Bool) where
  -- of a channel that the server does not know, only a start is on the way
  pub only-start : (m : Request) (cx : Option ClientChannel) (us : List Request) (ds : List Reply) → Local {S = S} r cup true cx None (m ∷ us) ds → (x : ClientChannel) × (cx ≡ Some x) × (m ≡ Run x.command) × (us ≡ []) × (ds ≡ []) × Fresh x × (x.phase ≡ Asked)
  only-start m None us ds h = absurd (not-nil m us h.0)
  only-start m (Some x) us ds h = go x.phase refl h.1
    where
      go : (p : Phase) → x.phase ≡ p → AloneIn p x (m ∷ us) ds → (y : ClientChannel) × (Some x ≡ Some y) × (m ≡ Run y.command) × (us ≡ []) × (ds ≡ []) × Fresh y × (y.phase ≡ Asked)
      go Asked q (inl a) = let k = head-is m (Run x.command) us [] a.0 in (x, refl, k.0, k.1, a.1, h.0, q)
      go Asked q (inr a) = absurd (not-nil m us a.0)
      go Running q a = absurd a
      go Refused q a = absurd (not-nil m us a.0)
      go Closed q a = absurd a

  pub refused-local : (k : ℕ) (x : ClientChannel) (us : List Request) (ds : List Reply) → us ≡ [] → ds ≡ [] → Fresh x → x.phase ≡ Asked → Local {S = S} r cup true (Some x) None us (ds ++ (Runs false ∷ []))
  refused-local k x us ds eu ed fr ph = (fr, subst (λ (q : Phase). AloneIn q x us (ds ++ (Runs false ∷ []))) (sym ph) (inr (eu, ap (λ l. l ++ (Runs false ∷ [])) ed)))
