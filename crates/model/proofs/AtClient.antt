-- One channel at what the client does: its flush, the user's commands, and replies that arrive. Assumes nothing.
use Rattle.std.proofs.Common.{◌≡◌, ℕ, zero, suc, ◌+◌, ◌-◌, ◌<◌, ◌≤◌, Bool, true, false, cond, not, ◌&&◌, ◌||◌, eqb, List, [], ◌∷◌, ◌++◌, length, Some, None, Option, sym, refl, ap, ◌∙◌, subst, inl, append-nil, arith}
use Rattle.std.proofs.lemmas.Bool.{eqb-true, and_parts, true≢false}
use Rattle.std.specs.Option.{option_map}
use Rattle.model.specs.Messages.{Rules, Fair, Request, Run, OutputCredit, Eof, Close, Reply, ready, parts, is_some}
use Rattle.model.specs.Client.{ClientChannel, Phase, Asked, Running, Refused, Closed, runs, holds, is_held, entered, finished, took_more, goes, eof_now, close_now, inputs, requests, flushed, flushed_running, new_channel}
use Rattle.model.specs.Server.{ServerChannel}
use Rattle.model.proofs.Ways.{those}
use Rattle.model.proofs.Flow.{Cell, Piece, Last, Flow, pieces, flow-send, flow-grow, flow-end, ready-length}
use Rattle.model.proofs.Local.{cells_in, credits_up, has_close, Begun, Window, eofs, Fresh, AloneIn, RunningOk, InPhase, Pair, Local, cells_in-append, credits_up-append, has_close-append, begun-append}

-- What the flush of a channel sends, by what is known of a way.
module _ (e c : Bool) where
  abbrev pub tail : List Request
  tail = cond e (Eof ∷ []) [] ++ cond c (Close ∷ []) []

cells-inputs : (ps : List (List ℕ)) (e c : Bool) → cells_in (inputs ps ++ tail e c) ≡ pieces ps ++ cond e (Last 0 ∷ []) []
unfolding cells_in inputs pieces
cells-inputs [] true true = refl
cells-inputs [] true false = refl
cells-inputs [] false true = refl
cells-inputs [] false false = refl
cells-inputs (p ∷ ps) e c = ap (λ l. Piece p ∷ l) (cells-inputs ps e c)

credits-inputs : (ps : List (List ℕ)) (e c : Bool) → credits_up (inputs ps ++ tail e c) ≡ 0
unfolding credits_up inputs
credits-inputs [] true true = refl
credits-inputs [] true false = refl
credits-inputs [] false true = refl
credits-inputs [] false false = refl
credits-inputs (p ∷ ps) e c = credits-inputs ps e c

close-inputs : (ps : List (List ℕ)) (e c : Bool) → has_close (inputs ps ++ tail e c) ≡ c
unfolding has_close inputs
close-inputs [] true true = refl
close-inputs [] true false = refl
close-inputs [] false true = refl
close-inputs [] false false = refl
close-inputs (p ∷ ps) e c = close-inputs ps e c

begun-inputs : (ps : List (List ℕ)) (e c : Bool) → Begun (inputs ps ++ tail e c)
unfolding Begun inputs
begun-inputs [] true true = refl
begun-inputs [] true false = tt
begun-inputs [] false true = refl
begun-inputs [] false false = tt
begun-inputs (p ∷ ps) e c = begun-inputs ps e c

-- a channel that does not run sends nothing
pub idle-phase : (r : Rules) (x : ClientChannel) → runs x.phase ≡ false → (flushed x ≡ x) × (requests r x ≡ [])
idle-phase r x h = (ap (λ b. cond b (flushed_running x) x) h, ap (λ b. cond b (inputs (parts (length (goes x)) r.part (goes x)) ++ tail (eof_now x) (close_now x)) []) h)

abbrev pub running : Rules → ClientChannel → List Request
running r x = inputs (parts (length (goes x)) r.part (goes x)) ++ tail (eof_now x) (close_now x)

pub running-phase : (r : Rules) (x : ClientChannel) → runs x.phase ≡ true → (flushed x ≡ flushed_running x) × (requests r x ≡ running r x)
running-phase r x h = (ap (λ b. cond b (flushed_running x) x) h, ap (λ b. cond b (running r x) []) h)

-- input goes, and eof behind the last of it
input-send : {all : List ℕ} {sent : ℕ} {said : Bool} {cells : List Cell} {got : List ℕ} {told : Option ℕ} (part may : ℕ) → 0 < part → (b : Bool) → Flow all sent (eofs b) said cells got told →
    Flow all (sent + length (ready all sent may)) (eofs b) (said || (b && (eqb (sent + length (ready all sent may)) (length all) && not said)))
    (cells ++ (pieces (parts (length (ready all sent may)) part (ready all sent may)) ++ cond (b && (eqb (sent + length (ready all sent may)) (length all) && not said)) (Last 0 ∷ []) [])) got told
input-send {said = said} part may h true f = flow-send part may h said f
input-send {said = said} part may h false f = flow-send part may h said f

module _ {S : Type 0} (r : Rules) (fair : Fair r) (sup : Bool) where
  flush-pair : (x : ClientChannel) (f : ServerChannel S) (us : List Request) (ds : List Reply) → Pair r true sup x f us ds → RunningOk sup x f us ds → (c : Bool) → close_now x ≡ c → InPhase (cond c Closed Running) sup (flushed_running x) f (us ++ running r x) ds
  flush-pair x f us ds h k true e =
      let told = and_parts (is_some x.exit) (eqb x.taken (length x.got)) e in
      record {
        none-back = k.told told.0;
        told = told.0;
        all = eqb-true x.taken (length x.got) told.1;
        gone = λ u g. absurd (true≢false (sym g ∙ k.kept u));
        close = λ u g. has_close-append us (running r x) ∙ ap (λ b. b || has_close (running r x)) k.open-yet ∙ close-inputs (parts (length (goes x)) r.part (goes x)) (eof_now x) (close_now x) ∙ e;
      }
  flush-pair x f us ds h k false e =
      record {
        answered = k.answered;
        told = k.told;
        open-yet = has_close-append us (running r x) ∙ ap (λ b. b || has_close (running r x)) k.open-yet ∙ close-inputs (parts (length (goes x)) r.part (goes x)) (eof_now x) (close_now x) ∙ e;
        kept = k.kept;
      }

  flush-running : (x : ClientChannel) (f : ServerChannel S) (us : List Request) (ds : List Reply) → x.phase ≡ Running → Pair r true sup x f us ds → Pair r true sup (flushed_running x) f (us ++ running r x) ds
  flush-running x f us ds ph h =
      let k : RunningOk sup x f us ds = subst (λ (p : Phase). InPhase p sup x f us ds) ph h.phase in
      let ps = parts (length (goes x)) r.part (goes x) in
      let z = credits-inputs ps (eof_now x) (close_now x) in
      let a = credits_up-append us (running r x) in
      let cu : credits_up (us ++ running r x) ≡ credits_up us = omega arith in
      let w = h.in_window in
      let g = ready-length x.input x.sent x.may in
      record {
        command = h.command;
        input = subst (λ (cs : List Cell). Flow x.input (x.sent + length (goes x)) (eofs x.eof) (x.said || eof_now x) cs f.input (eofs f.eof)) (sym (cells_in-append us (running r x) ∙ ap (λ l. cells_in us ++ l) (cells-inputs ps (eof_now x) (close_now x)))) (input-send r.part x.may fair.part x.eof h.input);
        output = h.output;
        in_window = record { within = w.within; exact = w.exact; sent = let s = w.sent in omega arith; taken = w.taken };
        out_window = subst (λ (n : ℕ). Window r.window f.sent f.may n (length x.got) x.taken true) (sym cu) h.out_window;
        begun = begun-append us (running r x) k.open-yet h.begun (begun-inputs ps (eof_now x) (close_now x));
        phase = subst (λ (p : Phase). InPhase (cond (close_now x) Closed p) sup (flushed_running x) f (us ++ running r x) ds) (sym ph) (flush-pair x f us ds h k (close_now x) refl);
      }

  -- a channel that is not running is as it was
  flush-still : (x : ClientChannel) (sx : Option (ServerChannel S)) (us : List Request) (ds : List Reply) → runs x.phase ≡ false → Local r true sup (Some x) sx us ds → Local r true sup (Some (flushed x)) sx (us ++ requests r x) ds
  flush-still x sx us ds e h =
      subst (λ (y : ClientChannel). Local r true sup (Some y) sx (us ++ requests r x) ds) (sym (idle-phase r x e).0)
      (subst (λ (l : List Request). Local r true sup (Some x) sx l ds) (sym (ap (λ l. us ++ l) (idle-phase r x e).1 ∙ append-nil us)) h)

  flush-moves : (x : ClientChannel) (sx : Option (ServerChannel S)) (us : List Request) (ds : List Reply) → x.phase ≡ Running → Local r true sup (Some x) sx us ds → Local r true sup (Some (flushed x)) sx (us ++ requests r x) ds
  flush-moves x None us ds e h = absurd (subst (λ (p : Phase). AloneIn p x us ds) e h.1)
  flush-moves x (Some f) us ds e h =
      let q = running-phase r x (ap runs e) in
      subst (λ (y : ClientChannel). Pair r true sup y f (us ++ requests r x) ds) (sym q.0)
      (subst (λ (l : List Request). Pair r true sup (flushed_running x) f (us ++ l) ds) (sym q.1) (flush-running x f us ds e h))

  flush-some : (x : ClientChannel) (sx : Option (ServerChannel S)) (us : List Request) (ds : List Reply) (p : Phase) → x.phase ≡ p → Local r true sup (Some x) sx us ds → Local r true sup (Some (flushed x)) sx (us ++ requests r x) ds
  flush-some x sx us ds Asked e h = flush-still x sx us ds (ap runs e) h
  flush-some x sx us ds Running e h = flush-moves x sx us ds e h
  flush-some x sx us ds Refused e h = flush-still x sx us ds (ap runs e) h
  flush-some x sx us ds Closed e h = flush-still x sx us ds (ap runs e) h

  -- What goes by itself keeps what is known of a channel.
  pub flush-local : (cx : Option ClientChannel) (sx : Option (ServerChannel S)) (us : List Request) (ds : List Reply) → Local r true sup cx sx us ds → Local r true sup (option_map flushed cx) sx (us ++ those (requests r) cx) ds
  flush-local None None us ds h = (append-nil us ∙ h.0, h.1)
  flush-local None (Some f) us ds h = absurd h
  flush-local (Some x) sx us ds h = flush-some x sx us ds x.phase refl h

-- The user's commands. One that types or ends the input changes nothing else.
abbrev typed : List ℕ → Bool → ClientChannel → ClientChannel
typed i b x = record { number = x.number; command = x.command; phase = x.phase; input = i; sent = x.sent; may = x.may; eof = b; said = x.said; got = x.got; taken = x.taken; exit = x.exit }

fresh-typed : (i : List ℕ) (b : Bool) (x : ClientChannel) → Fresh x → Fresh (typed i b x)
fresh-typed i b x h = record { sent = h.sent; may = h.may; said = h.said; got = h.got; taken = h.taken; exit = h.exit }

alone-typed : (p : Phase) (i : List ℕ) (b : Bool) (x : ClientChannel) (us : List Request) (ds : List Reply) → AloneIn p x us ds → AloneIn p (typed i b x) us ds
alone-typed Asked i b x us ds h = h
alone-typed Running i b x us ds h = h
alone-typed Refused i b x us ds h = h
alone-typed Closed i b x us ds h = h

module _ {S : Type 0} (r : Rules) (cup sup : Bool) where
  phase-typed : (p : Phase) (i : List ℕ) (b : Bool) (x : ClientChannel) (f : ServerChannel S) (us : List Request) (ds : List Reply) → InPhase p sup x f us ds → InPhase p sup (typed i b x) f us ds
  phase-typed Asked i b x f us ds h = record { fresh = fresh-typed i b x h.fresh; none-there = h.none-there; rest = h.rest; answer = h.answer; answered = h.answered; kept = h.kept }
  phase-typed Running i b x f us ds h = record { answered = h.answered; told = h.told; open-yet = h.open-yet; kept = h.kept }
  phase-typed Refused i b x f us ds h = absurd h
  phase-typed Closed i b x f us ds h = record { none-back = h.none-back; told = h.told; all = h.all; gone = h.gone; close = h.close }

  typed-local : (i : List ℕ) (b : Bool) (x : ClientChannel) (sx : Option (ServerChannel S)) (us : List Request) (ds : List Reply) →
      ((cells : List Cell) (got : List ℕ) (told : Option ℕ) → Flow x.input x.sent (eofs x.eof) x.said cells got told → Flow i x.sent (eofs b) x.said cells got told) →
      Local r cup sup (Some x) sx us ds → Local r cup sup (Some (typed i b x)) sx us ds
  typed-local i b x None us ds g h = (fresh-typed i b x h.0, alone-typed x.phase i b x us ds h.1)
  typed-local i b x (Some f) us ds g h = record { command = h.command; input = g (cells_in us) f.input (eofs f.eof) h.input; output = h.output; in_window = h.in_window; out_window = h.out_window; begun = h.begun; phase = phase-typed x.phase i b x f us ds h.phase }

  pub enter-local : (bs : List ℕ) (x : ClientChannel) (sx : Option (ServerChannel S)) (us : List Request) (ds : List Reply) → x.eof ≡ false → Local r cup sup (Some x) sx us ds → Local r cup sup (Some (entered bs x)) sx us ds
  enter-local bs x sx us ds e h =
      typed-local (x.input ++ bs) x.eof x sx us ds
      (λ cells got told g. subst (λ (b : Bool). Flow (x.input ++ bs) x.sent (eofs b) x.said cells got told) (sym e) (flow-grow bs (subst (λ (b : Bool). Flow x.input x.sent (eofs b) x.said cells got told) e g))) h

  pub finish-local : (x : ClientChannel) (sx : Option (ServerChannel S)) (us : List Request) (ds : List Reply) → x.eof ≡ false → Local r cup sup (Some x) sx us ds → Local r cup sup (Some (finished x)) sx us ds
  finish-local x sx us ds e h =
      typed-local x.input true x sx us ds (λ cells got told g. flow-end 0 (subst (λ (b : Bool). Flow x.input x.sent (eofs b) x.said cells got told) e g)) h

  pub start-local : (t k : ℕ) (sx : Option (ServerChannel S)) (us : List Request) (ds : List Reply) → Local r cup sup None sx us ds → Local r cup sup (Some (new_channel t k)) sx (us ++ (Run k ∷ [])) ds
  start-local t k None us ds h = (record { sent = refl; may = refl; said = refl; got = refl; taken = refl; exit = refl }, inl (ap (λ l. l ++ (Run k ∷ [])) h.0, h.1))
  start-local t k (Some f) us ds h = absurd h

-- nothing is there to be taken of a channel to which nothing came
none-there : (n : ℕ) (x : ClientChannel) → Fresh x → n ≤ length x.got - x.taken → n ≡ 0
none-there n x h l = let g = ap length h.got in omega arith

-- how the taking of n bytes is told
abbrev pub credit_of : Bool → ℕ → List Request
credit_of up zero = []
credit_of up (suc n) = cond up (OutputCredit (suc n) ∷ []) []

credit-sum : (up : Bool) (n : ℕ) → credits_up (credit_of up n) ≤ n
unfolding credits_up
credit-sum up zero = omega arith
credit-sum true (suc n) = omega arith
credit-sum false (suc n) = omega arith

credit-all : (up : Bool) (n : ℕ) → up ≡ true → credits_up (credit_of up n) ≡ n
unfolding credits_up
credit-all up zero e = refl
credit-all true (suc n) e = omega arith
credit-all false (suc n) e = absurd (true≢false (sym e))

credit-cells : (up : Bool) (n : ℕ) → cells_in (credit_of up n) ≡ []
unfolding cells_in
credit-cells up zero = refl
credit-cells true (suc n) = refl
credit-cells false (suc n) = refl

credit-close : (up : Bool) (n : ℕ) → has_close (credit_of up n) ≡ false
unfolding has_close
credit-close up zero = refl
credit-close true (suc n) = refl
credit-close false (suc n) = refl

credit-begun : (up : Bool) (n : ℕ) → Begun (credit_of up n)
unfolding Begun
credit-begun up zero = tt
credit-begun true (suc n) = tt
credit-begun false (suc n) = tt

module _ {S : Type 0} (r : Rules) (cup sup : Bool) where
  take_none : (x : ClientChannel) (sx : Option (ServerChannel S)) (us : List Request) (ds : List Reply) (n : ℕ) → n ≡ 0 → Local r cup sup (Some x) sx us ds → Local r cup sup (Some (took_more n x)) sx (us ++ credit_of cup n) ds
  take_none x sx us ds n e h =
      let z : x.taken ≡ x.taken + n = omega arith in
      let y : x ≡ took_more n x = λ i. record { number = x.number; command = x.command; phase = x.phase; input = x.input; sent = x.sent; may = x.may; eof = x.eof; said = x.said; got = x.got; taken = z i; exit = x.exit } in
      subst (λ (c : ClientChannel). Local r cup sup (Some c) sx (us ++ credit_of cup n) ds) y (subst (λ (l : List Request). Local r cup sup (Some x) sx l ds) (sym (ap (λ m. us ++ credit_of cup m) e ∙ append-nil us)) h)

  take-running : (n : ℕ) (x : ClientChannel) (f : ServerChannel S) (us : List Request) (ds : List Reply) → x.phase ≡ Running → n ≤ length x.got - x.taken → Pair r cup sup x f us ds → Pair r cup sup (took_more n x) f (us ++ credit_of cup n) ds
  take-running n x f us ds ph l h =
      let k : RunningOk sup x f us ds = subst (λ (p : Phase). InPhase p sup x f us ds) ph h.phase in
      let w = h.out_window in
      let a = credits_up-append us (credit_of cup n) in
      let b = credit-sum cup n in
      record {
        command = h.command;
        input = subst (λ (cs : List Cell). Flow x.input x.sent (eofs x.eof) x.said cs f.input (eofs f.eof)) (sym (cells_in-append us (credit_of cup n) ∙ ap (λ l. cells_in us ++ l) (credit-cells cup n) ∙ append-nil (cells_in us))) h.input;
        output = h.output;
        in_window = h.in_window;
        out_window = record { within = let v = w.within in omega arith; exact = λ u. let v = w.exact u in let c = credit-all cup n u in omega arith; sent = w.sent; taken = let v = w.taken in omega arith };
        begun = begun-append us (credit_of cup n) k.open-yet h.begun (credit-begun cup n);
        phase = subst (λ (p : Phase). InPhase p sup (took_more n x) f (us ++ credit_of cup n) ds) (sym ph)
            (record { answered = k.answered; told = k.told; open-yet = has_close-append us (credit_of cup n) ∙ ap (λ b. b || has_close (credit_of cup n)) k.open-yet ∙ credit-close cup n; kept = k.kept });
      }

  pub take-local : (n : ℕ) (x : ClientChannel) (sx : Option (ServerChannel S)) (us : List Request) (ds : List Reply) → is_held x ≡ true → n ≤ length x.got - x.taken → Local r cup sup (Some x) sx us ds → Local r cup sup (Some (took_more n x)) sx (us ++ credit_of cup n) ds
  take-local n x None us ds e l h = take_none x None us ds n (none-there n x h.0 l) h
  take-local n x (Some f) us ds e l h = go x.phase refl e
    where
      go : (p : Phase) → x.phase ≡ p → holds p ≡ true → Pair r cup sup (took_more n x) f (us ++ credit_of cup n) ds
      go Asked q d = take_none x (Some f) us ds n (none-there n x (subst (λ (p : Phase). InPhase p sup x f us ds) q h.phase).fresh l) h
      go Running q d = take-running n x f us ds q l h
      go Refused q d = absurd (true≢false (sym d))
      go Closed q d = absurd (true≢false (sym d))
