-- One channel in a turn of its program, and at the cut. Assumes nothing.
use Rattle.std.proofs.Common.{◌≡◌, ℕ, zero, suc, ◌-◌, ◌≤◌, Bool, true, false, cond, not, ◌&&◌, ◌||◌, eqb, ltb, leb, List, [], ◌∷◌, ◌++◌, length, drop, Some, None, Option, sym, refl, ap, ◌∙◌, subst, append-nil, arith}
use Rattle.std.proofs.lemmas.List.{length-take, length-drop}
use Rattle.std.proofs.lemmas.Bool.{true≢false}
use Rattle.std.specs.Option.{option_map}
use Rattle.model.specs.Messages.{Rules, Fair, Request, Reply, InputCredit, Does, Reads, Writes, Ends, GoesOn, Programs, is_some}
use Rattle.model.specs.Client.{ClientChannel, Phase, Asked, Running, Refused, Closed}
use Rattle.model.specs.Server.{ServerChannel, read_more, wrote_more, ended, counted, forgot, portion, is_part, Turned, turned, ends, reads, writes, doing, drained_by, drained, turn_in}
use Rattle.model.proofs.Flow.{Cell, lasts, Flow, flow-grow, flow-end, flow-unsaid, flow-said, unsaid-lasts}
use Rattle.model.proofs.Local.{cells_out, credits_back, Answered, Window, InPhase, Pair, Local, cells_out-append, credits_back-append, answered-append}

-- how the reading of n bytes is told
abbrev pub credit_back : Bool → ℕ → List Reply
credit_back up zero = []
credit_back up (suc n) = cond up (InputCredit (suc n) ∷ []) []

credit-sum : (up : Bool) (n : ℕ) → credits_back (credit_back up n) ≤ n
unfolding credits_back
credit-sum up zero = omega arith
credit-sum true (suc n) = omega arith
credit-sum false (suc n) = omega arith

credit-all : (up : Bool) (n : ℕ) → up ≡ true → credits_back (credit_back up n) ≡ n
unfolding credits_back
credit-all up zero e = refl
credit-all true (suc n) e = omega arith
credit-all false (suc n) e = absurd (true≢false (sym e))

credit-cells : (up : Bool) (n : ℕ) → cells_out (credit_back up n) ≡ []
unfolding cells_out
credit-cells up zero = refl
credit-cells true (suc n) = refl
credit-cells false (suc n) = refl

credit-answered : (up : Bool) (n : ℕ) → Answered (credit_back up n)
unfolding Answered
credit-answered up zero = tt
credit-answered true (suc n) = tt
credit-answered false (suc n) = tt

module _ {S : Type 0} (sup : Bool) (x : ClientChannel) (f : ServerChannel S) (us : List Request) (ds : List Reply) where
  same-phase : (p : Phase) (y : ServerChannel S) → y.forgotten ≡ f.forgotten → InPhase p sup x f us ds → InPhase p sup x y us ds
  same-phase Asked y e k = record { fresh = k.fresh; none-there = k.none-there; rest = k.rest; answer = k.answer; answered = k.answered; kept = λ u. e ∙ k.kept u }
  same-phase Running y e k = record { answered = k.answered; told = k.told; open-yet = k.open-yet; kept = λ u. e ∙ k.kept u }
  same-phase Refused y e k = k
  same-phase Closed y e k = record { none-back = k.none-back; told = k.told; all = k.all; gone = λ u g. k.gone u (sym e ∙ g); close = λ u g. k.close u (sym e ∙ g) }

module _ {S : Type 0} (r : Rules) (cup sup : Bool) (x : ClientChannel) (f : ServerChannel S) (us : List Request) (ds : List Reply) where
  pair-counted : Pair r cup sup x f us ds → Pair r cup sup x (counted f) us ds
  pair-counted h = record { command = h.command; input = h.input; output = h.output; in_window = h.in_window; out_window = h.out_window; begun = h.begun; phase = same-phase sup x f us ds x.phase (counted f) refl h.phase }

module _ {S : Type 0} (r : Rules) (fair : Fair r) (cup sup : Bool) (x : ClientChannel) (f : ServerChannel S) (us : List Request) (ds : List Reply) (live : f.exit ≡ None) where
  -- nothing was told of an end that has not come
  untold : Pair r cup sup x f us ds → is_some x.exit ≡ true → ⊥
  untold h t = go x.exit t h.output
    where
      go : (o : Option ℕ) → is_some o ≡ true → Flow f.wrote f.sent f.exit f.said (cells_out ds) x.got o → ⊥
      go None q g = true≢false (sym q)
      go (Some n) q g = let z = flow-said n g in let y = z.1 in let u : ◌≡◌ {A = ℕ} 0 1 = cc in omega arith

  open-flow : Pair r cup sup x f us ds → Flow f.wrote f.sent None f.said (cells_out ds) x.got x.exit
  open-flow h = subst (λ (o : Option ℕ). Flow f.wrote f.sent o f.said (cells_out ds) x.got x.exit) live h.output

  no_end : Pair r cup sup x f us ds → lasts (cells_out ds) ≡ []
  no_end h = (unsaid-lasts r.part f.may fair.part (subst (λ (b : Bool). Flow f.wrote f.sent None b (cells_out ds) x.got x.exit) (flow-unsaid (open-flow h)) (open-flow h))).1

  read-phase : (p : Phase) (n : ℕ) (s : S) → Pair r cup sup x f us ds → InPhase p sup x f us ds → InPhase p sup x (read_more n s f) us (ds ++ credit_back sup n)
  unfolding cells_out
  read-phase Asked n s h k =
      record {
        fresh = k.fresh;
        none-there = k.none-there;
        rest = k.rest ++ credit_back sup n;
        answer = ap (λ l. l ++ credit_back sup n) k.answer;
        answered = answered-append k.rest (credit_back sup n) (ap (λ l. lasts (cells_out l)) (sym k.answer) ∙ no_end h) k.answered (credit-answered sup n);
        kept = k.kept;
      }
  read-phase Running n s h k =
      record { answered = answered-append ds (credit_back sup n) (no_end h) k.answered (credit-answered sup n); told = λ t. absurd (untold h t); open-yet = k.open-yet; kept = k.kept }
  read-phase Refused n s h k = k
  read-phase Closed n s h k = absurd (untold h k.told)

  pair_read : (n : ℕ) (s : S) → n ≤ length f.input - f.read → Pair r cup sup x f us ds → Pair r cup sup x (read_more n s f) us (ds ++ credit_back sup n)
  pair_read n s l h =
      let a = credits_back-append ds (credit_back sup n) in
      let b = credit-sum sup n in
      let w = h.in_window in
      record {
        command = h.command;
        input = h.input;
        output = subst (λ (cs : List Cell). Flow f.wrote f.sent f.exit f.said cs x.got x.exit) (sym (cells_out-append ds (credit_back sup n) ∙ ap (λ l. cells_out ds ++ l) (credit-cells sup n) ∙ append-nil (cells_out ds))) h.output;
        in_window = record { within = let v = w.within in omega arith; exact = λ u. let v = w.exact u in let c = credit-all sup n u in omega arith; sent = w.sent; taken = let v = w.taken in omega arith };
        out_window = h.out_window;
        begun = h.begun;
        phase = read-phase x.phase n s h h.phase;
      }

  pair-wrote : (bs : List ℕ) (s : S) → Pair r cup sup x f us ds → Pair r cup sup x (wrote_more bs s f) us ds
  pair-wrote bs s h =
      record {
        command = h.command;
        input = h.input;
        output = subst (λ (o : Option ℕ). Flow (f.wrote ++ bs) f.sent o f.said (cells_out ds) x.got x.exit) (sym live) (flow-grow bs (open-flow h));
        in_window = h.in_window;
        out_window = h.out_window;
        begun = h.begun;
        phase = same-phase sup x f us ds x.phase (wrote_more bs s f) refl h.phase;
      }

  pair_ended : (n : ℕ) → Pair r cup sup x f us ds → Pair r cup sup x (ended n f) us ds
  pair_ended n h =
      record {
        command = h.command;
        input = h.input;
        output = flow-end n (open-flow h);
        in_window = h.in_window;
        out_window = h.out_window;
        begun = h.begun;
        phase = same-phase sup x f us ds x.phase (ended n f) refl h.phase;
      }

  still-there : Pair r cup sup x f us ds → Pair r cup sup x f us (ds ++ [])
  still-there h = subst (λ (l : List Reply). Pair r cup sup x f us l) (sym (append-nil ds)) h

portion-fits : {S : Type 0} (k : ℕ) (f : ServerChannel S) → length (portion k f) ≤ length f.input - f.read
portion-fits k f = let a = length-take k (drop f.read f.input) in let b = length-drop f.read f.input in omega arith

module _ {S E : Type 0} (r : Rules) (fair : Fair r) (p : Programs S E) (e : E) (cup sup : Bool) (x : ClientChannel) (f : ServerChannel S) (us : List Request) (ds : List Reply) (live : f.exit ≡ None) (h : Pair r cup sup x f us ds) where
  -- what a turn leaves is known as before, with what it sends
  abbrev After : Turned S E → Type 0
  After y = Pair r cup sup x y.channel us (ds ++ credit_back sup y.freed)

  ends-ok : (n : ℕ) → After (ends p e f n)
  ends-ok n = subst (λ (l : List Reply). Pair r cup sup x (ended n f) us l) (sym (append-nil ds)) (pair_ended r fair cup sup x f us ds live n h)

  waits-ok : After (turned e f 0)
  waits-ok = still-there r fair cup sup x f us ds live h

  writes_ok : (bs : List ℕ) → After (writes p e f bs)
  writes_ok bs = subst (λ (l : List Reply). Pair r cup sup x (wrote_more bs (p.next e f.state [] false) f) us l) (sym (append-nil ds)) (pair-wrote r fair cup sup x f us ds live bs (p.next e f.state [] false) h)

  reads_ok : (k : ℕ) → After (reads p e f (portion k f))
  reads_ok k = pair_read r fair cup sup x f us ds live (length (portion k f)) (p.next e f.state (portion k f) (eqb (length (portion k f)) 0)) (portion-fits k f) h

  pick : (b : Bool) (y z : Turned S E) → After y → After z → After (cond b y z)
  pick true y z a c = a
  pick false y z a c = c

  doing-ok : (up : Bool) (d : Does) → After (doing r p up e f d)
  doing-ok up (Reads k) =
      pick (is_part r k) (cond (ltb 0 (length (portion k f)) || f.eof) (reads p e f (portion k f)) (turned e f 0)) (ends p e f 255)
      (pick (ltb 0 (length (portion k f)) || f.eof) (reads p e f (portion k f)) (turned e f 0) (reads_ok k) waits-ok) (ends-ok 255)
  doing-ok up (Writes bs) =
      pick (is_part r (length bs)) (cond (not up || leb (length f.wrote) f.may) (writes p e f bs) (turned e f 0)) (ends p e f 255)
      (pick (not up || leb (length f.wrote) f.may) (writes p e f bs) (turned e f 0) (writes_ok bs) waits-ok) (ends-ok 255)
  doing-ok up (Ends n) = ends-ok (cond (leb n 255) n 255)
  doing-ok up GoesOn = writes_ok []

-- while the server is down, what a turn frees is told to nobody
down-nothing : (n : ℕ) → credit_back false n ≡ []
down-nothing zero = refl
down-nothing (suc n) = refl

module _ {S E : Type 0} (r : Rules) (fair : Fair r) (p : Programs S E) (cup : Bool) (x : ClientChannel) (us : List Request) (ds : List Reply) where
  drained-by : (y : Turned S E) (b : Bool) → (b ≡ true → y.channel.exit ≡ None) → Pair r cup false x y.channel us ds → Pair r cup false x (drained_by p y b).channel us ds
  drained-by y true q h = pair_ended r fair cup false x (counted y.channel) us ds (q refl) 255 (pair-counted r cup false x y.channel us ds h)
  drained-by y false q h = pair-counted r cup false x y.channel us ds h

  drained-freed : (y : Turned S E) (b : Bool) → (drained_by p y b).freed ≡ 0
  drained-freed y true = refl
  drained-freed y false = refl

  not-ended : (o : Option ℕ) (b : Bool) → (not (is_some o) && b) ≡ true → o ≡ None
  not-ended None b e = refl
  not-ended (Some n) b e = absurd (true≢false (sym e))

  drained-ok : (y : Turned S E) → Pair r cup false x y.channel us (ds ++ credit_back false y.freed) → Pair r cup false x (drained p y).channel us (ds ++ credit_back false (drained p y).freed)
  drained-ok y h =
      let b = not (is_some y.channel.exit) && leb y.channel.left 1 in
      let g : Pair r cup false x y.channel us ds = subst (λ (l : List Reply). Pair r cup false x y.channel us l) (ap (λ l. ds ++ l) (down-nothing y.freed) ∙ append-nil ds) h in
      subst (λ (l : List Reply). Pair r cup false x (drained p y).channel us l) (sym (ap (λ l. ds ++ l) (down-nothing (drained p y).freed) ∙ append-nil ds)) (drained-by y b (not-ended y.channel.exit (leb y.channel.left 1)) g)

  -- A turn keeps what is known of its channel, with what it sends.
  pub turn-local : (sup : Bool) (e : E) (f : ServerChannel S) → f.exit ≡ None → Pair r cup sup x f us ds → Pair r cup sup x (turn_in r p sup e f).channel us (ds ++ credit_back sup (turn_in r p sup e f).freed)
  turn-local true e f live h = doing-ok r fair p e cup true x f us ds live h true (p.does e f.state)
  turn-local false e f live h = drained-ok (doing r p false e f (p.does e f.state)) (doing-ok r fair p e cup false x f us ds live h false (p.does e f.state))

-- The cut: a side that is down asks less.
down-window : {size s m credits heard k : ℕ} {up : Bool} → Window size s m credits heard k up → Window size s m credits heard k false
down-window w = record { within = w.within; exact = λ u. absurd (true≢false (sym u)); sent = w.sent; taken = w.taken }

module _ {S : Type 0} (r : Rules) where
  down-phase : (p : Phase) (sup : Bool) (x : ClientChannel) (f : ServerChannel S) (y : ServerChannel S) (us : List Request) (ds : List Reply) → InPhase p sup x f us ds → InPhase p false x y us ds
  down-phase Asked sup x f y us ds k = record { fresh = k.fresh; none-there = k.none-there; rest = k.rest; answer = k.answer; answered = k.answered; kept = λ u. absurd (true≢false (sym u)) }
  down-phase Running sup x f y us ds k = record { answered = k.answered; told = k.told; open-yet = k.open-yet; kept = λ u. absurd (true≢false (sym u)) }
  down-phase Refused sup x f y us ds k = k
  down-phase Closed sup x f y us ds k = record { none-back = k.none-back; told = k.told; all = k.all; gone = λ u g. absurd (true≢false (sym u)); close = λ u g. absurd (true≢false (sym u)) }

  pub cut-there : (cup sup : Bool) (cx : Option ClientChannel) (sx : Option (ServerChannel S)) (us : List Request) (ds : List Reply) → Local r cup sup cx sx us ds → Local r cup false cx sx us ds
  cut-there cup sup None None us ds h = h
  cut-there cup sup None (Some f) us ds h = h
  cut-there cup sup (Some x) None us ds h = h
  cut-there cup sup (Some x) (Some f) us ds h =
      record { command = h.command; input = h.input; output = h.output; in_window = down-window h.in_window; out_window = h.out_window; begun = h.begun; phase = down-phase x.phase sup x f f us ds h.phase }

  pub cut-here : (cup sup : Bool) (cx : Option ClientChannel) (sx : Option (ServerChannel S)) (us : List Request) (ds : List Reply) → Local r cup sup cx sx us ds → Local r false sup cx sx us ds
  cut-here cup sup None None us ds h = h
  cut-here cup sup None (Some f) us ds h = h
  cut-here cup sup (Some x) None us ds h = h
  cut-here cup sup (Some x) (Some f) us ds h = record { command = h.command; input = h.input; output = h.output; in_window = h.in_window; out_window = down-window h.out_window; begun = h.begun; phase = h.phase }

  pub forgot-local : (cup : Bool) (cx : Option ClientChannel) (sx : Option (ServerChannel S)) (us : List Request) (ds : List Reply) → Local r cup false cx sx us ds → Local r cup false cx (option_map forgot sx) us ds
  forgot-local cup None None us ds h = h
  forgot-local cup None (Some f) us ds h = h
  forgot-local cup (Some x) None us ds h = h
  forgot-local cup (Some x) (Some f) us ds h =
      record { command = h.command; input = h.input; output = h.output; in_window = h.in_window; out_window = h.out_window; begun = h.begun; phase = down-phase x.phase false x f (forgot f) us ds h.phase }
